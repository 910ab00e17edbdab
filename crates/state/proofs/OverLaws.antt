-- A record put over another where that stands is what an insertion leaves, and a store. Assumes nothing.
use Rattle.std.proofs.lemmas.Option.{none-some}
use Rattle.std.specs.Prelude.{Ok, None, Some, Option}
use mathlib.Core.Path.{◌≡◌, refl, sym, ap, subst, ◌∙◌}
use mathlib.Core.Bool.{Bool, true, false, true≢false}
use mathlib.Core.List.{List, ◌∷◌}
use Prim.Native.Nat.{ℕ, suc, ◌+◌, ◌-◌}
use native.Mathlib.Omega.{arith}
use lib.ListN.{get_or}
use Rattle.model.specs.Walk.{Tried, refused, done}
use Rattle.model.specs.Access.{index}
use Rattle.area.specs.Cells.{blank}
use Rattle.area.specs.declared.Cell.{Cell}
use Rattle.intmap.specs.Change.{rekey}
use Rattle.intmap.specs.Entries.{span}
use Rattle.intmap.specs.Find.{seek_place, seek_found}
use Rattle.intmap.specs.Get.{index_of, Judges, Index}
use Rattle.intmap.specs.Map.{levels, IsMap}
use Rattle.intmap.specs.Over.{Coverable, CopiesOver, Overlaid}
use Rattle.intmap.specs.Pack.{key_of, class_key}
use Rattle.intmap.specs.Runs.{size, IsColumn}
use Rattle.intmap.specs.Signed.{int_of}
use Rattle.intmap.specs.declared.IntMap.{IntMap}
use Rattle.intmap.proofs.ChangeLaws.{key-rekey}
use Rattle.intmap.proofs.EntryLaws.{opened}
use Rattle.intmap.proofs.FindLaws.{answers_found, seek_key}
use Rattle.intmap.proofs.JudgedLaws.{store_tried}
use Rattle.intmap.proofs.OverLaws.{overwritten_run}
use Rattle.intmap.proofs.RunLaws.{size-pos}
use Rattle.intmap.proofs.StoreLaws.{found_column}
use Rattle.state.specs.Own.{entry_slot}
use Rattle.state.specs.Over.{headed, OverEntry, OverRegister}
use Rattle.state.proofs.OwnLaws.{entry_led}

-- an index is judged one way
abbrev judged : Tried ℕ → ℕ
judged (refused n) = 0
judged (done k) = suc k

-- the entry that was found
module _ (cs : List Cell) (a : IntMap) (class k p : ℕ) (s : Option ℕ) (is : s ≡ entry_slot cs a class k) (e : s ≡ Some p) where
  led : (seek_found cs levels (class_key class k) a.len a.base ≡ true) × ((seek_place cs levels (class_key class k) a.len a.base).at ≡ p)
  led = entry_led cs a class k p (sym is ∙ e)

  pub entry_column : IsMap cs a → IsColumn cs levels p
  entry_column map = subst (IsColumn cs levels) led.1 (found_column cs a (class_key class k) map (answers_found cs levels (class_key class k) a.len a.base led.0))

  its_key : key_of (get_or cs p blank) ≡ class_key class k
  its_key = subst (λ q. key_of (get_or cs q blank) ≡ class_key class k) led.1 (seek_key cs levels (class_key class k) a.len a.base led.0)

  pub entry_over : {ds : List Cell} {at : ℕ} {c : Cell} {r : Bool} → CopiesOver cs ds at p c r → OverEntry cs ds a at c class k r
  entry_over {ds} {at} {c} copies =
      record {
        flat = copies.flat;
        yes = λ y limit has.
            (let over = subst (λ n. Overlaid cs ds p (rekey n (headed cs at c))) its_key (copies.yes y) in
            overwritten_run cs ds limit a (class_key class k) p (rekey (class_key class k) (headed cs at c)) has _ (answers_found cs levels (class_key class k) a.len a.base led.0) led.1 (key-rekey (class_key class k) (headed cs at c) (omega arith)) over);
        none = λ y q at-q able. copies.none y (subst (λ z. Coverable cs at z c) (same_place (sym at-q ∙ sym is ∙ e)) able);
        no = copies.no;
      }
    where
      same_place : {u v : ℕ} → Some u ≡ Some v → u ≡ v
      same_place {u} {v} f = cc

pub register_over : {cs ds : List Cell} {a : IntMap} {at : ℕ} {c : Cell} {i k : ℕ} {x : Index} {r : Bool} → Judges i x → x ≡ Ok k → OverEntry cs ds a at c 0 k r → OverRegister cs ds a at c i r
register_over {cs} {ds} {a} {at} {c} {i} {k} {x} judges xe over =
    record {
      flat = over.flat;
      yes = λ e limit depth has low.
          store_tried cs ds limit a 0 i depth (headed cs at c) x judges.answer k xe (class_key 0 k) (rekey (class_key 0 k) (headed cs at c)) (Ok a) low refl refl (over.yes e limit has);
      none = λ e j p d slot_at able. over.none e p (subst (λ z. entry_slot cs a 0 z ≡ Some p) (same_index j d) slot_at) able;
      no = over.no;
    }
  where
    same_index : (j : ℕ) → index (int_of i) ≡ done j → j ≡ k
    same_index j d = let same = ap judged (sym d ∙ sym judges.answer ∙ ap index_of xe) in omega (arith, same)

-- a run with its own head
pub headed_here : (cs : List Cell) (at : ℕ) (c : Cell) → c ≡ get_or cs at blank → headed cs at c ≡ span cs at (size cs levels at)
headed_here cs at c ce = ap (λ y. y ∷ span cs (at + 1) (size cs levels at - 1)) ce ∙ opened cs at (size cs levels at) (size-pos cs levels at)
