-- From an entry of one cell the search for the next key leads to the next cell, if that has the key. Assumes nothing.
use Rattle.std.specs.Prelude.{Some, Option, Ok}
use mathlib.Core.Path.{◌≡◌, refl, sym, ap, ◌∙◌}
use mathlib.Core.Bool.{Bool, true, false}
use mathlib.Core.List.{List}
use Prim.Native.Nat.{ℕ, zero, suc, ◌+◌, ◌<◌}
use native.Mathlib.Omega.{arith}
use lib.Dec.{ltb}
use lib.ListN.{get_or}
use borrow.Author.Tests.{ltb-true}
use Rattle.area.specs.Cells.{blank}
use Rattle.area.specs.declared.Cell.{Cell}
use Rattle.intmap.specs.Find.{place, has_entry, seek_place, seek_found}
use Rattle.intmap.specs.Map.{levels, IsMap}
use Rattle.intmap.specs.Pack.{key_of, class_key}
use Rattle.intmap.specs.Pick.{pick}
use Rattle.intmap.specs.Runs.{size, sizes}
use Rattle.intmap.specs.declared.Place.{Place}
use Rattle.intmap.specs.declared.IntMap.{IntMap}
use Rattle.intmap.proofs.FindLaws.{seek_here, seek_past, entry_told, entry_is, answers_found, answered_ok}
use Rattle.intmap.proofs.RunLaws.{size-single}
use Rattle.intmap.proofs.StoreLaws.{found_in}
use Rattle.intmap.specs.Alike.{Alike}
use Rattle.intmap.proofs.Overwritten.{alike_seek}
use Rattle.state.specs.Own.{entry_slot}
use Rattle.state.proofs.OwnLaws.{entry_led}
use Rattle.copy_arms.specs.InPlace.{Alone, FoundAt, Leading}

-- ---- what stays

module _ {cs ds : List Cell} (s : Alike cs ds) where
  pub alike_found : {a : IntMap} {p k : ℕ} → FoundAt cs a p k → FoundAt ds a p k
  alike_found {a} {p} {k} f = record { left = f.left; is = f.is ∙ sym (alike_seek s levels (class_key 0 k) a.len a.base) }

-- a search that found it leads there
leads_there : (cs : List Cell) (a : IntMap) (p k : ℕ) → seek_found cs levels (class_key 0 k) a.len a.base ≡ true → (seek_place cs levels (class_key 0 k) a.len a.base).at ≡ p → FoundAt cs a p k
leads_there cs a p k there at =
    let w = seek_place cs levels (class_key 0 k) a.len a.base in
    record { left = w.left; is = ap (λ z. Ok (place z w.left)) (sym at) ∙ answers_found cs levels (class_key 0 k) a.len a.base there }

-- ---- the next cell

some_left : (f : ℕ → ℕ) (n b : ℕ) → 0 < sizes f n b → 0 < n
unfolding sizes
some_left f zero b lt = absurd (omega arith)
some_left f (suc n) b lt = omega arith

module _ (cs : List Cell) (d key next : ℕ) (less : key < next) (p : ℕ) (one : size cs d p ≡ 1) (is : key_of (get_or cs (p + 1) blank) ≡ next) where
  seek_next : (n b : ℕ) → (seek_place cs d key n b).at ≡ p → seek_found cs d key n b ≡ true → p + 1 < b + sizes (size cs d) n b
      → ((seek_place cs d next n b).at ≡ p + 1) × (seek_found cs d next n b ≡ true)
  unfolding seek_place sizes
  seek_next zero b at h lt = absurd (omega (arith, (entry_told cs key (place b 0) h).0))
  seek_next (suc n) b at h lt = go (ltb (key_of (get_or cs b blank)) key) refl at h (seek_next n (b + size cs d b))
    where
      on : key_of (get_or cs b blank) < next → (q : ℕ) → b + size cs d b ≡ q → ((seek_place cs d next n q).at ≡ p + 1) × (seek_found cs d next n q ≡ true) → ((seek_place cs d next (suc n) b).at ≡ p + 1) × (seek_found cs d next (suc n) b ≡ true)
      on below q qe found =
          let same = seek_past cs d next n b below ∙ ap (seek_place cs d next n) qe in
          (ap (λ w. w.at) same ∙ found.0, ap (has_entry cs next) same ∙ found.1)

      go : (t : Bool) → ltb (key_of (get_or cs b blank)) key ≡ t → (pick t (seek_place cs d key n (b + size cs d b)) (place b (suc n))).at ≡ p
          → has_entry cs key (pick t (seek_place cs d key n (b + size cs d b)) (place b (suc n))) ≡ true
          → ((seek_place cs d key n (b + size cs d b)).at ≡ p → seek_found cs d key n (b + size cs d b) ≡ true → p + 1 < b + size cs d b + sizes (size cs d) n (b + size cs d b) → ((seek_place cs d next n (b + size cs d b)).at ≡ p + 1) × (seek_found cs d next n (b + size cs d b) ≡ true))
          → ((seek_place cs d next (suc n) b).at ≡ p + 1) × (seek_found cs d next (suc n) b ≡ true)
      go true e at h ih = on (omega (arith, ltb-true (key_of (get_or cs b blank)) key e)) (b + size cs d b) refl (ih at h (omega arith))
      go false e at h ih =
          let same : size cs d b ≡ 1 = ap (size cs d) at ∙ one in
          let q : b + size cs d b ≡ p + 1 = omega (arith, at) in
          let rest = ap (sizes (size cs d) n) q in
          let left : 0 < n = some_left (size cs d) n (p + 1) (omega (arith, at)) in
          let w = seek_here cs d next n (p + 1) (get_or cs (p + 1) blank) left refl (omega (arith, is)) in
          on (omega (arith, (entry_told cs key (place b (suc n)) h).1)) (p + 1) q
          (sym (ap (λ v. v.at) w), sym (ap (has_entry cs next) w) ∙ entry_is cs next (place (p + 1) n) left is)

-- register k stands at p alone, and what is at p + 1 in ds, which is like cs, may be register k + 1
pub leading_next : {cs ds : List Cell} {a : IntMap} {p k : ℕ} → IsMap cs a → Alone cs a p k → FoundAt cs a p k → Alike cs ds → Leading ds a (p + 1) (k + 1)
leading_next {cs} {ds} {a} {p} {k} is alone found s =
    record {
      most = omega (arith, alone.inside);
      found = λ next.
          (let one : size cs levels p ≡ 1 = sym (size-single cs levels p (get_or cs p blank) refl alone.plain) in
          let same : key_of (get_or cs (p + 1) blank) ≡ class_key 0 (k + 1) = sym (s.keys (p + 1)) ∙ next.key in
          let was = answered_ok cs levels (class_key 0 k) a.len a.base _ found.is in
          let w = seek_next cs levels (class_key 0 k) (class_key 0 (k + 1)) (omega arith) p one same a.len a.base (ap (λ (v : Place). v.at) (sym was.0)) was.1 (omega (arith, next.inside, is.used)) in
          alike_found s (leads_there cs a (p + 1) (k + 1) w.1 w.0));
    }

-- an entry of register k stands at p
pub leading_entry : {cs : List Cell} {a : IntMap} {k p : ℕ} {s : Option ℕ} → IsMap cs a → s ≡ entry_slot cs a 0 k → s ≡ Some p → Leading cs a p k
leading_entry {cs} {a} {k} {p} is se sp =
    let led = entry_led cs a 0 k p (sym se ∙ sp) in
    record {
      most = omega (arith, led.1, (found_in cs a (class_key 0 k) is _ (answers_found cs levels (class_key 0 k) a.len a.base led.0)).1);
      found = λ alone. leads_there cs a p k led.0 led.1;
    }
