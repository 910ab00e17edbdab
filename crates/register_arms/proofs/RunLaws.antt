-- Turns of the definition's loop, first some and then the rest; and registers made null where they stand, one after the other.
-- Assumes nothing.
use Rattle.std.specs.Prelude.{Ok, Some}
use Rattle.intmap.specs.Store.{Stored}
use mathlib.Core.Path.{◌≡◌, refl, sym, ap, ap₂, subst, ◌∙◌}
use mathlib.Core.Bool.{Bool, true}
use mathlib.Core.List.{List}
use Prim.Native.Nat.{ℕ, zero, suc, ◌+◌, ◌-◌, ◌<◌, ◌≤◌}
use native.Mathlib.Omega.{arith}
use Rattle.type_info.specs.declared.DataType.TheVariants.{Null}
use Rattle.model.specs.Walk.{Tried, done}
use Rattle.model.specs.State.{Column, MemoryState, null, datatype_code}
use Rattle.model.specs.Access.{◌>>=◌, store_register}
use Rattle.model.specs.RegisterArms.{null_many}
use Rattle.area.specs.declared.Cell.{Cell}
use Rattle.intmap.specs.Get.{Gets, Slot}
use Rattle.intmap.specs.Signed.{int_of}
use Rattle.intmap.specs.declared.IntMap.{IntMap}
use Rattle.intmap.proofs.SignedLaws.{int_suc}
use Rattle.encoding.specs.Encode.{single, nullable_code}
use Rattle.state.specs.Leads.{Current, Leads}
use Rattle.state.specs.Own.{Overwrites}
use Rattle.state.proofs.LeadsLaws.{led_current, reached_first, reached_end, leads_then}
use Rattle.state.proofs.OwnLaws.{cell_leads}
use Rattle.state.proofs.StoreLeads.{leads_as, single_leads}
use Rattle.copy_arms.proofs.CopyLaws.{regroup}
use Rattle.copy_arms.proofs.TurnLaws.{bind_same, bind_done}
use Rattle.register_arms.specs.Nulls.{NullsRun}
use Rattle.register_arms.proofs.NullLaws.{null-turn, null-none}

-- ---- turns of the definition's loop

module _ (limit : ℕ) where
  -- n turns from i on
  abbrev many : ℕ → ℕ → MemoryState → Tried MemoryState
  many n i = null_many limit n (int_of i)

  abbrev one : ℕ → MemoryState → Tried MemoryState
  one i = store_register limit (int_of i) (Column null)

  null_same : (n i k j : ℕ) → n ≡ k → i ≡ j → (m : MemoryState) → many n i m ≡ many k j m
  null_same n i k j ne ie m = ap₂ (λ x y. many x y m) ne ie

  null_opens : (n i : ℕ) → 0 < n → (m : MemoryState) → many n i m ≡ one i m >>= many (n - 1) (i + 1)
  null_opens n i lt m = null-turn limit n (int_of i) m lt ∙ ap (λ z. one i m >>= null_many limit (n - 1) z) (int_suc i)

  null_stops : (n i : ℕ) → n ≤ 0 → (m : MemoryState) → many n i m ≡ done m
  null_stops n i le m = null-none limit n (int_of i) m (λ h. omega (arith, h))

  -- r of n, and then the rest
  null_split : (r n i : ℕ) → r ≤ n → (m : MemoryState) → many n i m ≡ many r i m >>= many (n - r) (i + r)
  null_split zero n i le m =
      null_same n i (n - 0) (i + 0) (omega arith) (omega arith) m
      ∙ sym (ap (λ t. t >>= many (n - 0) (i + 0)) (null_stops 0 i (omega arith) m))
  null_split (suc r) n i le m =
      let less : suc r - 1 ≡ r = omega arith in
      let rest = many (n - suc r) (i + suc r) in
      null_opens n i (omega arith) m
      ∙ bind_same (one i m) (many (n - 1) (i + 1)) (λ s. many r (i + 1) s >>= rest)
      (λ s.
      null_split r (n - 1) (i + 1) (omega arith) s
      ∙ bind_same (many r (i + 1) s) (many (n - 1 - r) (i + 1 + r)) rest (null_same (n - 1 - r) (i + 1 + r) (n - suc r) (i + suc r) (omega arith) (omega arith)))
      ∙ regroup (one i m) (many r (i + 1)) rest
      ∙ ap (λ t. t >>= rest)
      (sym (null_opens (suc r) i (omega arith) m ∙ bind_same (one i m) (many (suc r - 1) (i + 1)) (many r (i + 1)) (null_same (suc r - 1) (i + 1) r (i + 1) less refl)))

  -- one more
  null_more : (r i : ℕ) (m : MemoryState) → many r i m >>= one (i + r) ≡ many (r + 1) i m
  null_more r i m =
      let last : r + 1 - r ≡ 1 = omega arith in
      sym (
      null_split r (r + 1) i (omega arith) m
      ∙ bind_same (many r i m) (many (r + 1 - r) (i + r)) (one (i + r))
      (λ s.
      null_same (r + 1 - r) (i + r) 1 (i + r) last refl s
      ∙ null_opens 1 (i + r) (omega arith) s
      ∙ bind_done (one (i + r) s) (many (1 - 1) (i + r + 1)) (null_stops (1 - 1) (i + r + 1) (omega arith)))
      )

-- ---- registers made null where they stand

pub run_none : (limit : ℕ) (cs : List Cell) (a : IntMap) (from n : ℕ) → Current limit cs a → NullsRun limit cs cs a from n 0
run_none limit cs a from n current =
    record { few = omega arith; leads = reached_end (reached_first limit cs a (null_many limit 0 (int_of from)) current) (null_stops limit 0 from (omega arith)) }

-- where the first of them is
pub got_inside : {cs : List Cell} {a : IntMap} {from p : ℕ} {x : Slot} → Gets cs a 0 from x → x ≡ Ok (Some p) → (a.base ≤ p) × (p ≤ a.base + a.used)
got_inside {cs} {a} {from} gets e = let g = subst (Gets cs a 0 from) e gets in (omega (arith, g.place.0), omega (arith, g.place.1))

-- d of them are null from cs to ds, and the next is to be looked for at p + d
pub record Nulling (limit : ℕ) (cs ds : List Cell) (a : IntMap) (p from n d : ℕ) : Type 0 where
  pub run : NullsRun limit cs ds a from n d
  pub current : Current limit ds a
  pub low : a.base ≤ p + d
  pub most : p + d ≤ a.base + a.used

pub nulling_first : (limit : ℕ) (cs : List Cell) (a : IntMap) (p from n : ℕ) → Current limit cs a → a.base ≤ p → p ≤ a.base + a.used → Nulling limit cs cs a p from n 0
nulling_first limit cs a p from n current low most =
    record { run = run_none limit cs a from n current; current = current; low = omega (arith, low); most = omega (arith, most) }

module _ {limit : ℕ} {cs ds : List Cell} {a : IntMap} {p from n d : ℕ} (nulling : Nulling limit cs ds a p from n d) {es : List Cell} {c : Cell} {r : Bool} (over : Overwrites ds es a (p + d) (from + d) c r) where
  pub nulling_on : Current limit cs a → d < n → c ≡ single (datatype_code Null) (nullable_code (Some true)) 0 → r ≡ true → Nulling limit cs es a p from n (d + 1)
  nulling_on current lt ce e =
      let step : Leads limit ds es a (Ok a) (store_register limit (int_of (from + d)) (Column null)) = cell_leads (over.yes e limit nulling.current.room) (single_leads limit ds es a (from + d) (Ok a) Null (Some true) c ce) in
      let inside = over.inside e in
      record {
        run = record {
          few = omega arith;
          leads = leads_as (Ok a) (null_more limit d from)
              (leads_then limit cs ds a (null_many limit d (int_of from)) (store_register limit (int_of (from + d)) (Column null)) current es a (Ok a) nulling.run.leads step);
        };
        current = led_current nulling.current a step;
        low = omega (arith, nulling.low);
        most = omega (arith, inside);
      }

-- ---- the rest of the loop

pub run_then : {limit : ℕ} {cs ds es : List Cell} {a : IntMap} {from n r : ℕ} (s : Stored) → Current limit cs a → NullsRun limit cs ds a from n r → Leads limit ds es a s (null_many limit (n - r) (int_of (from + r))) → Leads limit cs es a s (null_many limit n (int_of from))
run_then {limit} {cs} {ds} {es} {a} {from} {n} {r} s current run rest =
    leads_as s (λ m. sym (null_split limit r n from run.few m))
    (leads_then limit cs ds a (null_many limit r (int_of from)) (null_many limit (n - r) (int_of (from + r))) current es a s run.leads rest)
