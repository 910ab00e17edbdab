-- Null's loop: what is still to come of the definition's loop is the whole. Assumes nothing.
use Rattle.refusal.specs.declared.Refusal.{Refusal}
use Rattle.std.specs.Prelude.{Ok, Err}
use Rattle.intmap.specs.Store.{Stored}
use mathlib.Core.Path.{◌≡◌, refl, sym, ap, ap₂, subst, ◌∙◌}
use mathlib.Core.List.{List}
use Prim.Native.Nat.{ℕ, zero, suc, ◌+◌, ◌-◌, ◌<◌, ◌≤◌}
use native.Mathlib.Omega.{arith}
use lib.IntN.{ℤ, suc_ℤ, ◌-ℤ◌}
use Rattle.model.specs.Walk.{done}
use Rattle.model.specs.Row.{Row as Listed}
use Rattle.model.specs.State.{Column, MemoryState, null}
use Rattle.model.specs.Access.{◌>>=◌, store_register}
use Rattle.model.specs.Meaning.{Meaning}
use Rattle.model.specs.Offer.{turns}
use Rattle.model.specs.Operation.{op_null}
use Rattle.model.specs.RegisterArms.{register_arm, null_turns, null_many}
use Rattle.area.specs.declared.Cell.{Cell}
use Rattle.intmap.specs.Signed.{int_of}
use Rattle.intmap.specs.Map.{Frame}
use Rattle.intmap.specs.declared.IntMap.{IntMap}
use Rattle.intmap.proofs.SignedLaws.{int_suc, int_difference}
use Rattle.rows.specs.Judged.{Judged}
use Rattle.rows.specs.declared.row.Row.{Row}
use Rattle.state.specs.Leads.{Current, Leads, HoldsMap, operands}
use Rattle.state.specs.Arms.{Standard}
use Rattle.state.proofs.LeadsLaws.{led_current}

-- the state that is held now leads where the first did
pub record Comes (limit bound : ℕ) (ds : List Cell) (b : IntMap) (from n i left : ℕ) (m : MemoryState) : Type 0 where
  pub state : MemoryState
  pub holds : HoldsMap limit bound ds b state
  pub same : null_many limit n (int_of from) m ≡ null_many limit left (int_of i) state

pub record Rest (limit : ℕ) (cs ds : List Cell) (a b : IntMap) (from n i left : ℕ) : Type 0 where
  pub current : Current limit ds b
  pub base : b.base ≡ a.base
  pub frame : Frame cs ds a.base (limit + limit)
  pub total : i + left ≡ from + n
  pub says : (bound : ℕ) (m : MemoryState) → operands ≤ bound → HoldsMap limit bound cs a m → Comes limit bound ds b from n i left m

join : (cs ds es : List Cell) (base other n : ℕ) → other ≡ base → Frame cs ds base n → Frame ds es other n → Frame cs es base n
join cs ds es base other n e f g =
    record {
      long = g.long ∙ f.long;
      below = λ j h. g.below j (omega (arith, e)) ∙ f.below j h;
      above = λ j h. g.above j (omega (arith, e)) ∙ f.above j h;
    }

pub null-turn : (limit left : ℕ) (i : ℤ) (m : MemoryState) → 0 < left → null_many limit left i m ≡ (store_register limit i (Column null) m >>= λ s. null_many limit (left - 1) (suc_ℤ i) s)
unfolding null_many
null-turn limit zero i m h = absurd (omega arith)
null-turn limit (suc left) i m h = let z : suc left - 1 ≡ left = omega arith in rw z

pub null-none : (limit left : ℕ) (i : ℤ) (m : MemoryState) → (0 < left → ⊥) → null_many limit left i m ≡ done m
unfolding null_many
null-none limit zero i m h = refl
null-none limit (suc left) i m h = absurd (h (omega arith))

module _ (limit : ℕ) (cs ds : List Cell) (a b : IntMap) (from n i left : ℕ) (rest : Rest limit cs ds a b from n i left) where
  pub null_ends : (0 < left → ⊥) → Leads limit cs ds a (Ok b) (null_many limit n (int_of from))
  null_ends z =
      record {
        says = λ bound m le h.
            (let o = rest.says bound m le h in
            record { state = o.state; answer = o.same ∙ null-none limit left (int_of i) o.state z; holds = o.holds });
        leaves = record { base = rest.base; room = rest.current.room };
        frame = rest.frame;
      }

  module _ (es : List Cell) (r : Stored) (more : 0 < left) (step : Leads limit ds es b r (store_register limit (int_of i) (Column null))) where
    pub null_refused : (k : Refusal) → r ≡ Err k → Leads limit cs es a (Err k) (null_many limit n (int_of from))
    null_refused k e =
        let told = subst (λ x. Leads limit ds es b x (store_register limit (int_of i) (Column null))) e step in
        record {
          says = λ bound m le h.
              (let o = rest.says bound m le h in
              o.same ∙ null-turn limit left (int_of i) o.state more
              ∙ ap (λ t. t >>= λ s. null_many limit (left - 1) (suc_ℤ (int_of i)) s) (told.says bound o.state le o.holds));
          leaves = tt;
          frame = join cs ds es a.base b.base (limit + limit) rest.base rest.frame told.frame;
        }

    pub null_again : (d : IntMap) → r ≡ Ok d → Rest limit cs es a d from n (i + 1) (left - 1)
    null_again d e =
        let told = subst (λ x. Leads limit ds es b x (store_register limit (int_of i) (Column null))) e step in
        record {
          current = led_current rest.current d told;
          base = told.leaves.base ∙ rest.base;
          frame = join cs ds es a.base b.base (limit + limit) rest.base rest.frame told.frame;
          total = omega (arith, rest.total);
          says = λ bound m le h.
              (let o = rest.says bound m le h in
              let next = told.says bound o.state le o.holds in
              record {
                state = next.state;
                holds = next.holds;
                same = o.same ∙ null-turn limit left (int_of i) o.state more
                    ∙ ap (λ t. t >>= λ s. null_many limit (left - 1) (suc_ℤ (int_of i)) s) next.answer
                    ∙ ap (λ z. null_many limit (left - 1) z next.state) (int_suc i);
              });
        }

module _ (limit : ℕ) (meaning : Meaning) (l : Listed) (x : Row) (s : Standard limit meaning) (j : Judged l x) (m : MemoryState) where
  turns_are : null_turns l ≡ suc (x.p3 - x.p2)
  turns_are =
      ap suc (ap₂ (λ y z. turns (y -ℤ z)) (sym j.p3) (sym j.p2) ∙ int_difference x.p3 x.p2 (omega (arith, j.fits.p3.below)) (omega (arith, j.fits.p2.below)))

  pub null_arm : (n : ℕ) → n ≡ suc (x.p3 - x.p2) → null_many limit n (int_of x.p2) m ≡ register_arm meaning l m op_null
  unfolding register_arm
  null_arm n e =
      ap₂ (λ y z. null_many y z (int_of x.p2) m) (sym s.cells) (e ∙ sym turns_are)
      ∙ ap (λ z. null_many meaning.cell_limit (null_turns l) z m) j.p2
