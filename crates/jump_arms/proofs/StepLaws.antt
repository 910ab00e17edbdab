-- What a step tells: a held state at another row or at the next, one that goes on, a branch and one that goes on; and the arms that write
-- nothing. Assumes nothing.
use mathlib.Core.Path.{◌≡◌, refl, sym, ap, subst, ◌∙◌}
use mathlib.Core.Bool.{true, false, not}
use Rattle.std.specs.Prelude.{None, Some}
use mathlib.Core.List.{List, [], ◌∷◌}
use Prim.Native.Nat.{ℕ, ◌+◌}
use native.Mathlib.Omega.{arith}
use lib.IntN.{ℤ, suc_ℤ}
use borrow.Author.Tests.{eq-eqb, ne_eqb}
use Rattle.model.specs.State.{MemoryState as Defined}
use Rattle.model.specs.Equality.{is_zero_int}
use Rattle.model.specs.Operation.{op_goto, op_branch, op_must_be_int, op_halt}
use Rattle.model.specs.Offer.{offers, goes_on, ends, branch_if}
use Rattle.model.specs.Access.{go_to, next}
use Rattle.model.specs.JumpArms.{jump_arm}
use Rattle.area.specs.declared.Cell.{Cell}
use Rattle.intmap.specs.Signed.{offset, int_of}
use Rattle.intmap.specs.declared.IntMap.{IntMap}
use Rattle.intmap.proofs.SignedLaws.{int_suc, int_same}
use Rattle.encoding.proofs.Held.{held_go_to}
use Rattle.rows.specs.declared.row.Row.{Row}
use Rattle.state.specs.Leads.{Current, HoldsMap}
use Rattle.state.specs.Steps.{HoldsState, Offered, Lies, JumpArm, offered}
use Rattle.state.specs.declared.MemoryState.{MemoryState}
use Rattle.state.proofs.LeadsLaws.{unchanged}
use Rattle.jump_arms.specs.Arms.{at}

-- the test for 0
pub zero_word : (w : ℕ) (i : ℤ) → int_of w ≡ i → w ≡ offset → is_zero_int i ≡ true
unfolding int_of
zero_word w i e h = ap is_zero_int (sym e) ∙ int_same w offset ∙ eq-eqb w offset h

pub other_word : (w : ℕ) (i : ℤ) → int_of w ≡ i → (w ≡ offset → ⊥) → is_zero_int i ≡ false
unfolding int_of
other_word w i e h = ap is_zero_int (sym e) ∙ int_same w offset ∙ ne_eqb w offset h

-- the word of the next row
pub next_row : {i : ℤ} (w : ℕ) → int_of w ≡ i → int_of (w + 1) ≡ suc_ℤ i
next_row w e = sym (int_suc w) ∙ ap suc_ℤ e

-- what a step offers, by the states that are held for it
module _ {limit bound : ℕ} {ds : List Cell} where
  -- a state at another row
  pub held_at : {a : IntMap} {m : Defined} (w : ℕ) (i : ℤ) → int_of w ≡ i → HoldsMap limit bound ds a m → HoldsState limit bound ds (at w a) (go_to i m)
  held_at {m = m} w i e h = record { row = e; map = held_go_to limit bound ds _ _ _ m h i }

  -- and at the next
  pub held_next : {a : IntMap} {m : Defined} (w : ℕ) → int_of w ≡ m.program_i → HoldsMap limit bound ds a m → HoldsState limit bound ds (at (w + 1) a) (next m)
  held_next {m = m} w e h = held_at (w + 1) (suc_ℤ m.program_i) (next_row w e) h

  pub ends_here : Offered limit bound ds None None ends
  ends_here = record { the_branch = None; the_state = None; answer = refl; branches = refl; goes_on = refl }

  pub goes_on_lem : {t : MemoryState} {m : Defined} → HoldsState limit bound ds t m → Offered limit bound ds None (Some t) (goes_on m)
  goes_on_lem {m = m} h =
      record { the_branch = None; the_state = Some m; answer = refl; branches = refl; goes_on = record { state = m; is = refl; held = h } }

  pub branches_only : {t : MemoryState} {m : Defined} → HoldsState limit bound ds t m → Offered limit bound ds (Some t) None (offers (m ∷ []) None)
  branches_only {m = m} h =
      record { the_branch = Some m; the_state = None; answer = refl; branches = record { state = m; is = refl; held = h }; goes_on = refl }

  pub branches_and_goes : {t u : MemoryState} {m n : Defined} → HoldsState limit bound ds t m → HoldsState limit bound ds u n → Offered limit bound ds (Some t) (Some u) (offers (m ∷ []) (Some n))
  branches_and_goes {m = m} {n = n} h g =
      record {
        the_branch = Some m;
        the_state = Some n;
        answer = refl;
        branches = record { state = m; is = refl; held = h };
        goes_on = record { state = n; is = refl; held = g };
      }

-- the map is where it was
pub lies_here : {limit : ℕ} {cs : List Cell} {a : IntMap} (w : ℕ) → Current limit cs a → Lies limit cs a.base (at w a)
lies_here w h = record { above = omega arith; below = omega arith; room = h.room }

-- ---- the arms that write nothing

module _ (limit : ℕ) (cs : List Cell) (s : MemoryState) (x : Row) (current : Current limit cs s.map) where
  pub goto_arm : JumpArm limit cs cs s x op_goto (offered None (Some (at x.p2 s.map)))
  unfolding jump_arm
  goto_arm =
      record {
        says = λ rows l j bound m le h. goes_on_lem (held_at x.p2 l.p2 j.p2 h.map);
        leaves = (tt, (refl, current.room));
        frame = unchanged cs _ _;
      }

  pub halt_arm : JumpArm limit cs cs s x op_halt (offered None None)
  unfolding jump_arm
  halt_arm = record { says = λ rows l j bound m le h. ends_here; leaves = (tt, tt); frame = unchanged cs _ _ }

  pub branch_arm : JumpArm limit cs cs s x op_branch (offered (Some (at x.p2 s.map)) (Some (at (s.row + 1) s.map)))
  unfolding jump_arm
  branch_arm =
      record {
        says = λ rows l j bound m le h. branches_and_goes (held_at x.p2 l.p2 j.p2 h.map) (held_next s.row h.row h.map);
        leaves = (lies_here x.p2 current, (refl, current.room));
        frame = unchanged cs _ _;
      }

  pub must_here : x.p2 ≡ offset → JumpArm limit cs cs s x op_must_be_int (offered None (Some (at (s.row + 1) s.map)))
  unfolding jump_arm
  must_here z =
      record {
        says = λ rows l j bound m le h.
            subst (λ b. Offered limit bound cs None (Some (at (s.row + 1) s.map)) (offers (branch_if (not b) (go_to l.p2 m)) (Some (next m)))) (sym (zero_word x.p2 l.p2 j.p2 z))
            (goes_on_lem (held_next s.row h.row h.map));
        leaves = (tt, (refl, current.room));
        frame = unchanged cs _ _;
      }

  pub must_branch : (x.p2 ≡ offset → ⊥) → JumpArm limit cs cs s x op_must_be_int (offered (Some (at x.p2 s.map)) (Some (at (s.row + 1) s.map)))
  unfolding jump_arm
  must_branch z =
      record {
        says = λ rows l j bound m le h.
            subst (λ b. Offered limit bound cs (Some (at x.p2 s.map)) (Some (at (s.row + 1) s.map)) (offers (branch_if (not b) (go_to l.p2 m)) (Some (next m)))) (sym (other_word x.p2 l.p2 j.p2 z))
            (branches_and_goes (held_at x.p2 l.p2 j.p2 h.map) (held_next s.row h.row h.map));
        leaves = (lies_here x.p2 current, (refl, current.room));
        frame = unchanged cs _ _;
      }
