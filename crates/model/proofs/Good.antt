-- Every state that the walk makes is good: the fresh start is, and so are every branch and the state that goes on, at every row, if the state
-- before is. It is asked that the listing has at most 65,536 rows, the limit is at most 65,536 cells, and the catalogue's columns are sorted; those
-- of 01's catalogue are. Assumes nothing.
use mathlib.Core.Path.{◌≡◌, refl, subst}
use mathlib.Core.Logic.{inl, inr}
use mathlib.Core.Bool.{Bool}
use Rattle.std.specs.Prelude.{Option, None, Some}
use mathlib.Core.List.{List, [], ◌∷◌}
use Prim.Native.Nat.{ℕ, ◌≤◌}
use native.Mathlib.Omega.{arith}
use lib.ListN.{length}
use Rattle.model.specs.Walk.{done, Ways, ◌∈◌}
use Rattle.model.specs.Row.{Row}
use Rattle.model.specs.IntMap.{total}
use Rattle.model.specs.State.{MemoryState, fresh}
use Rattle.model.specs.Cells.{cells}
use Rattle.model.specs.Results.{ResultRow}
use Rattle.model.specs.Meaning.{Meaning}
use Rattle.model.specs.Operation.{Operation, jumps, op_if_pos, registers, cursors, op_result_row, no_arm, operation_of}
use Rattle.model.specs.Offer.{turns, row_at}
use Rattle.model.specs.Explain.{arm, at_row, ways}
use Rattle.model.specs.Good.{Good, GoodWays, GoodMeaning, Each, OnSome}
use Rattle.model.proofs.Tried.{Kept, ◌>>◌, kept}
use Rattle.model.proofs.Rows.{row_at-within}
use Rattle.model.proofs.Access.{next_good}
use Rattle.model.proofs.GoodJumps.{ends_good, goes_on_good, jump_good, if_pos_good, result_row_good}
use Rattle.model.proofs.GoodRegisters.{register_good}
use Rattle.model.proofs.GoodCursors.{cursor_good}

pub fresh_good : (limit : ℕ) → Good limit fresh
unfolding cells total
fresh_good limit = record { registers = tt; cursors = tt; tables = tt; fits = omega arith }

module _ (meaning : Meaning) (q : GoodMeaning meaning) (rows : List Row) (few : length rows ≤ 65536) (again : Bool) (m : MemoryState) (g : Good meaning.cell_limit m) where
  arm_good : turns m.program_i ≤ 65535 → (x : Row) (o : Operation) → Kept (GoodWays meaning.cell_limit) (arm meaning rows again m x o)
  unfolding arm
  arm_good small x (jumps o) = jump_good meaning.cell_limit rows x m g o
  arm_good small x op_if_pos = if_pos_good meaning.cell_limit rows x m g again
  arm_good small x (registers o) = register_good meaning q x m g o >> λ s h. goes_on_good (next_good h)
  arm_good small x (cursors o) = cursor_good meaning q (turns m.program_i) small x m g o >> λ s h. goes_on_good (next_good h)
  arm_good small x op_result_row = result_row_good meaning.cell_limit rows x m g (turns m.program_i)
  arm_good small x no_arm = goes_on_good (next_good g)

  row_good : (o : Option Row) → row_at rows m.program_i ≡ o → Kept (GoodWays meaning.cell_limit) (at_row meaning rows again m o)
  row_good None e = ends_good
  row_good (Some x) e = arm_good (omega (arith, row_at-within rows m.program_i x e)) x (operation_of x.op)

  pub ways_good : (w : Ways MemoryState ResultRow) → ways meaning rows again m ≡ done w → GoodWays meaning.cell_limit w
  unfolding ways
  ways_good w e = kept (row_good (row_at rows m.program_i) refl) e

-- the same, branch by branch
each_member : {A : Type 0} (P : A → Type 0) (xs : List A) → Each P xs → (a : A) → a ∈ xs → P a
each_member P [] h a e = absurd e
each_member P (x ∷ xs) h a (inl e) = subst P e h.0
each_member P (x ∷ xs) h a (inr e) = each_member P xs h.1 a e

module _ {limit : ℕ} {w : Ways MemoryState ResultRow} (g : GoodWays limit w) where
  pub branch_is_good : (b : MemoryState) → b ∈ w.branches → Good limit b
  branch_is_good b e = each_member (Good limit) w.branches g.branches b e

  pub stays_is_good : (s : MemoryState) → w.stays ≡ Some s → Good limit s
  stays_is_good s e = subst (OnSome (Good limit)) e g.stays
