-- One row of the walk: what the `match` in `explain` offers at a state, the row that a state stands on, and the cost of remembering it.
-- 01, "The walk": "Remembering takes 2 + cells + (rows / 16, rounded up) units of 16 bytes, out of area / 16 rounded down, less 1,024,
-- less 2 × rows." 1,024 is twice the limit of cells. Assumes nothing.
use Rattle.std.specs.Prelude.{Bool, List, ℕ, ◌+◌, ◌*◌, ◌-◌, ◌/◌, length, Option, None, Some}
use Rattle.model.specs.Walk.{Tried}
use Rattle.model.specs.Row.{Row}
use Rattle.model.specs.State.{MemoryState}
use Rattle.model.specs.Cells.{cells}
use Rattle.model.specs.Access.{◌>>=◌, next}
use Rattle.model.specs.Meaning.{Meaning}
use Rattle.model.specs.Operation.{Operation, jumps, op_if_pos, registers, cursors, op_result_row, no_arm, operation_of}
use Rattle.model.specs.Offer.{Offer, goes_on, ends, turns, row_at}
use Rattle.model.specs.JumpArms.{jump_arm}
use Rattle.model.specs.IfPosArm.{if_pos_arm}
use Rattle.model.specs.ResultArm.{result_row_arm}
use Rattle.model.specs.RegisterArms.{register_arm}
use Rattle.model.specs.CursorArms.{cursor_arm}

-- an arm that falls through to `program_i += 1`
abbrev pub falls_through : Tried MemoryState → Offer
falls_through t = t >>= λ m. goes_on (next m)

module _ (meaning : Meaning) (rows : List Row) where
  -- by the operation; `again`: the second or third handling of the row in its lineage
  unfoldable pub arm : Bool → MemoryState → Row → Operation → Offer
  arm again m x (jumps o) = jump_arm meaning.cell_limit rows x m o
  arm again m x op_if_pos = if_pos_arm again x m
  arm again m x (registers o) = falls_through (register_arm meaning x m o)
  arm again m x (cursors o) = falls_through (cursor_arm meaning (turns m.program_i) x m o)
  arm again m x op_result_row = result_row_arm (turns m.program_i) x m
  arm again m x no_arm = goes_on (next m)

  abbrev pub at_row : Bool → MemoryState → Option Row → Offer
  at_row again m None = ends
  at_row again m (Some x) = arm again m x (operation_of x.op)

  unfoldable pub ways : Bool → MemoryState → Offer
  ways again m = at_row again m (row_at rows m.program_i)

  -- the units that the area has for remembering
  unfoldable pub space_of : ℕ → ℕ
  space_of area = area / 16 - 2 * meaning.cell_limit - 2 * length rows

abbrev pub number_at : MemoryState → Option Row → Option ℕ
number_at m None = None
number_at m (Some x) = Some (turns m.program_i)

module _ (rows : List Row) where
  -- the number of the row that a state stands on, in the listing
  unfoldable pub row_of : MemoryState → Option ℕ
  row_of m = number_at m (row_at rows m.program_i)

  unfoldable pub units : MemoryState → ℕ
  units m = 2 + cells m + (length rows + 15) / 16
