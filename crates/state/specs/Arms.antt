-- The contracts of the arms of `explain`: for every row of the listing that a judged row stands for, an arm leads to what the definition's arm
-- gives. Assumes nothing.
use Rattle.intmap.specs.Store.{Stored}
use Rattle.std.specs.Prelude.{◌≡◌, List, ℕ, ◌+◌, ◌≤◌}
use Rattle.model.specs.Row.{Row as Listed}
use Rattle.model.specs.Functions.{built_in, function_in}
use Rattle.model.specs.State.{MemoryState}
use Rattle.model.specs.Meaning.{Meaning}
use Rattle.model.specs.Operation.{RegisterOperation, CursorOperation}
use Rattle.model.specs.RegisterArms.{register_arm}
use Rattle.model.specs.CursorArms.{cursor_arm}
use Rattle.area.specs.declared.Cell.{Cell}
use Rattle.intmap.specs.Map.{Frame}
use Rattle.intmap.specs.declared.IntMap.{IntMap}
use Rattle.rows.specs.Judged.{Judged}
use Rattle.rows.specs.declared.row.Row.{Row}
use Rattle.state.specs.Leads.{HoldsMap, operands, Tells, Leaves}

-- the limit of cells is this, and the functions are the built-in ones
pub record Standard (limit : ℕ) (meaning : Meaning) : Type 0 where
  pub cells : meaning.cell_limit ≡ limit
  pub functions : (text : List ℕ) → meaning.function_for text ≡ function_in built_in text

-- where a map is left, and what else stays, an arm promises of any row
pub record RegisterArm (limit : ℕ) (cs ds : List Cell) (a : IntMap) (x : Row) (o : RegisterOperation) (r : Stored) : Type 0 where
  pub says : (meaning : Meaning) (l : Listed) → Standard limit meaning → Judged l x → (bound : ℕ) (m : MemoryState) → operands ≤ bound → HoldsMap limit bound cs a m → Tells limit bound ds r (register_arm meaning l m o)
  pub leaves : Leaves limit ds a r
  pub frame : Frame cs ds a.base (limit + limit)

-- the same of an arm that uses a cursor; `row` is the number of the row
pub record CursorArm (limit : ℕ) (cs ds : List Cell) (a : IntMap) (row : ℕ) (x : Row) (o : CursorOperation) (r : Stored) : Type 0 where
  pub says : (meaning : Meaning) (l : Listed) → Standard limit meaning → Judged l x → (bound : ℕ) (m : MemoryState) → operands ≤ bound → HoldsMap limit bound cs a m → Tells limit bound ds r (cursor_arm meaning row l m o)
  pub leaves : Leaves limit ds a r
  pub frame : Frame cs ds a.base (limit + limit)
