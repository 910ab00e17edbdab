-- Rewind, Last, Sort and SorterSort on a cursor that is read already. Assumes nothing.
use Rattle.std.specs.Prelude.{Some, List, ℕ, ◌+◌, ◌≤◌}
use Rattle.model.specs.Row.{Row as Listed}
use Rattle.model.specs.State.{Normal, MemoryState as Defined}
use Rattle.model.specs.JumpArms.{rewind_cursor}
use Rattle.area.specs.declared.Cell.{Cell}
use Rattle.intmap.specs.Map.{Frame}
use Rattle.rows.specs.Judged.{Judged}
use Rattle.rows.specs.declared.row.Row.{Row}
use Rattle.state.specs.Leads.{operands}
use Rattle.state.specs.Steps.{HoldsState, TellsStep, LeavesStep, Step}
use Rattle.state.specs.declared.MemoryState.{MemoryState}

-- on the table that a row opened
pub record RewindsTable (limit : ℕ) (cs ds : List Cell) (s : MemoryState) (x : Row) (row : ℕ) (r : Step) : Type 0 where
  pub says : (l : Listed) → Judged l x → (bound : ℕ) (m : Defined) → operands ≤ bound → HoldsState limit bound cs s m → TellsStep limit bound ds r (rewind_cursor l m (Some (Normal row)))
  pub leaves : LeavesStep limit ds s r
  pub frame : Frame cs ds s.map.base (limit + limit)
