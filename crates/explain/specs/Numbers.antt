-- The arm of an operation, as far as it offers at most one branch and does not count a repeat: its step is what the definition's arm
-- offers. And a step as what handling a row gives. Assumes nothing.
use Rattle.std.specs.Prelude.{◌≡◌, Bool, List, ℕ, ◌+◌, ◌≤◌, length, Err, Ok}
use Rattle.model.specs.Row.{Row as Listed}
use Rattle.model.specs.State.{MemoryState as Defined}
use Rattle.model.specs.Catalogue.{CatalogueRecord}
use Rattle.root_block.specs.Blocks.{HasBlocks}
use Rattle.model.specs.Explain.{arm}
use Rattle.area.specs.declared.Cell.{Cell}
use Rattle.intmap.specs.Map.{Frame}
use Rattle.opcode.specs.Opcode.{arm_of}
use Rattle.opcode.specs.declared.Operation.{Operation}
use Rattle.rows.specs.Judged.{Judged, HaveRows}
use Rattle.rows.specs.declared.row.Row.{Row}
use Rattle.state.specs.Leads.{operands}
use Rattle.state.specs.Steps.{HoldsState, TellsStep, LeavesStep, Step}
use Rattle.state.specs.declared.MemoryState.{MemoryState}
use Rattle.explain.specs.declared.Handling.TheVariants as handling
use Rattle.explain.specs.Handles.{meaning_of, Handled}

-- as `JumpArm`, of the operation `op`, and of the listing and the catalogue's blocks at hand
pub record NumberArm (limit from n : ℕ) (cs ds : List Cell) (blocks : List ℕ) (s : MemoryState) (x : Row) (op : Operation) (r : Step) : Type 0 where
  pub says : (again : Bool) (rows : List Listed) (records : List CatalogueRecord) (l : Listed) → HaveRows cs from rows → length rows ≡ n → HasBlocks blocks records → Judged l x → (bound : ℕ) (m : Defined) → operands ≤ bound → HoldsState limit bound cs s m → TellsStep limit bound ds r (arm (meaning_of limit records) rows again m l (arm_of op))
  pub leaves : LeavesStep limit ds s r
  pub frame : Frame cs ds s.map.base (limit + limit)

-- a step, with whether it counts as a repeat
abbrev pub as_handling : Bool → Step → Handled
as_handling repeat (Err e) = Err e
as_handling repeat (Ok w) = Ok (handling.Ways w repeat)
