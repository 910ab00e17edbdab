-- The arms of `explain` that look at another row of the listing, EndCoroutine and Yield: the listing's n rows lie in the cells from `from` on.
-- And where the Yield row that a number names goes, and which row follows a Yield. Assumes nothing.
use Rattle.std.specs.Prelude.{◌≡◌, List, ℕ, ◌+◌, ◌≤◌, length, Option, option_map}
use Rattle.model.specs.Row.{Row as Listed}
use Rattle.model.specs.State.{MemoryState as Defined}
use Rattle.model.specs.Operation.{JumpOperation}
use Rattle.model.specs.Offer.{row_at}
use Rattle.model.specs.JumpArms.{yield_target, row_after_yield, jump_arm}
use Rattle.area.specs.declared.Cell.{Cell}
use Rattle.intmap.specs.Map.{Frame}
use Rattle.intmap.specs.Signed.{int_of}
use Rattle.rows.specs.Judged.{Judged, HaveRows, SomeRows}
use Rattle.rows.specs.declared.row.Row.{Row}
use Rattle.state.specs.Leads.{operands}
use Rattle.state.specs.Steps.{HoldsState, TellsStep, LeavesStep, Step}
use Rattle.state.specs.declared.MemoryState.{MemoryState}

-- the listing's rows lie within the area
pub record RowsInside (cs : List Cell) (from n : ℕ) : Type 0 where
  pub held : SomeRows cs from n
  pub small : length cs ≤ 1048576

-- where the Yield row goes that the word w names
pub record Targets (cs : List Cell) (from n w : ℕ) (r : Option ℕ) : Type 0 where
  pub says : (rows : List Listed) → HaveRows cs from rows → length rows ≡ n → option_map int_of r ≡ yield_target (row_at rows (int_of w))

-- the row that follows a Yield, where its register says w
pub record Follows (cs : List Cell) (from n w r : ℕ) : Type 0 where
  pub says : (rows : List Listed) → HaveRows cs from rows → length rows ≡ n → int_of r ≡ row_after_yield (yield_target (row_at rows (int_of w))) (int_of w)

-- as `JumpArm`, of the listing that lies in the area
pub record RowsArm (limit : ℕ) (cs ds : List Cell) (s : MemoryState) (x : Row) (from n : ℕ) (o : JumpOperation) (r : Step) : Type 0 where
  pub says : (rows : List Listed) → HaveRows cs from rows → length rows ≡ n → (l : Listed) → Judged l x → (bound : ℕ) (m : Defined) → operands ≤ bound → HoldsState limit bound cs s m → TellsStep limit bound ds r (jump_arm limit rows l m o)
  pub leaves : LeavesStep limit ds s r
  pub frame : Frame cs ds s.map.base (limit + limit)
