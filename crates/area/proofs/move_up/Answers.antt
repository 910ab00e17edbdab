-- What is left of `move_up`, by the invariant of Invariants.antt. Assumes nothing.
use native.Mathlib.Omega.{arith}
use Rattle.area.proofs.MoveLaws.{turn-first, turn_up}
use Rattle.area.proofs.move_up.Goals as goal

pub loop-i-init : goal.loop-i-init
loop-i-init c = (omega arith, turn-first _ _ _ _ (omega arith))

pub loop-i-preserved : goal.loop-i-preserved
loop-i-preserved c = (omega arith, turn_up _ _ _ _ _ _ _ _ c.requires.0 c.loop-i-test.true c.loop-i.invariant.0 c.loop-i.invariant.1 c.cell_at-c.ensures c.put_cell.ensures)
