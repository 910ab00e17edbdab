-- What is left of `put_over`, by the invariant of Invariants.antt. Assumes nothing.
use native.Mathlib.Omega.{arith}
use Rattle.record_arms.proofs.OverLaws.{puts_more}
use Rattle.record_arms.proofs.put_over.Goals as goal

pub loop-d-preserved : goal.loop-d-preserved
loop-d-preserved c = puts_more c.loop-d.invariant (omega arith) c.requires.3 c.requires.1 _ _ _ c.cell_at.ensures c.map_to_columntype-c.ensures c.with_key.ensures c.put_cell.ensures.cells
