-- What is left of `copy`, by the invariant of Invariants.antt. Assumes nothing.
use Rattle.std.proofs.Common.{arith}
use Rattle.answer.proofs.PatchLaws.{copy_none, copy_turn, copy_done}
use Rattle.answer.proofs.copy.Goals as goal

pub loop-i-init : goal.loop-i-init
loop-i-init c = copy_none _ _ _

pub loop-i-preserved : goal.loop-i-preserved
loop-i-preserved c = copy_turn _ _ _ c.requires c.loop-i-test.true c.loop-i.invariant

pub returns : goal.returns
returns c = copy_done _ _ _ (omega arith) c.loop-i.invariant
