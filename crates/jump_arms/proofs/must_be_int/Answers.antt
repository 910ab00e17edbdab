-- `jump_arms::must_be_int` adds a branch at P2 where P2 is a row, and goes on. Assumes nothing.
use Rattle.jump_arms.proofs.StepLaws.{must_here, must_branch}
use Rattle.jump_arms.proofs.must_be_int.Goals as goal

pub returns-then-x-eq-ZERO : goal.returns-then-x-eq-ZERO
returns-then-x-eq-ZERO c = rw c.goes_on.ensures λ limit cs ready. must_here limit cs _ _ ready.current c.if-x-eq-ZERO.true

pub returns : goal.returns
returns c = rw c.both.ensures λ limit cs ready. must_branch limit cs _ _ ready.current c.if-x-eq-ZERO.false
