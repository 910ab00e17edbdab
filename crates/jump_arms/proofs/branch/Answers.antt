-- `jump_arms::branch` adds a branch at P2 and goes on. Assumes nothing.
use Rattle.jump_arms.proofs.StepLaws.{branch_arm}
use Rattle.jump_arms.proofs.branch.Goals as goal

pub returns : goal.returns
returns c = rw c.both.ensures λ limit cs ready. branch_arm limit cs _ _ ready.current
