-- `jump_arms::goto` goes to P2. Assumes nothing.
use Rattle.jump_arms.proofs.StepLaws.{goto_arm}
use Rattle.jump_arms.proofs.goto.Goals as goal

pub returns : goal.returns
returns c = rw c.goes_on.ensures λ limit cs ready. goto_arm limit cs _ _ ready.current
