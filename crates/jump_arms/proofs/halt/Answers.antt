-- `jump_arms::halt` ends the branch. Assumes nothing.
use Rattle.state.proofs.ArmLaws.{no_ways}
use Rattle.jump_arms.proofs.StepLaws.{halt_arm}
use Rattle.jump_arms.proofs.halt.Goals as goal

pub returns : goal.returns
returns c = rw (no_ways c.default.ensures) λ limit cs ready. halt_arm limit cs _ _ ready.current
