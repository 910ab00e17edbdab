-- `copy_arms::scopy` copies one register. Assumes nothing.
use Rattle.state.proofs.ArmLaws.{register_arm_as}
use Rattle.copy_arms.proofs.CopyLaws.{arm_copy_one}
use Rattle.copy_arms.proofs.scopy.Goals as goal

pub returns : goal.returns
returns c = record { same = c.copy_register.ensures.same; kept = c.copy_register.ensures.kept; is = register_arm_as c.copy_register.ensures.is (λ meaning l s j. arm_copy_one _ meaning l c.args.x s j) }
