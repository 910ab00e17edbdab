-- `register_arms::constant` stores a value of the kind in P2, never null. Assumes nothing.
use Rattle.state.proofs.ArmLaws.{register_arm_as}
use Rattle.register_arms.proofs.RegisterLaws.{constant_arm}
use Rattle.register_arms.proofs.constant.Goals as goal

pub returns : goal.returns
returns c = record { same = c.store_single.ensures.same; kept = c.store_single.ensures.kept; is = register_arm_as c.store_single.ensures.is (λ meaning l s j m. constant_arm _ meaning l c.args.x s j m _) }
