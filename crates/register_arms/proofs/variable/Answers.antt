-- `register_arms::variable` stores null in P2. Assumes nothing.
use Rattle.state.proofs.ArmLaws.{register_arm_as}
use Rattle.register_arms.proofs.RegisterLaws.{variable_arm}
use Rattle.register_arms.proofs.variable.Goals as goal

pub returns : goal.returns
returns c = record { same = c.store_single.ensures.same; kept = c.store_single.ensures.kept; is = register_arm_as c.store_single.ensures.is (λ meaning l s j. variable_arm _ meaning l c.args.x s j) }
