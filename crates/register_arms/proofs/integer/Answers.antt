-- `register_arms::integer` stores P1 in P2. Assumes nothing.
use Rattle.state.proofs.ArmLaws.{register_arm_as}
use Rattle.register_arms.proofs.RegisterLaws.{integer_arm}
use Rattle.register_arms.proofs.integer.Goals as goal

pub returns : goal.returns
returns c = record { same = c.store_int.ensures.same; kept = c.store_int.ensures.kept; is = register_arm_as c.store_int.ensures.is (λ meaning l s j. integer_arm _ meaning l c.args.x s j) }
