-- `copy_arms::move_` moves P3 registers. Assumes nothing.
use Rattle.state.proofs.ArmLaws.{register_arm_as}
use Rattle.copy_arms.proofs.CopyLaws.{arm_move}
use Rattle.copy_arms.proofs.move_.Goals as goal

pub returns : goal.returns
returns c = record { same = c.carry_many.ensures.same; kept = c.carry_many.ensures.kept; is = register_arm_as c.carry_many.ensures.is (λ meaning l s j. arm_move _ meaning l c.args.x s j _ c.saturating_sub-n.ensures) }
