-- `register_arms::null` counts the registers from P2 to P3. Assumes nothing.
use native.Mathlib.Omega.{arith}
use Rattle.state.proofs.ArmLaws.{register_arm_as}
use Rattle.register_arms.proofs.NullLaws.{null_arm}
use Rattle.register_arms.proofs.null.Goals as goal

pub returns-then-x : goal.returns-then-x
returns-then-x c = record { same = c.null_many.ensures.same; kept = c.null_many.ensures.kept; is = register_arm_as c.null_many.ensures.is (λ meaning l s j m. null_arm _ meaning l c.args.x s j m _ (omega (arith, c.if-x.true))) }

pub returns : goal.returns
returns c = record { same = c.null_many-2.ensures.same; kept = c.null_many-2.ensures.kept; is = register_arm_as c.null_many-2.ensures.is (λ meaning l s j m. null_arm _ meaning l c.args.x s j m 1 (omega (arith, c.if-x.false))) }
