-- `jump_arms::gosub` stores the row and goes to P2. Assumes nothing.
use mathlib.Core.Path.{subst}
use Rattle.refusal.proofs.Passed.{passed}
use Rattle.state.specs.Steps.{JumpArm}
use Rattle.state.proofs.Stores.{leaves_ok, leaves_err}
use Rattle.jump_arms.proofs.StoreSteps.{gosub_arm, step_err, step_ok}
use Rattle.jump_arms.proofs.gosub.Goals as goal

pub returns-in_err-store_int : goal.returns-in_err-store_int
returns-in_err-store_int c = (leaves_err c.store_int.ensures c.in_err-store_int.was, subst (JumpArm _ _ _ _ _ _) (step_err c.store_int.new.self c.in_err-store_int.was (passed _ _ c.from_residual.ensures.1) _) (gosub_arm _ _ _ _ _ _ c.store_int.ensures.is))

pub returns : goal.returns
returns c = (leaves_ok c.store_int.ensures.same, subst (JumpArm _ _ _ _ _ _) (step_ok c.store_int.new.self c.in_ok-store_int.was _ c.go_on.ensures) (gosub_arm _ _ _ _ _ _ c.store_int.ensures.is))
