-- `coroutine_arms::yield_` reads the register, and stores the row in it. Assumes nothing.
use Rattle.std.specs.Prelude.{Ok}
use mathlib.Core.Path.{ap, subst, ◌∙◌}
use Rattle.refusal.proofs.Passed.{passed}
use Rattle.state.proofs.ArmLaws.{no_ways}
use Rattle.state.proofs.Stores.{stays, leaves_ok, leaves_err}
use Rattle.jump_arms.specs.Arms.{Knows}
use Rattle.jump_arms.proofs.StoreSteps.{step_err, step_ok}
use Rattle.coroutine_arms.specs.Arms.{RowsArm}
use Rattle.coroutine_arms.proofs.CoroutineLaws.{yield_arm_lem, number_bad, number_unknown, yield_to}
use Rattle.coroutine_arms.proofs.yield_.Goals as goal

pub returns-in_err-w : goal.returns-in_err-w
returns-in_err-w c = rw (passed _ _ c.from_residual.ensures.1) (stays, number_bad _ _ _ _ _ _ _ (yield_arm_lem _) _ (subst (Knows _ _ _) c.in_err-w.was c.known_int.ensures))

pub returns-in_default : goal.returns-in_default
returns-in_default c = rw (no_ways c.default.ensures) (stays, number_unknown _ _ _ _ _ _ _ (yield_arm_lem _) (subst (Knows _ _ _) (c.in_ok-w.was ∙ ap Ok c.in_default.is) c.known_int.ensures))

pub returns-in_err-store_int : goal.returns-in_err-store_int
returns-in_err-store_int c = (leaves_err c.store_int.ensures c.in_err-store_int.was, subst (RowsArm _ _ _ _ _ _ _ _) (step_err c.store_int.new.self c.in_err-store_int.was (passed _ _ c.from_residual-in_err-store_int.ensures.1) _) (yield_to _ _ _ _ _ _ _ (subst (Knows _ _ _) (c.in_ok-w.was ∙ ap Ok c.in-Some.is) c.known_int.ensures) _ c.row_after_yield-to.ensures _ _ c.store_int.ensures.is))

pub returns : goal.returns
returns c = (leaves_ok c.store_int.ensures.same, subst (RowsArm _ _ _ _ _ _ _ _) (step_ok c.store_int.new.self c.in_ok-store_int.was _ c.go_on.ensures) (yield_to _ _ _ _ _ _ _ (subst (Knows _ _ _) (c.in_ok-w.was ∙ ap Ok c.in-Some.is) c.known_int.ensures) _ c.row_after_yield-to.ensures _ _ c.store_int.ensures.is))
