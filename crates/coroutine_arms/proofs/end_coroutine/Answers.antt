-- `coroutine_arms::end_coroutine` reads the register, and removes it where it names a Yield row. Assumes nothing.
use Rattle.std.specs.Prelude.{Ok}
use mathlib.Core.Path.{ap, subst, ◌∙◌}
use Rattle.refusal.proofs.Passed.{passed}
use Rattle.state.proofs.ArmLaws.{no_ways}
use Rattle.state.proofs.Stores.{stays, leaves_ok, leaves_err}
use Rattle.jump_arms.specs.Arms.{Knows}
use Rattle.jump_arms.proofs.StoreSteps.{step_err, step_ok}
use Rattle.coroutine_arms.specs.Arms.{RowsArm}
use Rattle.coroutine_arms.proofs.CoroutineLaws.{end_coroutine_arm_lem, number_bad, number_unknown, end_here, end_to}
use Rattle.coroutine_arms.proofs.end_coroutine.Goals as goal

pub returns-in_err-w : goal.returns-in_err-w
returns-in_err-w c = rw (passed _ _ c.from_residual.ensures.1) (stays, number_bad _ _ _ _ _ _ _ (end_coroutine_arm_lem _) _ (subst (Knows _ _ _) c.in_err-w.was c.known_int.ensures))

pub returns-in_default : goal.returns-in_default
returns-in_default c = rw (no_ways c.default.ensures) (stays, number_unknown _ _ _ _ _ _ _ (end_coroutine_arm_lem _) (subst (Knows _ _ _) (c.in_ok-w.was ∙ ap Ok c.in_default.is) c.known_int.ensures))

pub returns-in_default-yield_target : goal.returns-in_default-yield_target
returns-in_default-yield_target c = rw (no_ways c.default-in_default-yield_target.ensures) (stays, end_here _ _ _ _ _ _ _ (subst (Knows _ _ _) (c.in_ok-w.was ∙ ap Ok c.in-Some.is) c.known_int.ensures) _ c.yield_target.ensures c.in_default-yield_target.is)

pub returns-in_err-remove_register : goal.returns-in_err-remove_register
returns-in_err-remove_register c = (leaves_err c.remove_register.ensures c.in_err-remove_register.was, subst (RowsArm _ _ _ _ _ _ _ _) (step_err c.remove_register.new.store c.in_err-remove_register.was (passed _ _ c.from_residual-in_err-remove_register.ensures.1) _) (end_to _ _ _ _ _ _ _ (subst (Knows _ _ _) (c.in_ok-w.was ∙ ap Ok c.in-Some.is) c.known_int.ensures) _ _ c.yield_target.ensures c.in-Some-yield_target.is _ _ c.remove_register.ensures.is))

pub returns : goal.returns
returns c = (leaves_ok c.remove_register.ensures.same, subst (RowsArm _ _ _ _ _ _ _ _) (step_ok c.remove_register.new.store c.in_ok-remove_register.was _ c.go_on.ensures) (end_to _ _ _ _ _ _ _ (subst (Knows _ _ _) (c.in_ok-w.was ∙ ap Ok c.in-Some.is) c.known_int.ensures) _ _ c.yield_target.ensures c.in-Some-yield_target.is _ _ c.remove_register.ensures.is))
