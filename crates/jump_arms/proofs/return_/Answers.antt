-- `jump_arms::return_` removes the register and goes to the row after its number. Assumes nothing.
use Rattle.std.specs.Prelude.{Ok}
use mathlib.Core.Path.{ap, subst, ◌∙◌}
use Rattle.refusal.proofs.Passed.{passed}
use Rattle.state.specs.Steps.{JumpArm}
use Rattle.state.proofs.ArmLaws.{no_ways}
use Rattle.state.proofs.Stores.{stays, leaves_ok, leaves_err}
use Rattle.jump_arms.specs.Arms.{Knows}
use Rattle.jump_arms.proofs.ReturnLaws.{return_bad, return_on, return_ends, return_to}
use Rattle.jump_arms.proofs.StoreSteps.{step_err, step_ok}
use Rattle.jump_arms.proofs.return_.Goals as goal

pub returns-then-x-eq-ONE : goal.returns-then-x-eq-ONE
returns-then-x-eq-ONE c = rw c.go_on.ensures (stays, return_on _ _ _ _ (subst (Knows _ _ _) (c.in_ok-w.was ∙ ap Ok c.in_default.is) c.known_int.ensures) c.requires.current c.if-x-eq-ONE.true)

pub returns-in_err-w : goal.returns-in_err-w
returns-in_err-w c = rw (passed _ _ c.from_residual.ensures.1) (stays, return_bad _ _ _ _ _ (subst (Knows _ _ _) c.in_err-w.was c.known_int.ensures))

pub returns-in_default : goal.returns-in_default
returns-in_default c = rw (no_ways c.default.ensures) (stays, return_ends _ _ _ _ (subst (Knows _ _ _) (c.in_ok-w.was ∙ ap Ok c.in_default.is) c.known_int.ensures) c.if-x-eq-ONE.false)

pub returns-in_err-remove_register : goal.returns-in_err-remove_register
returns-in_err-remove_register c = (leaves_err c.remove_register.ensures c.in_err-remove_register.was, subst (JumpArm _ _ _ _ _ _) (step_err c.remove_register.new.store c.in_err-remove_register.was (passed _ _ c.from_residual-in_err-remove_register.ensures.1) _) (return_to _ _ _ _ _ _ _ _ (subst (Knows _ _ _) (c.in_ok-w.was ∙ ap Ok c.in-Some.is) c.known_int.ensures) c.row_after-after.ensures c.remove_register.ensures.is))

pub returns : goal.returns
returns c = (leaves_ok c.remove_register.ensures.same, subst (JumpArm _ _ _ _ _ _) (step_ok c.remove_register.new.store c.in_ok-remove_register.was _ c.go_on-2.ensures) (return_to _ _ _ _ _ _ _ _ (subst (Knows _ _ _) (c.in_ok-w.was ∙ ap Ok c.in-Some.is) c.known_int.ensures) c.row_after-after.ensures c.remove_register.ensures.is))
