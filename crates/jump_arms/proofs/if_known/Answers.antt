-- `jump_arms::if_known` goes on or branches. Assumes nothing.
use mathlib.Core.Path.{subst}
use Rattle.refusal.proofs.Passed.{passed}
use Rattle.state.proofs.Stores.{leaves_ok, leaves_err}
use Rattle.jump_arms.specs.Arms.{IfArm}
use Rattle.jump_arms.proofs.IfLaws.{if_zero, if_other}
use Rattle.jump_arms.proofs.StoreSteps.{step_err, step_ok, branch_err, branch_ok}
use Rattle.jump_arms.proofs.if_known.Goals as goal

pub returns-in_err-store_if : goal.returns-in_err-store_if
returns-in_err-store_if c = (leaves_err c.store_if.ensures c.in_err-store_if.was, subst (IfArm _ _ _ _ _ _) (step_err c.store_if.new.store c.in_err-store_if.was (passed _ _ c.from_residual.ensures.1) _) (if_zero _ _ _ _ _ _ _ c.if-w-eq-ZERO.true c.store_if.ensures.is.leads))

pub returns-then-w-eq-ZERO : goal.returns-then-w-eq-ZERO
returns-then-w-eq-ZERO c = (leaves_ok c.store_if.ensures.same, subst (IfArm _ _ _ _ _ _) (step_ok c.store_if.new.store c.in_ok-store_if.was _ c.go_on.ensures) (if_zero _ _ _ _ _ _ _ c.if-w-eq-ZERO.true c.store_if.ensures.is.leads))

pub returns-in_err-store_if-2 : goal.returns-in_err-store_if-2
returns-in_err-store_if-2 c = (leaves_err c.store_if-2.ensures c.in_err-store_if-2.was, subst (IfArm _ _ _ _ _ _) (branch_err c.store_if-2.new.store c.in_err-store_if-2.was (passed _ _ c.from_residual-in_err-store_if-2.ensures.1) _) (if_other _ _ _ _ _ _ _ c.if-w-eq-ZERO.false c.store_if-2.ensures.is.leads))

pub returns : goal.returns
returns c = (leaves_ok c.store_if-2.ensures.same, subst (IfArm _ _ _ _ _ _) (branch_ok c.store_if-2.new.store c.in_ok-store_if-2.was _ c.branch_at.ensures) (if_other _ _ _ _ _ _ _ c.if-w-eq-ZERO.false c.store_if-2.ensures.is.leads))
