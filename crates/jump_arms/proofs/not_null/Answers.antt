-- `jump_arms::not_null` asks the register. Assumes nothing.
use mathlib.Core.Path.{subst}
use Rattle.refusal.proofs.Passed.{passed}
use Rattle.state.specs.Steps.{JumpArm}
use Rattle.state.proofs.ArmLaws.{no_ways}
use Rattle.state.proofs.Stores.{stays, leaves_ok, leaves_err}
use Rattle.jump_arms.specs.Arms.{Asks}
use Rattle.jump_arms.proofs.NullLaws.{change_bad, change_ends, change_branches, change_stays, change_both, not-null-arm, decided_kind}
use Rattle.jump_arms.proofs.StoreSteps.{step_err, step_ok, branch_err, branch_ok}
use Rattle.jump_arms.proofs.not_null.Goals as goal

pub returns-in_err-asked : goal.returns-in_err-asked
returns-in_err-asked c = rw (passed _ _ c.from_residual.ensures.1) (stays, change_bad _ _ _ _ _ _ _ (not-null-arm _) _ (subst (Asks _ _ _) c.in_err-asked.was c.ask.ensures))

pub returns-then-asked-2 : goal.returns-then-asked-2
returns-then-asked-2 c = (c.change_both.ensures.0, change_both _ _ _ _ _ _ _ (not-null-arm _) (λ bound m h. decided_kind ((subst (Asks _ _ _) c.in_ok-asked.was c.ask.ensures).says _ bound m h.map) c.if-asked.true c.if-asked-2.true) _ _ c.change_both.ensures.1)

pub returns-in_err-put_default : goal.returns-in_err-put_default
returns-in_err-put_default c = (leaves_err c.put_default.ensures c.in_err-put_default.was, subst (JumpArm _ _ _ _ _ _) (step_err c.put_default.new.store c.in_err-put_default.was (passed _ _ c.from_residual-in_err-put_default.ensures.1) _) (change_stays _ _ _ _ _ _ _ (not-null-arm _) (λ bound m h. decided_kind ((subst (Asks _ _ _) c.in_ok-asked.was c.ask.ensures).says _ bound m h.map) c.if-asked.true c.if-asked-2.false) _ _ c.put_default.ensures.is))

pub returns-then-asked : goal.returns-then-asked
returns-then-asked c = (leaves_ok c.put_default.ensures.same, subst (JumpArm _ _ _ _ _ _) (step_ok c.put_default.new.store c.in_ok-put_default.was _ c.go_on.ensures) (change_stays _ _ _ _ _ _ _ (not-null-arm _) (λ bound m h. decided_kind ((subst (Asks _ _ _) c.in_ok-asked.was c.ask.ensures).says _ bound m h.map) c.if-asked.true c.if-asked-2.false) _ _ c.put_default.ensures.is))

pub returns-in_err-put_never : goal.returns-in_err-put_never
returns-in_err-put_never c = (leaves_err c.put_never.ensures c.in_err-put_never.was, subst (JumpArm _ _ _ _ _ _) (branch_err c.put_never.new.store c.in_err-put_never.was (passed _ _ c.from_residual-in_err-put_never.ensures.1) _) (change_branches _ _ _ _ _ _ _ (not-null-arm _) (λ bound m h. decided_kind ((subst (Asks _ _ _) c.in_ok-asked.was c.ask.ensures).says _ bound m h.map) c.if-asked.false c.if-asked-3.true) _ _ c.put_never.ensures.is))

pub returns-then-asked-3 : goal.returns-then-asked-3
returns-then-asked-3 c = (leaves_ok c.put_never.ensures.same, subst (JumpArm _ _ _ _ _ _) (branch_ok c.put_never.new.store c.in_ok-put_never.was _ c.branch_at.ensures) (change_branches _ _ _ _ _ _ _ (not-null-arm _) (λ bound m h. decided_kind ((subst (Asks _ _ _) c.in_ok-asked.was c.ask.ensures).says _ bound m h.map) c.if-asked.false c.if-asked-3.true) _ _ c.put_never.ensures.is))

pub returns : goal.returns
returns c = rw (no_ways c.default.ensures) (stays, change_ends _ _ _ _ _ _ _ (not-null-arm _) (λ bound m h. decided_kind ((subst (Asks _ _ _) c.in_ok-asked.was c.ask.ensures).says _ bound m h.map) c.if-asked.false c.if-asked-3.false))
