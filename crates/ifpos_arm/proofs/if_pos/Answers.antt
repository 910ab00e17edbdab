-- `ifpos_arm::if_pos` reads the register. Assumes nothing.
use Rattle.std.specs.Prelude.{Ok}
use mathlib.Core.Path.{ap, subst, ◌∙◌}
use Rattle.refusal.proofs.Passed.{passed}
use Rattle.state.proofs.Stores.{stays, leaves_ok, leaves_err}
use Rattle.jump_arms.specs.Arms.{Knows}
use Rattle.jump_arms.proofs.StoreSteps.{branch_err, branch_ok}
use Rattle.ifpos_arm.specs.Arm.{IfPosArm}
use Rattle.ifpos_arm.proofs.IfPosLaws.{again_as, pos_bad, pos_unknown, pos_on, pos_branch}
use Rattle.ifpos_arm.proofs.if_pos.Goals as goal

pub returns-in_err-put_int : goal.returns-in_err-put_int
returns-in_err-put_int c = (leaves_err c.put_int.ensures c.in_err-put_int.was, subst (IfPosArm _ _ _ _ _ _) (branch_err c.put_int.new.store c.in_err-put_int.was (passed _ _ c.from_residual-in_err-put_int.ensures.1) _) (again_as _ _ _ _ _ _ _ _ c.if-again.false (pos_branch _ _ _ _ _ (subst (Knows _ _ _) (c.in_ok-w.was ∙ ap Ok c.in-Some.is) c.known_int.ensures) _ c.word_before.ensures _ _ c.if-w-gt-ZERO.true c.put_int.ensures.is)))

pub returns-then-w-gt-ZERO : goal.returns-then-w-gt-ZERO
returns-then-w-gt-ZERO c = (leaves_ok c.put_int.ensures.same, subst (IfPosArm _ _ _ _ _ _) (branch_ok c.put_int.new.store c.in_ok-put_int.was _ c.branch_at.ensures) (again_as _ _ _ _ _ _ _ _ c.if-again.false (pos_branch _ _ _ _ _ (subst (Knows _ _ _) (c.in_ok-w.was ∙ ap Ok c.in-Some.is) c.known_int.ensures) _ c.word_before.ensures _ _ c.if-w-gt-ZERO.true c.put_int.ensures.is)))

pub returns-in_err-w : goal.returns-in_err-w
returns-in_err-w c = rw (passed _ _ c.from_residual.ensures.1) (stays, pos_bad _ _ _ _ _ _ (subst (Knows _ _ _) c.in_err-w.was c.known_int.ensures))

pub returns-in_default : goal.returns-in_default
returns-in_default c = rw (c.branch_and_go.ensures, c.at.ensures.0, c.at.ensures.1) (stays, pos_unknown _ _ _ _ _ c.requires.current (subst (Knows _ _ _) (c.in_ok-w.was ∙ ap Ok c.in_default.is) c.known_int.ensures))

pub returns : goal.returns
returns c = rw c.go_on.ensures (stays, again_as _ _ _ _ _ _ _ _ c.if-again.false (pos_on _ _ _ _ _ (subst (Knows _ _ _) (c.in_ok-w.was ∙ ap Ok c.in-Some.is) c.known_int.ensures) c.requires.current c.if-w-gt-ZERO.false))
