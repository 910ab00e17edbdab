-- `jump_arms::if_` asks whether the number is known. Assumes nothing.
use Rattle.std.specs.Prelude.{Ok}
use mathlib.Core.Path.{ap, subst, ◌∙◌}
use Rattle.refusal.proofs.Passed.{passed}
use Rattle.state.proofs.Stores.{stays}
use Rattle.jump_arms.specs.Arms.{Knows}
use Rattle.jump_arms.proofs.IfLaws.{if_bad, if_unknown, if_int}
use Rattle.jump_arms.proofs.if_.Goals as goal

pub returns-in_err-known_int : goal.returns-in_err-known_int
returns-in_err-known_int c = rw (passed _ _ c.from_residual.ensures.1) (stays, if_bad _ _ _ _ _ (subst (Knows _ _ _) c.in_err-known_int.was c.known_int.ensures))

pub returns-in-None : goal.returns-in-None
returns-in-None c = (c.if_both.ensures.0, if_unknown _ _ _ _ _ _ (subst (Knows _ _ _) (c.in_ok-known_int.was ∙ ap Ok c.in-None.is) c.known_int.ensures) c.if_both.ensures.1)

pub returns-in-Some : goal.returns-in-Some
returns-in-Some c = (c.if_known.ensures.0, if_int _ _ _ _ _ _ _ (subst (Knows _ _ _) (c.in_ok-known_int.was ∙ ap Ok c.in-Some.is) c.known_int.ensures) c.if_known.ensures.1)
