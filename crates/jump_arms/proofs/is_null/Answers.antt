-- `jump_arms::is_null` asks the register. Assumes nothing.
use Rattle.std.specs.Prelude.{Ok}
use mathlib.Core.Path.{sym, ap, subst}
use Rattle.refusal.proofs.Passed.{passed}
use Rattle.state.proofs.ArmLaws.{no_ways}
use Rattle.state.specs.Steps.{JumpArm}
use Rattle.state.proofs.Stores.{stays}
use Rattle.jump_arms.specs.Arms.{Asks}
use Rattle.jump_arms.proofs.NullLaws.{change_bad, change_ends, change_both, is-null-arm, decided_null}
use Rattle.jump_arms.proofs.is_null.Goals as goal

pub returns-in_err-asked : goal.returns-in_err-asked
returns-in_err-asked c = rw (passed _ _ c.from_residual.ensures.1) (stays, change_bad _ _ _ _ _ _ _ (is-null-arm _) _ (subst (Asks _ _ _) c.in_err-asked.was c.ask.ensures))

pub returns : goal.returns
returns c = (stays, subst (JumpArm _ _ _ _ _ _) (ap Ok (sym (no_ways c.default-ends.ensures))) (change_ends _ _ _ _ _ _ _ (is-null-arm _) (λ bound m h. decided_null ((subst (Asks _ _ _) c.in_ok-asked.was c.ask.ensures).says _ bound m h.map) c.if-asked.false)))

pub returns-then-asked : goal.returns-then-asked
returns-then-asked c = (c.change_both.ensures.0, change_both _ _ _ _ _ _ _ (is-null-arm _) (λ bound m h. decided_null ((subst (Asks _ _ _) c.in_ok-asked.was c.ask.ensures).says _ bound m h.map) c.if-asked.true) _ _ c.change_both.ensures.1)
