-- `rewind_arm::rewind` reads the cursor, where P2 is not 0. Assumes nothing.
use Rattle.std.specs.Prelude.{Ok, Some}
use mathlib.Core.Path.{ap, ◌∙◌}
use Rattle.refusal.proofs.Passed.{passed}
use Rattle.state.proofs.ArmLaws.{no_ways}
use Rattle.state.proofs.Stores.{stays}
use Rattle.rewind_arm.proofs.RewindLaws.{rewind_on, rewind_bad, rewind_absent, rewind_normal, rewind_pseudo}
use Rattle.rewind_arm.proofs.rewind.Goals as goal

pub returns-then-x-eq-ZERO : goal.returns-then-x-eq-ZERO
returns-then-x-eq-ZERO c = (stays, rw c.go_on.ensures (rewind_on _ _ _ _ c.requires.current c.if-x-eq-ZERO.true))

pub returns-in_err-read_cursor : goal.returns-in_err-read_cursor
returns-in_err-read_cursor c = rw (passed _ _ c.from_residual.ensures.1) (stays, rewind_bad _ _ _ _ c.requires.current c.if-x-eq-ZERO.false _ c.read_cursor.ensures _ c.in_err-read_cursor.was)

pub returns-in-None : goal.returns-in-None
returns-in-None c = rw (no_ways c.default.ensures) (stays, rewind_absent _ _ _ _ c.requires.current c.if-x-eq-ZERO.false _ c.read_cursor.ensures (c.in_ok-read_cursor.was ∙ ap Ok c.in-None.is))

pub returns-in-Some-Normal : goal.returns-in-Some-Normal
returns-in-Some-Normal c = (c.rewind_table.ensures.0, rewind_normal _ _ _ _ c.requires.current c.if-x-eq-ZERO.false _ c.read_cursor.ensures _ (c.in_ok-read_cursor.was ∙ ap Ok c.in-Some-Normal.is ∙ ap (λ p. Ok (Some p)) c.in-Some-Normal.field-0-is) _ _ c.rewind_table.ensures.1)

pub returns-in-Some-Pseudo : goal.returns-in-Some-Pseudo
returns-in-Some-Pseudo c = (stays, rw c.go_on-in-Some-Pseudo.ensures (rewind_pseudo _ _ _ _ c.requires.current c.if-x-eq-ZERO.false _ c.read_cursor.ensures _ (c.in_ok-read_cursor.was ∙ ap Ok c.in-Some-Pseudo.is ∙ ap (λ p. Ok (Some p)) c.in-Some-Pseudo.field-0-is)))
