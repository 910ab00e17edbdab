-- `jump_arms::known_int_in` reads the register. Assumes nothing.
use mathlib.Core.Path.{ap, ◌∙◌}
use Rattle.std.specs.Prelude.{Ok, Some}
use Rattle.refusal.proofs.Passed.{passed}
use Rattle.jump_arms.proofs.ReturnLaws.{knows_bad, knows_absent, knows_single, knows_record, knows_int}
use Rattle.jump_arms.proofs.known_int_in.Goals as goal

pub returns-in_err-read_register : goal.returns-in_err-read_register
returns-in_err-read_register c = rw (passed _ _ c.from_residual.ensures.1) (knows_bad _ _ _ _ c.read_register.ensures _ c.in_err-read_register.was)

pub returns-in-None : goal.returns-in-None
returns-in-None c = knows_absent _ _ _ _ c.read_register.ensures (c.in_ok-read_register.was ∙ ap Ok c.in-None.is)

pub returns-in-Some-Single : goal.returns-in-Some-Single
returns-in-Some-Single c = knows_single _ _ _ _ c.read_register.ensures _ _ (c.in_ok-read_register.was ∙ ap Ok (c.in-Some-Single.is ∙ ap Some c.in-Some-Single.field-0-is))

pub returns-in-Some-Record : goal.returns-in-Some-Record
returns-in-Some-Record c = knows_record _ _ _ _ c.read_register.ensures _ (c.in_ok-read_register.was ∙ ap Ok (c.in-Some-Record.is ∙ ap Some c.in-Some-Record.field-0-is))

pub returns-in-Some-Int : goal.returns-in-Some-Int
returns-in-Some-Int c = knows_int _ _ _ _ c.read_register.ensures _ (c.in_ok-read_register.was ∙ ap Ok (c.in-Some-Int.is ∙ ap Some c.in-Some-Int.field-0-is))
