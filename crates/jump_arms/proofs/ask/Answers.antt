-- `jump_arms::ask` reads the register. Assumes nothing.
use mathlib.Core.Path.{ap, ◌∙◌, sym}
use Rattle.std.specs.Prelude.{Ok, Some}
use Rattle.jump_arms.proofs.NullLaws.{asks_bad, asks_absent, asks_record, asks_int, asks_single, not_false, some_kind}
use Rattle.refusal.proofs.Passed.{passed}
use Rattle.jump_arms.proofs.ask.Goals as goal
use Rattle.jump_arms.proofs.ask.Goals.{in-Null, in_default}
use mathlib.Core.Bool.{not}
use Rattle.model.specs.State.{is_null_type}

pub returns-in_err-read_register : goal.returns-in_err-read_register
returns-in_err-read_register c = rw (passed _ _ c.from_residual.ensures.1) (asks_bad _ _ _ _ c.read_register.ensures _ c.in_err-read_register.was)

pub returns-in-None : goal.returns-in-None
returns-in-None c = asks_absent _ _ _ _ c.read_register.ensures (c.in_ok-read_register.was ∙ ap Ok c.in-None.is)

pub returns-after-matches : goal.returns-after-matches
returns-after-matches c =
    asks_single _ _ _ _ c.read_register.ensures _ _ (c.in_ok-read_register.was ∙ ap Ok (c.in-Some-Single.is ∙ ap Some c.in-Some-Single.field-0-is)) _ _ (c.ne.ensures ∙ not_false c.in-Some-Single.nullable)
    (elim c.match-matches.branch [
      | in-Null w ↦ ap not w.matches-is ∙ ap (λ d. not (is_null_type d)) (sym w.in-Null.is)
      | in_default w ↦ ap not w.matches-is ∙ some_kind _ w.in_default.not-Null
    ])

pub returns-in-Some-Record : goal.returns-in-Some-Record
returns-in-Some-Record c = asks_record _ _ _ _ c.read_register.ensures _ (c.in_ok-read_register.was ∙ ap Ok (c.in-Some-Record.is ∙ ap Some c.in-Some-Record.field-0-is))

pub returns-in-Some-Int : goal.returns-in-Some-Int
returns-in-Some-Int c = asks_int _ _ _ _ c.read_register.ensures _ (c.in_ok-read_register.was ∙ ap Ok (c.in-Some-Int.is ∙ ap Some c.in-Some-Int.field-0-is))
