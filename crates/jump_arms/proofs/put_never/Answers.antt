-- `jump_arms::put_never` stores a plain column that is never null. Assumes nothing.
use Rattle.std.specs.Prelude.{Ok, Some}
use Rattle.jump_arms.proofs.NullLaws.{put_bad, put_absent, never_single, never_record, never_int}
use mathlib.Core.Path.{refl, ap, ◌∙◌}
use Rattle.refusal.proofs.Passed.{passed}
use Rattle.jump_arms.proofs.StoreSteps.{same_store}
use Rattle.jump_arms.proofs.put_never.Goals as goal

pub returns-in_err-read_register : goal.returns-in_err-read_register
returns-in_err-read_register c = rw (passed _ _ c.from_residual.ensures.1) (record { same = same_store; kept = λ e was. refl; is = put_bad _ _ _ _ _ c.read_register.ensures _ _ c.in_err-read_register.was })

pub returns-in-None : goal.returns-in-None
returns-in-None c = record { same = same_store; kept = λ e was. refl; is = put_absent _ _ _ _ _ c.read_register.ensures c.requires.0 _ (c.in_ok-read_register.was ∙ ap Ok c.in-None.is) }

pub returns-in-Some-Single : goal.returns-in-Some-Single
returns-in-Some-Single c = record { same = c.put_single.ensures.same; kept = c.put_single.ensures.kept; is = never_single _ _ _ _ _ c.read_register.ensures _ _ _ _ c.put_single.ensures.is (c.in_ok-read_register.was ∙ ap Ok (c.in-Some-Single.is ∙ ap Some c.in-Some-Single.field-0-is)) }

pub returns-in-Some-Record : goal.returns-in-Some-Record
returns-in-Some-Record c = record { same = same_store; kept = λ e was. refl; is = never_record _ _ _ _ _ c.read_register.ensures c.requires.0 _ (c.in_ok-read_register.was ∙ ap Ok (c.in-Some-Record.is ∙ ap Some c.in-Some-Record.field-0-is)) }

pub returns-in-Some-Int : goal.returns-in-Some-Int
returns-in-Some-Int c = record { same = same_store; kept = λ e was. refl; is = never_int _ _ _ _ _ c.read_register.ensures c.requires.0 _ (c.in_ok-read_register.was ∙ ap Ok (c.in-Some-Int.is ∙ ap Some c.in-Some-Int.field-0-is)) }
