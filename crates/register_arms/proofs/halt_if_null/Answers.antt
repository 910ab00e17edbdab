-- `register_arms::halt_if_null` reads P3, and stores a plain column there again, as never null. Assumes nothing.
use Rattle.std.specs.Prelude.{Ok, Some}
use mathlib.Core.Path.{refl, ap, ◌∙◌}
use Rattle.refusal.proofs.Passed.{passed}
use Rattle.state.proofs.ArmLaws.{register_arm_where, register_arm_refuses, register_arm_same}
use Rattle.state.proofs.Stores.{untouched}
use Rattle.register_arms.proofs.ChangeLaws.{halt_refused, halt_nothing, halt_record, halt_int, halt_stored}
use Rattle.register_arms.proofs.halt_if_null.Goals as goal

pub returns-in_err-read_register : goal.returns-in_err-read_register
returns-in_err-read_register c = rw (passed _ _ c.from_residual.ensures.1) (record { same = untouched; kept = λ e was. refl; is = register_arm_refuses _ (λ meaning l s j bound m h. halt_refused _ meaning l c.args.x s j _ _ c.read_register.result bound m h c.read_register.ensures _ c.in_err-read_register.was) })

pub returns-in-None : goal.returns-in-None
returns-in-None c = record { same = untouched; kept = λ e was. refl; is = register_arm_same c.requires (λ meaning l s j bound m h. halt_nothing _ meaning l c.args.x s j _ _ c.read_register.result bound m h c.read_register.ensures (c.in_ok-read_register.was ∙ ap Ok c.in-None.is)) }

pub returns-in-Some-Single : goal.returns-in-Some-Single
returns-in-Some-Single c = record { same = c.store_single.ensures.same; kept = c.store_single.ensures.kept; is = register_arm_where c.store_single.ensures.is (λ meaning l s j bound m h. halt_stored _ meaning l c.args.x s j _ _ c.read_register.result bound m h c.read_register.ensures _ _ (c.in_ok-read_register.was ∙ ap Ok (c.in-Some-Single.is ∙ ap Some c.in-Some-Single.field-0-is))) }

pub returns-in-Some-Record : goal.returns-in-Some-Record
returns-in-Some-Record c = record { same = untouched; kept = λ e was. refl; is = register_arm_same c.requires (λ meaning l s j bound m h. halt_record _ meaning l c.args.x s j _ _ c.read_register.result bound m h c.read_register.ensures _ (c.in_ok-read_register.was ∙ ap Ok (c.in-Some-Record.is ∙ ap Some c.in-Some-Record.field-0-is))) }

pub returns-in-Some-Int : goal.returns-in-Some-Int
returns-in-Some-Int c = record { same = untouched; kept = λ e was. refl; is = register_arm_same c.requires (λ meaning l s j bound m h. halt_int _ meaning l c.args.x s j _ _ c.read_register.result bound m h c.read_register.ensures _ (c.in_ok-read_register.was ∙ ap Ok (c.in-Some-Int.is ∙ ap Some c.in-Some-Int.field-0-is))) }
