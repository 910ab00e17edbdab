-- `table_arms::insert` reads the register, and goes by what it holds. Assumes nothing.
use Rattle.std.specs.Prelude.{Ok, Some}
use mathlib.Core.Path.{◌≡◌, refl, ap, ◌∙◌}
use Rattle.type_info.specs.declared.DataType.TheVariants.{Null}
use Rattle.refusal.proofs.Passed.{passed}
use Rattle.std.proofs.Common.{rules}
use Rattle.state.specs.declared.Register.TheVariants as register
use Rattle.state.proofs.Stores.{untouched}
use Rattle.table_arms.proofs.InsertLaws.{insert_bad, insert_absent, insert_number, insert_other, insert_plain_null, insert_run, insert_of_record}
use Rattle.table_arms.proofs.insert.Goals as goal

pub returns-in_err-held : goal.returns-in_err-held
returns-in_err-held c = rw (passed _ _ c.from_residual.ensures.1) (record { same = untouched; kept = λ e was. refl; is = insert_bad _ _ _ _ c.requires _ c.read_register.ensures _ c.in_err-held.was })

pub returns-in_default : goal.returns-in_default
returns-in_default c = record { same = untouched; kept = λ e was. refl; is = insert_absent _ _ _ _ c.requires _ c.read_register.ensures (c.in_ok-held.was ∙ ap Ok c.in_default.is) }

pub insert_record-requires : goal.insert_record-requires
insert_record-requires c = (c.requires, insert_run _ _ _ c.args.x c.requires _ c.read_register.ensures _ (c.in_ok-held.was ∙ ap Ok (c.in-Some.is ∙ ap Some c.in-Record.is)))

pub returns-in-Record : goal.returns-in-Record
returns-in-Record c = record { same = c.insert_record.ensures.same; kept = c.insert_record.ensures.kept; is = insert_of_record _ _ _ _ c.requires _ c.read_register.ensures _ (c.in_ok-held.was ∙ ap Ok (c.in-Some.is ∙ ap Some c.in-Record.is)) _ _ c.insert_record.ensures.is }

pub returns-in-Single-Null-default : goal.returns-in-Single-Null-default
returns-in-Single-Null-default c =
    let null : c.in-Some.held ≡ register.Single Null c.in-Single-Null-default.field-1 = search rules in
    record { same = c.insert_null.ensures.same; kept = c.insert_null.ensures.kept; is = insert_plain_null _ _ _ _ c.requires _ c.read_register.ensures _ (c.in_ok-held.was ∙ ap Ok (c.in-Some.is ∙ ap Some null)) _ _ c.insert_null.ensures.is }

pub returns-in-Single : goal.returns-in-Single
returns-in-Single c = record { same = untouched; kept = λ e was. refl; is = insert_other _ _ _ _ c.requires _ c.read_register.ensures _ _ (λ e. search rules) (c.in_ok-held.was ∙ ap Ok (c.in-Some.is ∙ ap Some c.in-Single.is)) }

pub returns-in-Int : goal.returns-in-Int
returns-in-Int c = record { same = untouched; kept = λ e was. refl; is = insert_number _ _ _ _ c.requires _ c.read_register.ensures _ (c.in_ok-held.was ∙ ap Ok (c.in-Some.is ∙ ap Some c.in-Int.is)) }
