-- `table_arms::insert_record` goes by the cursor and its table. Assumes nothing.
use Rattle.std.specs.Prelude.{Ok, Some}
use mathlib.Core.Path.{refl, ap, ◌∙◌}
use Rattle.refusal.proofs.Passed.{passed}
use Rattle.state.proofs.Stores.{untouched}
use Rattle.table_arms.proofs.InsertLaws.{record_bad, record_absent, record_pseudo, table_absent, table_there}
use Rattle.table_arms.proofs.insert_record.Goals as goal

pub returns-in_err-p : goal.returns-in_err-p
returns-in_err-p c = rw (passed _ _ c.from_residual.ensures.1) (record { same = untouched; kept = λ e was. refl; is = record_bad _ _ _ _ _ c.read_cursor.ensures c.requires.0 _ _ c.in_err-p.was })

pub returns-in_default : goal.returns-in_default
returns-in_default c = record { same = untouched; kept = λ e was. refl; is = record_absent _ _ _ _ _ c.read_cursor.ensures c.requires.0 _ (c.in_ok-p.was ∙ ap Ok c.in_default.is) }

pub returns-in_default-p : goal.returns-in_default-p
returns-in_default-p c = record { same = untouched; kept = λ e was. refl; is = record_pseudo _ _ _ _ _ c.read_cursor.ensures c.requires.0 _ _ (c.in_ok-p.was ∙ ap Ok c.in-Some.is ∙ ap (λ p. Ok (Some p)) c.in_default-p.is) }

pub returns-in_default-table : goal.returns-in_default-table
returns-in_default-table c = record { same = untouched; kept = λ e was. refl; is = table_absent _ _ _ _ _ c.read_cursor.ensures c.requires.0 _ _ (c.in_ok-p.was ∙ ap Ok c.in-Some.is ∙ ap (λ p. Ok (Some p)) c.in-Normal.is) _ c.table.ensures c.in_default-table.is }

pub returns : goal.returns
returns c = record { same = c.store_table.ensures.same; kept = c.store_table.ensures.kept; is = table_there _ _ _ _ _ c.read_cursor.ensures c.requires.0 _ _ (c.in_ok-p.was ∙ ap Ok c.in-Some.is ∙ ap (λ p. Ok (Some p)) c.in-Normal.is) _ c.table.ensures _ c.in-Some-table.is _ _ c.store_table.ensures.is }
