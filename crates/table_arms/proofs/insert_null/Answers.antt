-- `table_arms::insert_null` sets the emptiness of the cursor's table. Assumes nothing.
use Rattle.std.specs.Prelude.{Ok}
use mathlib.Core.Path.{refl, ap, ◌∙◌}
use Rattle.refusal.proofs.Passed.{passed}
use Rattle.state.proofs.Stores.{untouched, no_refusal}
use Rattle.table_arms.proofs.InsertLaws.{null_bad, null_absent, null_changed}
use Rattle.table_arms.proofs.insert_null.Goals as goal

pub returns-in_err-p : goal.returns-in_err-p
returns-in_err-p c = rw (passed _ _ c.from_residual.ensures.1) (record { same = untouched; kept = λ e was. refl; is = null_bad _ _ _ _ _ c.read_cursor.ensures c.requires _ c.in_err-p.was })

pub returns-in_default : goal.returns-in_default
returns-in_default c = record { same = untouched; kept = λ e was. refl; is = null_absent _ _ _ _ _ c.read_cursor.ensures c.requires (c.in_ok-p.was ∙ ap Ok c.in_default.is) }

pub returns : goal.returns
returns c = record { same = c.set_empty.ensures.same; kept = no_refusal; is = null_changed _ _ _ _ _ c.read_cursor.ensures c.requires _ (c.in_ok-p.was ∙ ap Ok c.in-Some.is) _ _ c.set_empty.ensures.map c.set_empty.ensures.is }
