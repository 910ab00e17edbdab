-- `cursor_arms::delete` reads the cursor, and changes its table. Assumes nothing.
use Rattle.std.specs.Prelude.{Ok}
use mathlib.Core.Path.{refl, ap, ◌∙◌}
use Rattle.refusal.proofs.Passed.{passed}
use Rattle.state.proofs.Stores.{untouched, no_refusal}
use Rattle.cursor_arms.proofs.DeleteLaws.{delete_bad, delete_absent, delete_changed}
use Rattle.cursor_arms.proofs.delete.Goals as goal

pub returns-in_err-p : goal.returns-in_err-p
returns-in_err-p c = rw (passed _ _ c.from_residual.ensures.1) (record { same = untouched; kept = λ e was. refl; is = λ limit row current. delete_bad limit _ _ _ _ c.read_cursor.ensures _ c.in_err-p.was row })

pub returns-in_default : goal.returns-in_default
returns-in_default c = record { same = untouched; kept = λ e was. refl; is = λ limit row current. delete_absent limit _ _ _ _ c.read_cursor.ensures current (c.in_ok-p.was ∙ ap Ok c.in_default.is) row }

pub returns : goal.returns
returns c = record { same = c.delete.ensures.same; kept = no_refusal; is = λ limit row current. delete_changed limit _ _ _ _ c.read_cursor.ensures _ (c.in_ok-p.was ∙ ap Ok c.in-Some.is) _ _ c.delete.ensures.map c.delete.ensures.is current row }
