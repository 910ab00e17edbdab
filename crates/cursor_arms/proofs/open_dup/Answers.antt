-- `cursor_arms::open_dup` reads a cursor, and stores it if there is one. Assumes nothing.
use Rattle.std.specs.Prelude.{Ok}
use mathlib.Core.Path.{refl, ap, ◌∙◌}
use Rattle.refusal.proofs.Passed.{passed}
use Rattle.state.proofs.Stores.{untouched}
use Rattle.cursor_arms.proofs.DupLaws.{dup_bad, dup_absent, dup_stored}
use Rattle.cursor_arms.proofs.open_dup.Goals as goal

pub returns-in_err-p : goal.returns-in_err-p
returns-in_err-p c = rw (passed _ _ c.from_residual.ensures.1) (record { same = untouched; kept = λ e was. refl; is = dup_bad _ _ _ _ _ c.read_cursor.ensures _ c.in_err-p.was })

pub returns-in_default : goal.returns-in_default
returns-in_default c = record { same = untouched; kept = λ e was. refl; is = dup_absent _ _ _ _ _ c.read_cursor.ensures c.requires (c.in_ok-p.was ∙ ap Ok c.in_default.is) }

pub returns : goal.returns
returns c = record { same = c.store_cell.ensures.same; kept = c.store_cell.ensures.kept; is = dup_stored _ _ _ _ _ c.read_cursor.ensures _ (c.in_ok-p.was ∙ ap Ok c.in-Some.is) _ c.cell.ensures _ _ c.store_cell.ensures.is }
