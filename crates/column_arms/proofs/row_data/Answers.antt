-- `column_arms::row_data` reads the cursor and stores its columns as a record, or an empty one. Assumes nothing.
use Rattle.std.specs.Prelude.{Ok}
use mathlib.Core.Path.{refl, sym, ap, ◌∙◌}
use Rattle.refusal.proofs.Passed.{passed}
use Rattle.area.specs.declared.Cell.{Cell}
use Rattle.intmap.specs.Pack.{tag_of}
use Rattle.state.proofs.Stores.{untouched}
use Rattle.column_arms.proofs.ArmLaws.{head_run, head_tag, row_goes, row_empty, row_there, arm_bad, arm_absent, arm_there}
use Rattle.column_arms.proofs.row_data.Goals as goal

pub store_from-requires : goal.store_from-requires
store_from-requires c = (c.requires, head_run _ _ _ c.args.x c.requires _ c.columns_of.ensures _ (c.in_ok-at.was ∙ ap Ok c.in-Some.is), ap (λ (y : Cell). tag_of y) c.columns_head.ensures ∙ sym (head_tag _ _ _ c.args.x c.requires _ c.columns_of.ensures _ (c.in_ok-at.was ∙ ap Ok c.in-Some.is)), ap (λ (y : Cell). y.payload) c.columns_head.ensures ∙ ap (λ (y : Cell). y.payload) c.cell_at-n.ensures)

pub returns-in_err-at : goal.returns-in_err-at
returns-in_err-at c = rw (passed _ _ c.from_residual.ensures.1) (record { same = untouched; kept = λ e was. refl; is = arm_bad _ _ _ c.args.x c.requires _ c.columns_of.ensures _ _ (λ row. row_goes _ row c.args.x) _ c.in_err-at.was })

pub returns-in_default : goal.returns-in_default
returns-in_default c = record { same = c.store_empty.ensures.same; kept = c.store_empty.ensures.kept; is = arm_absent _ _ _ c.args.x c.requires _ c.columns_of.ensures _ _ (λ row. row_goes _ row c.args.x) (c.in_ok-at.was ∙ ap Ok c.in_default.is) _ _ (row_empty _ _ _ _ _ _ c.store_empty.ensures.is) }

pub returns : goal.returns
returns c = record { same = c.store_from.ensures.same; kept = c.store_from.ensures.kept; is = arm_there _ _ _ c.args.x c.requires _ c.columns_of.ensures _ _ (λ row. row_goes _ row c.args.x) _ (c.in_ok-at.was ∙ ap Ok c.in-Some.is) _ _ (row_there _ _ _ _ _ (head_tag _ _ _ c.args.x c.requires _ c.columns_of.ensures _ (c.in_ok-at.was ∙ ap Ok c.in-Some.is)) _ c.cell_at-n.ensures _ _ (rw c.columns_head.ensures at c.store_from.ensures.is)) }
