-- `column_arms::column` reads the cursor and stores one of its columns, or the default. Assumes nothing.
use Rattle.std.specs.Prelude.{Ok}
use mathlib.Core.Path.{refl, ap, ◌∙◌}
use Rattle.refusal.proofs.Passed.{passed}
use Rattle.state.proofs.Stores.{untouched}
use Rattle.column_arms.proofs.ArmLaws.{head_run, head_tag, column_goes, column_default, arm_bad, arm_absent, arm_there}
use Rattle.column_arms.proofs.column.Goals as goal

pub store_column-requires : goal.store_column-requires
store_column-requires c = (c.requires, head_run _ _ _ c.args.x c.requires _ c.columns_of.ensures _ (c.in_ok-at.was ∙ ap Ok c.in-Some.is), head_tag _ _ _ c.args.x c.requires _ c.columns_of.ensures _ (c.in_ok-at.was ∙ ap Ok c.in-Some.is))

pub returns-in_err-at : goal.returns-in_err-at
returns-in_err-at c = rw (passed _ _ c.from_residual.ensures.1) (record { same = untouched; kept = λ e was. refl; is = arm_bad _ _ _ c.args.x c.requires _ c.columns_of.ensures _ _ (λ row. column_goes _ row c.args.x) _ c.in_err-at.was })

pub returns-in_default : goal.returns-in_default
returns-in_default c = record { same = c.store_single.ensures.same; kept = c.store_single.ensures.kept; is = arm_absent _ _ _ c.args.x c.requires _ c.columns_of.ensures _ _ (λ row. column_goes _ row c.args.x) (c.in_ok-at.was ∙ ap Ok c.in_default.is) _ _ (column_default _ _ _ _ _ _ _ c.store_single.ensures.is) }

pub returns : goal.returns
returns c = record { same = c.store_column.ensures.same; kept = c.store_column.ensures.kept; is = arm_there _ _ _ c.args.x c.requires _ c.columns_of.ensures _ _ (λ row. column_goes _ row c.args.x) _ (c.in_ok-at.was ∙ ap Ok c.in-Some.is) _ _ c.store_column.ensures.is }
