-- `column_arms::store_column` judges the number, and stores the column that it finds, or the default. Assumes nothing.
use Rattle.std.specs.Prelude.{Ok}
use mathlib.Core.Path.{refl, ap, ◌∙◌}
use Rattle.refusal.proofs.Passed.{passed}
use Rattle.area.specs.declared.Cell.{Cell}
use Rattle.intmap.specs.Pack.{tag_of}
use Rattle.state.proofs.Stores.{untouched, same_then, no_refusal}
use Rattle.copy_arms.proofs.RunLaws.{stores-alone}
use Rattle.column_arms.proofs.ArmLaws.{still_stored, column_index, column_absent, column_there}
use Rattle.column_arms.proofs.store_column.Goals as goal

pub returns-then-store_over : goal.returns-then-store_over
returns-then-store_over c = let over = c.store_over.ensures in let alone = over.0 c.if-store_over.true in
    record { same = over.1.same; kept = no_refusal; is = rw over.1.map (column_there _ _ _ _ _ _ _ c.judge_index.ensures _ c.in_ok-k.was _ c.find_column.ensures _ (c.in_ok-q.was ∙ ap Ok c.in-Some.is) _ c.cell_at-c.ensures _ _ (stores-alone _ _ _ _ _ (ap (λ (y : Cell). tag_of y) c.cell_at-c.ensures) alone _ _ _ ((over.1.is.0 alone).yes c.if-store_over.true _ c.requires.0.room))) }

pub returns-in_err-k : goal.returns-in_err-k
returns-in_err-k c = rw (passed _ _ c.from_residual.ensures.1) (record { same = untouched; kept = λ e was. refl; is = column_index _ _ _ _ _ _ _ c.judge_index.ensures _ c.in_err-k.was })

pub returns-in_default : goal.returns-in_default
returns-in_default c = record { same = c.store_single.ensures.same; kept = c.store_single.ensures.kept; is = column_absent _ _ _ _ _ _ _ c.judge_index.ensures _ c.in_ok-k.was _ c.find_column.ensures (c.in_ok-q.was ∙ ap Ok c.in_default.is) _ _ c.store_single.ensures.is }

pub returns : goal.returns
returns c = let over = c.store_over.ensures.1 in let st = rw (over.same.limit, over.map) at c.store_from.ensures.is in
    record { same = same_then over.same c.store_from.ensures.same; kept = λ e was. c.store_from.ensures.kept e was ∙ over.map; is = column_there _ _ _ _ _ _ _ c.judge_index.ensures _ c.in_ok-k.was _ c.find_column.ensures _ (c.in_ok-q.was ∙ ap Ok c.in-Some.is) _ c.cell_at-c.ensures _ _ (still_stored (over.is.1 c.if-store_over.false) _ _ _ st) }
