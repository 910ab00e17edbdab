-- `column_arms::find_column` searches the columns, and looks whether the one that it finds nests within its levels. Assumes nothing.
use mathlib.Core.Path.{sym, ◌∙◌}
use Rattle.intmap.proofs.RunLaws.{first-inside}
use Rattle.column_arms.proofs.ColumnLaws.{first_in, column_direct, run-within, columns_behind, found_column, column_none, column_alone, column_record, too_deep}
use Rattle.column_arms.proofs.find_column.Goals as goal

pub is_direct-requires : goal.is_direct-requires
is_direct-requires c = (c.requires.2, first_in _ c.args.store.now.map _ c.requires.3)

pub returns-then-is_direct : goal.returns-then-is_direct
returns-then-is_direct c = column_direct _ _ _ _ c.requires.0 c.requires.1 c.requires.3.1 _ c.cell_at-head.ensures (c.is_direct.ensures c.if-is_direct.true)

pub find_from-requires : goal.find_from-requires
find_from-requires c = columns_behind _ _ c.requires.0 c.requires.1 _ c.cell_at-head.ensures

pub returns-in_default : goal.returns-in_default
returns-in_default c = column_none _ _ c.requires.0 c.requires.1 _ c.cell_at-head.ensures _ _ (sym c.in_default.is ∙ c.find_from.ensures)

pub cell_at-c-requires : goal.cell_at-c-requires
cell_at-c-requires c = first-inside _ _ _ (found_column _ _ c.requires.0 c.requires.1 _ c.cell_at-head.ensures _ _ c.in-Ok.ensures)

pub returns-then-tag_of-ne-RECORD : goal.returns-then-tag_of-ne-RECORD
returns-then-tag_of-ne-RECORD c = column_alone _ _ c.requires.0 c.requires.1 _ c.cell_at-head.ensures _ _ c.in-Ok.ensures _ c.cell_at-c.ensures (λ e. c.if-tag_of-ne-RECORD.true (c.tag_of.ensures ∙ e))

pub count-n-requires : goal.count-n-requires
count-n-requires c = found_column _ _ c.requires.0 c.requires.1 _ c.cell_at-head.ensures _ _ c.in-Ok.ensures

pub is_whole-requires : goal.is_whole-requires
is_whole-requires c = run-within _ _ _ (found_column _ _ c.requires.0 c.requires.1 _ c.cell_at-head.ensures _ _ c.in-Ok.ensures) _ c.count-n.ensures

pub returns-then-is_whole : goal.returns-then-is_whole
returns-then-is_whole c = column_record _ _ c.requires.0 c.requires.1 _ c.cell_at-head.ensures _ _ c.in-Ok.ensures _ c.count-n.ensures _ c.is_whole.ensures c.if-is_whole.true

pub returns : goal.returns
returns c = too_deep _ _ c.requires.0 c.requires.1 _ c.cell_at-head.ensures _ _ c.in-Ok.ensures _ c.count-n.ensures _ c.is_whole.ensures c.if-is_whole.false
