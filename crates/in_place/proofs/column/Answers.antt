-- `in_place::column` finds the table, and stores one of its columns. Assumes nothing.
use Rattle.in_place.proofs.ColumnLaws.{column_near}
use Rattle.in_place.proofs.column.Goals as goal

pub returns : goal.returns
returns c = column_near c.judge_index.ensures c.in-Ok.is c.table.ensures c.in-Some.is c.column_at.ensures
