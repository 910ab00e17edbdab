-- `root_block::column_of` makes the cell of the declared type's kind, and gives it the column's number. Assumes nothing.
use Rattle.root_block.proofs.ColumnLaws.{column_made}
use Rattle.root_block.proofs.column_of.Goals as goal

pub returns : goal.returns
returns c = column_made c.args.r _ _ _ c.from_str-d.ensures c.single.ensures c.with_key.ensures
