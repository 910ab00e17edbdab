-- `root_block::block_of` puts the page and the database under the column's head. Assumes nothing.
use Rattle.root_block.proofs.ColumnLaws.{block_made}
use Rattle.root_block.proofs.block_of.Goals as goal

pub returns : goal.returns
returns c = block_made c.args.r _ c.column_of-c.ensures c.requires.0 c.requires.1 c.requires.2
