-- `root_block::root_block_columns` writes the records and links them. Assumes nothing.
use Rattle.root_block.proofs.LinkLaws.{stand_inside, indexed}
use Rattle.root_block.proofs.root_block_columns.Goals as goal

pub link_records-requires : goal.link_records-requires
link_records-requires c = stand_inside _ _ _ _ c.requires c.read_records-n.ensures

pub returns : goal.returns
returns c = indexed _ _ _ _ c.requires c.read_records-n.ensures _ c.link_records.ensures
