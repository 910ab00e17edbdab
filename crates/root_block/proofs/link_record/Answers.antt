-- `root_block::link_record` stores the record's cell and then the bucket's, which may be the same. Assumes nothing.
use Rattle.root_block.proofs.LinkLaws.{link_made}
use Rattle.root_block.proofs.link_record.Goals as goal

pub returns : goal.returns
returns c = link_made _ _ _ _ _ _ _ _ c.cell_at-c.ensures c.first_link-first.ensures.0 c.put_cell.ensures c.bucket-b.ensures c.cell_at-d.ensures c.put_cell-2.ensures
