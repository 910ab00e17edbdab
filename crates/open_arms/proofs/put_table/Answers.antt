-- `open_arms::put_table` writes the head, then the columns. Assumes nothing.
use Rattle.open_arms.proofs.OpenLaws.{table_put}
use Rattle.open_arms.proofs.put_table.Goals as goal

pub returns : goal.returns
returns c = table_put _ _ _ _ _ _ c.requires.within (rw c.columns_head.ensures at c.put_cell.ensures.cells) c.single-c.ensures c.from_elem.ensures
