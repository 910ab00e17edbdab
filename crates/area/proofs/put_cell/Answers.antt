-- `area::put_cell` writes both words of the cell. Assumes nothing.
use Rattle.area.proofs.CellLaws.{cell-head, cell_payload, inside-kept, cell-put}
use Rattle.area.proofs.put_cell.Goals as goal

pub put_word-requires : goal.put_word-requires
put_word-requires c = cell-head _ _ c.requires

pub put_word-requires-2 : goal.put_word-requires-2
put_word-requires-2 c = cell_payload _ _ (inside-kept _ _ _ _ c.put_word.ensures.bytes c.requires)

pub returns : goal.returns
returns c = cell-put _ _ _ _ _ _ c.requires c.put_word.ensures c.put_word-2.ensures
