-- `IntMap::eq` compares the numbers of entries, then all cells, then the entries. Assumes nothing.
use Rattle.intmap.proofs.EqualLaws.{other_len, same_len, same_entries}
use Rattle.intmap.proofs.IntMap.eq.Goals as goal

pub returns-then-self-other : goal.returns-then-self-other
returns-then-self-other c = other_len _ _ _ c.if-self-other.true

pub returns-then-same_cells : goal.returns-then-same_cells
returns-then-same_cells c = same_entries _ _ _ c.if-self-other.false c.requires.0 c.same_cells.ensures c.if-same_cells.true

pub returns : goal.returns
returns c = same_len _ _ _ _ c.if-self-other.false c.record_eq.ensures
