-- `IntMap::copy_to` moves the cells, and the same cells are the same entries. Assumes nothing.
use Rattle.intmap.proofs.MapLaws.{map-copied}
use Rattle.intmap.proofs.IntMap.copy_to.Goals as goal

pub returns : goal.returns
returns c = map-copied _ _ _ _ c.requires.0 c.requires.1 c.move_cells.ensures.cells
