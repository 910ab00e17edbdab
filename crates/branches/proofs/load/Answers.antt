-- `branches::load` copies the map, then the counts, and the second copy leaves the first as it is. Assumes nothing.
use Rattle.std.proofs.Common.{rules, sym}
use Rattle.branches.proofs.SaveLaws.{loaded_as}
use Rattle.branches.proofs.load.Goals as goal

pub returns : goal.returns
returns c =
    loaded_as _ _ _ _ _ _ _ _ _ _ c.requires c.state_at-s.ensures c.copy_to-map.auto.area c.copy_to-map.ensures (rw (sym c.count_cells.ensures) c.move_cells.ensures) (search rules) c.type_inv.area
