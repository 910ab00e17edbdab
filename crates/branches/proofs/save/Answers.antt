-- `branches::save` copies the map and the counts, then writes the header before them. Assumes nothing.
use Rattle.std.proofs.Common.{arith, rules, sym}
use Rattle.intmap.proofs.StoreLaws.{few_entries}
use Rattle.branches.proofs.SaveLaws.{saved}
use Rattle.branches.proofs.save.Goals as goal

pub overflow_add-len : goal.overflow_add-len
overflow_add-len c = omega (arith, few_entries _ _ c.requires.map, c.requires.few)

pub overflow_add-len-2 : goal.overflow_add-len-2
overflow_add-len-2 c = omega (arith, few_entries _ _ c.requires.map, c.requires.few, c.requires.later)

pub returns : goal.returns
returns c = saved _ _ _ _ _ _ _ _ _ _ _ _ c.requires c.copy_to.auto.area c.copy_to.ensures (rw (sym c.count_cells.ensures) c.move_cells.ensures) c.put_cell.ensures (rw (sym c.link_of.ensures) c.put_cell-2.ensures) (search rules) c.type_inv.area
