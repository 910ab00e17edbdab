-- `branches::link` adds the place to the third of the links' word that is 0. Assumes nothing.
use Rattle.std.proofs.Common.{arith}
use Rattle.branches.proofs.SaveLaws.{link_fits, linked}
use Rattle.branches.proofs.link.Goals as goal

pub overflow_add-c : goal.overflow_add-c
overflow_add-c c = record { fits = link_fits c.args.area.now _ _ _ _ _ c.requires c.in-Some.is c.cell_at-c.ensures c.shift.ensures (omega arith) }

pub returns : goal.returns
returns c = linked _ _ _ _ _ _ c.requires c.in-Some.is c.cell_at-c.ensures c.shift.ensures _ c.put_cell.ensures
