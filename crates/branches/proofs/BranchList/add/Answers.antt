-- `BranchList::add` saves the state at the top, if there is space, and links it. Assumes nothing.
use Rattle.std.proofs.Common.{arith, rules}
use Rattle.area.proofs.CellLaws.{length-cells}
use Rattle.branches.proofs.AddLaws.{push_full, save_ready, link_ready, push_added}
use Rattle.branches.proofs.BranchList.add.Goals as goal

pub returns-then-area-end : goal.returns-then-area-end
returns-then-area-end c = push_full _ _ _ _ _ _ c.requires.0 _ c.requires.2 (omega (arith, c.if-area-end.true, c.count_cells.ensures))

pub save-requires : goal.save-requires
save-requires c = save_ready _ _ _ _ _ _ c.requires.0 (omega (arith, c.count_cells.ensures, length-cells c.args.area.now, c.if-area-end.false))

pub link-requires : goal.link-requires
link-requires c = link_ready _ _ _ _ _ _ c.requires.0 _ _ _ c.save.ensures c.requires.2 (omega (arith, c.count_cells.ensures, length-cells c.args.area.now, c.if-area-end.false))

pub returns : goal.returns
returns c = rw c.count_cells.ensures (push_added _ _ _ _ _ _ c.requires.0 _ _ _ c.save.ensures c.requires.2 _ c.requires.1 (omega (arith, c.if-area-end.false, c.count_cells.ensures)) c.link.ensures (search rules) (search rules) c.type_inv.area)
