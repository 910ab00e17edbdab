-- `IntMap::remove` moves what comes after the entry down over it. Assumes nothing.
use mathlib.Core.Path.{sym, ◌∙◌}
use native.Mathlib.Omega.{arith}
use Rattle.intmap.proofs.RunLaws.{first-inside}
use Rattle.intmap.proofs.StoreLaws.{found_in, found_all, found_column, found_pos, removed_none, removed_old}
use Rattle.intmap.proofs.IntMap.remove.Goals as goal

pub returns-in_default : goal.returns-in_default
returns-in_default c = removed_none _ _ _ c.requires (sym c.in_default.is ∙ c.find.ensures)

pub cell_at-c-requires : goal.cell_at-c-requires
cell_at-c-requires c = first-inside _ _ _ (found_column _ _ _ c.requires c.in-Ok.ensures)

pub count_from-old-requires : goal.count_from-old-requires
count_from-old-requires c = (found_column _ _ _ c.requires c.in-Ok.ensures, c.cell_at-c.ensures)

pub overflow_add-at : goal.overflow_add-at
overflow_add-at c = omega (arith, found_all _ _ _ c.requires c.in-Ok.ensures, c.count_from-old.ensures, c.requires.inside, c.requires.small)

pub overflow_sub-self : goal.overflow_sub-self
overflow_sub-self c = omega (arith, found_all _ _ _ c.requires c.in-Ok.ensures)

pub overflow_sub-self-2 : goal.overflow_sub-self-2
overflow_sub-self-2 c = omega (arith, found_all _ _ _ c.requires c.in-Ok.ensures, c.count_from-old.ensures)

pub move_cells-requires : goal.move_cells-requires
move_cells-requires c = let is = c.requires in
    let f = found_in _ _ _ is _ c.in-Ok.ensures in
    let a = found_all _ _ _ is c.in-Ok.ensures in
    let n = c.count_from-old.ensures in
    (omega (arith, f.0, a, n, is.inside), omega (arith, f.0, a, n, is.inside))

pub overflow_sub-result : goal.overflow_sub-result
overflow_sub-result c = omega (arith, found_pos _ _ _ c.requires c.in-Ok.ensures)

pub overflow_sub-result-2 : goal.overflow_sub-result-2
overflow_sub-result-2 c = omega (arith, (found_in _ _ _ c.requires _ c.in-Ok.ensures).0, found_all _ _ _ c.requires c.in-Ok.ensures, c.count_from-old.ensures)

pub returns : goal.returns
returns c = removed_old _ _ _ c.requires c.in-Ok.ensures _ _ c.count_from-old.ensures c.move_cells.ensures.cells
