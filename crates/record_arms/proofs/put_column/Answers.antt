-- `record_arms::put_column` looks for the register, and copies its run or writes the default. Assumes nothing.
use native.Mathlib.Omega.{arith}
use Rattle.area.specs.Cells.{cells}
use Rattle.intmap.proofs.RunLaws.{first-inside, size-pos}
use Rattle.intmap.specs.Map.{levels}
use Rattle.record_arms.proofs.BuildLaws.{absent_full, absent_put, present_within, present_column, present_left, present_full, present_put}
use Rattle.record_arms.proofs.put_column.Goals as goal

pub cell_at-c-requires : goal.cell_at-c-requires
cell_at-c-requires c = first-inside _ 9 _ (present_column _ _ _ _ 0 _ _ c.requires.0 _ c.class_key-its.ensures _ c.in-Ok.ensures)

pub count_from-n-requires : goal.count_from-n-requires
count_from-n-requires c = (present_column _ _ _ _ 0 _ _ c.requires.0 _ c.class_key-its.ensures _ c.in-Ok.ensures, c.cell_at-c.ensures)

pub overflow_add-to : goal.overflow_add-to
overflow_add-to c = let pre = c.requires.0 in
    let within = present_within _ _ _ _ 0 _ _ pre _ c.class_key-its.ensures _ c.in-Ok.ensures in
    omega (arith, within, c.count_from-n.ensures, pre.ordered, pre.fits, pre.small)

pub returns-then-end-to : goal.returns-then-end-to
returns-then-end-to c = present_full _ _ _ _ _ _ _ c.requires.0 _ c.class_key-its.ensures _ c.in-Ok.ensures _ c.count_from-n.ensures c.if-end-to.true

pub move_cells-requires : goal.move_cells-requires
move_cells-requires c = let pre = c.requires.0 in
    let within = present_within _ _ _ _ 0 _ _ pre _ c.class_key-its.ensures _ c.in-Ok.ensures in
    (record { within = omega (arith, within, c.count_from-n.ensures, pre.ordered, pre.fits); small = pre.small }, record { within = omega (arith, pre.fits, c.if-end-to.false); small = pre.small })

pub put_cell-requires : goal.put_cell-requires
put_cell-requires c = let pre = c.requires.0 in
    let more = size-pos (cells c.args.area.now) levels c.in-Ok.place.at in
    record { within = omega (arith, more, c.count_from-n.ensures, pre.fits, c.if-end-to.false, c.move_cells.ensures.same); small = omega (arith, pre.small, c.move_cells.ensures.same) }

pub overflow_add-result-in-Ok : goal.overflow_add-result-in-Ok
overflow_add-result-in-Ok c = let pre = c.requires.0 in
    let within = present_within _ _ _ _ 0 _ _ pre _ c.class_key-its.ensures _ c.in-Ok.ensures in
    omega (arith, within, c.count_from-n.ensures, pre.ordered, pre.fits, pre.small)

pub overflow_sub-result : goal.overflow_sub-result
overflow_sub-result c = omega (arith, present_left _ _ _ _ 0 _ _ c.requires.0 _ c.class_key-its.ensures _ c.in-Ok.ensures)

pub returns-else-end-to : goal.returns-else-end-to
returns-else-end-to c = present_put _ _ _ _ _ _ _ c.requires.0 _ c.class_key-its.ensures _ c.in-Ok.ensures _ c.count_from-n.ensures c.if-end-to.false _ _ _ _ _ c.cell_at-c.ensures c.map_to_columntype-x.ensures c.with_key.ensures c.move_cells.ensures.cells c.put_cell.ensures.cells

pub returns-then-end-to-2 : goal.returns-then-end-to-2
returns-then-end-to-2 c = absent_full _ _ _ _ _ _ _ c.requires.0 _ c.class_key-its.ensures _ c.in-Err.ensures c.if-end-to-2.true

pub returns-else-end-to-2 : goal.returns-else-end-to-2
returns-else-end-to-2 c = absent_put _ _ _ _ _ _ _ c.requires.0 _ c.class_key-its.ensures _ c.in-Err.ensures _ _ _ c.single-c.ensures c.with_key-in-Err.ensures c.put_cell-in-Err.ensures.cells c.if-end-to-2.false
