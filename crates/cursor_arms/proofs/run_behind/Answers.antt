-- `cursor_arms::run_behind` copies the run, and changes its head. Assumes nothing.
use Rattle.cursor_arms.proofs.BehindLaws.{behind_inside, run_behind}
use mathlib.Core.Path.{◌∙◌}
use native.Mathlib.Omega.{arith}
use Rattle.cursor_arms.proofs.run_behind.Goals as goal

pub cell_at-requires : goal.cell_at-requires
cell_at-requires c = let pre = c.requires in omega (arith, behind_inside pre.0 pre.1.0 pre.1.1 c.copy_run-n.ensures)

pub put_cell-requires : goal.put_cell-requires
put_cell-requires c = let pre = c.requires in omega (arith, behind_inside pre.0 pre.1.0 pre.1.1 c.copy_run-n.ensures)

pub returns : goal.returns
returns c =
    let pre = c.requires in
    record { same = record { buffer = c.put_cell.ensures.same.buffer; length = c.put_cell.ensures.same.length ∙ c.copy_run-n.auto.area; limit = c.put_cell.ensures.same.limit }; map = c.put_cell.ensures.map; is = run_behind pre.0 pre.1.0 pre.1.1 c.copy_run-n.ensures _ _ _ _ c.cell_at.ensures c.with_nullable-c.ensures c.put_cell.ensures.is }
