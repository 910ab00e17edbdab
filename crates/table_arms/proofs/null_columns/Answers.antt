-- What is left of `null_columns`, by the invariant of Invariants.antt. Assumes nothing.
use mathlib.Core.Path.{◌≡◌, ◌∙◌}
use Prim.Native.Nat.{◌+◌, ◌-◌}
use native.Mathlib.Omega.{arith}
use Rattle.intmap.proofs.RunLaws.{first-inside}
use Rattle.table_arms.proofs.NullLaws.{first_column, null-turn, null_rest, null-done}
use Rattle.table_arms.proofs.null_columns.Goals as goal

pub cell_at-c-requires : goal.cell_at-c-requires
cell_at-c-requires c = first-inside _ 8 _ (first_column _ _ _ (omega arith) c.loop.invariant.2)

pub count_from-size-requires : goal.count_from-size-requires
count_from-size-requires c = (first_column _ _ _ (omega arith) c.loop.invariant.2, c.cell_at-c.ensures)

pub put_cell-requires : goal.put_cell-requires
put_cell-requires c = first-inside _ 8 _ (first_column _ _ _ (omega arith) c.loop.invariant.2)

pub overflow_add-p : goal.overflow_add-p
overflow_add-p c = let column = first_column _ _ _ (omega arith) c.loop.invariant.2 in omega (arith, column.fits, column.small, c.count_from-size.ensures)

pub loop-preserved : goal.loop-preserved
loop-preserved c =
    let less : c.args.n - (c.loop.counter + 1) ≡ c.args.n - c.loop.counter - 1 = omega arith in
    rw less (
      c.put_cell.auto.area ∙ c.loop.invariant.0,
      null-turn _ _ _ _ _ _ _ (omega arith) c.cell_at-c.ensures c.count_from-size.ensures c.as_nullable.ensures c.put_cell.ensures.cells _ c.loop.invariant.1,
      null_rest _ _ _ _ _ _ _ (omega arith) c.cell_at-c.ensures c.count_from-size.ensures c.as_nullable.ensures c.put_cell.ensures.cells c.loop.invariant.2,
    )

pub returns : goal.returns
returns c = null-done _ _ _ _ _ _ (omega arith) c.loop.invariant.1
