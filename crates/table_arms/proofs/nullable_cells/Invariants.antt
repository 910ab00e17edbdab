-- `table_arms::nullable_cells` tests two cells a turn. Assumes nothing.
use Prim.Native.Nat.{◌*◌}
use Rattle.area.specs.Cells.{cells}
use Rattle.table_arms.specs.Nulled.{AreNullable}
use Rattle.table_arms.proofs.nullable_cells.Given as goal

abbrev pub invariant-loop-k : goal.invariant-loop-k
invariant-loop-k l = AreNullable (cells l.area) l.from (2 * l.k)
