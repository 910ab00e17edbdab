-- `count` goes over a record's columns, and calls itself for those that are records. The invariant: the cells counted and those of the columns left are
-- the whole column's. The cycle's measure is the depth. Assumes nothing.
use mathlib.Core.Path.{◌≡◌}
use Prim.Native.Nat.{◌+◌, ◌-◌}
use Rattle.area.specs.Cells.{cells}
use Rattle.intmap.specs.Runs.{size, sizes}
use Rattle.intmap.proofs.+count.Given as goal

abbrev pub decreases-count : goal.decreases-count
decreases-count l = l.depth

abbrev pub invariant-loop : goal.invariant-loop
invariant-loop l = l.k + sizes (size (cells l.area) (l.depth - 1)) (l.end - l.counter) (l.at + l.k) ≡ size (cells l.area) l.depth l.at
