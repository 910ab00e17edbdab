-- `depth_of` goes over a record's columns, and calls `depth_from` for each, which calls it for a record. The invariant: what was found and the columns
-- left make the whole, the cells counted and those left are the column's, and what was found is below the depth. The measure is twice the
-- depth, and one more for `depth_from`. Assumes nothing.
use mathlib.Core.Path.{◌≡◌}
use Prim.Native.Nat.{◌+◌, ◌-◌, ◌≤◌, max}
use Rattle.area.specs.Cells.{cells}
use Rattle.intmap.specs.Runs.{size, sizes}
use Rattle.intmap.specs.Depth.{nestings}
use Rattle.intmap.proofs.+depth_from_depth_of.Given as goal

abbrev pub decreases-depth_of : goal.decreases-depth_of
decreases-depth_of l = l.depth + l.depth

abbrev pub decreases-depth_from : goal.decreases-depth_from
decreases-depth_from l = l.depth + l.depth + 1

abbrev pub invariant-depth_of-loop : goal.invariant-depth_of-loop
invariant-depth_of-loop l = (max l.best (nestings (cells l.area) (l.depth - 1) (l.end - l.counter) (l.at + l.k)) ≡ nestings (cells l.area) (l.depth - 1) l.end (l.at + 1))
    × (l.k + sizes (size (cells l.area) (l.depth - 1)) (l.end - l.counter) (l.at + l.k) ≡ size (cells l.area) l.depth l.at)
    × (l.best ≤ l.depth - 1)
