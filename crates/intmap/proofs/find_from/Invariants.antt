-- `find_from` goes over the columns until one has a key that is not below. The invariant: the rest of the search gives what the whole gives,
-- and what is left lies within the area. Assumes nothing.
use mathlib.Core.Path.{◌≡◌}
use Prim.Native.Nat.{◌+◌, ◌-◌, ◌≤◌}
use lib.ListN.{length}
use Rattle.area.specs.Cells.{cells}
use Rattle.intmap.specs.Runs.{size, sizes}
use Rattle.intmap.specs.Find.{seek_place}
use Rattle.intmap.proofs.find_from.Given as goal

abbrev pub invariant-loop-passed : goal.invariant-loop-passed
invariant-loop-passed l = (seek_place (cells l.area) l.depth l.key (l.n - l.passed) l.p ≡ seek_place (cells l.area) l.depth l.key l.n l.at)
    × (l.p + sizes (size (cells l.area) l.depth) (l.n - l.passed) l.p ≤ length (cells l.area))
