-- `record_arms::any_deep` goes over the entries up to the first key that is not below. The invariant: whether one of those left is deep is whether
-- one of all is, and those left lie within the area. Assumes nothing.
use mathlib.Core.Path.{◌≡◌}
use Prim.Native.Nat.{◌+◌, ◌-◌, ◌≤◌}
use lib.ListN.{length}
use Rattle.intmap.specs.Runs.{size, sizes}
use Rattle.intmap.specs.Map.{levels}
use Rattle.state.specs.Stores.{cells_in}
use Rattle.record_arms.specs.Records.{any_deep}
use Rattle.record_arms.proofs.any_deep.Given as goal

abbrev pub invariant-loop-passed : goal.invariant-loop-passed
invariant-loop-passed l = (any_deep (cells_in l.store) l.first l.end (l._passed-end - l._passed) l.at ≡ any_deep (cells_in l.store) l.first l.end l._passed-end l.initial.at)
    × (l.at + sizes (size (cells_in l.store) levels) (l._passed-end - l._passed) l.at ≤ length (cells_in l.store))
