-- `merge::merge_entries` merges an entry a turn. The invariant: what is still to come, from the bytes now, is what the whole gives, and what is
-- left lies within the area. Assumes nothing.
use Rattle.std.proofs.Common.{◌≡◌, ◌+◌, ◌-◌, ◌≤◌, length}
use Rattle.area.specs.Cells.{cells}
use Rattle.intmap.specs.Map.{levels}
use Rattle.intmap.specs.Runs.{size, sizes}
use Rattle.intmap.specs.Entries.{entries}
use Rattle.merge.specs.Entries.{merge_runs}
use Rattle.merge.proofs.merge_entries.Given as goal

abbrev pub invariant-loop : goal.invariant-loop
invariant-loop l = (merge_runs l.i l.n (entries (cells l.area) levels (l.left - l.counter) l.p) l.columns ≡ merge_runs l.i l.n (entries (cells l.area) levels l.left l.at) l.initial.columns)
    × (l.p + sizes (size (cells l.area) levels) (l.left - l.counter) l.p ≤ length (cells l.area))
