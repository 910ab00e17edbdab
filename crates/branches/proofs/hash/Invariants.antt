-- `branches::hash` takes in a cell a turn. The invariant: the rest of the cells, taken into the hash so far, gives what the whole gives. Assumes
-- nothing.
use Rattle.std.proofs.Common.{◌≡◌, ◌-◌}
use Rattle.area.specs.Cells.{cells}
use Rattle.intmap.specs.Entries.{span}
use Rattle.branches.specs.Hash.{mix_cells}
use Rattle.branches.proofs.hash.Given as goal

abbrev pub invariant-loop-at : goal.invariant-loop-at
invariant-loop-at l = mix_cells l.h (span (cells l.area) l.at (l.at-end - l.at)) ≡ mix_cells l.initial.h (span (cells l.area) l.initial.at (l.at-end - l.initial.at))
