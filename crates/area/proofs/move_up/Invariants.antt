-- `area::move_up`: with i left, the cells after the first i are moved, and since `from` is not above `to` the one to read is as it was.
-- Assumes nothing.
use Prim.Native.Nat.{◌+◌, ◌-◌, ◌≤◌}
use Rattle.area.specs.Cells.{cells, CellsNow}
use Rattle.area.specs.Moves.{moved}
use Rattle.area.proofs.move_up.Given as goal

abbrev pub invariant-loop-i : goal.invariant-loop-i
invariant-loop-i l = (l.i ≤ l.n) × CellsNow l.initial.area l.area (moved (cells l.initial.area) (l.from + l.i) (l.to + l.i) (l.n - l.i))
