-- `area::move_down`: before its turn i the first i cells are moved, and since `to` is not above `from` the one to read is as it was.
-- Assumes nothing.
use Prim.Native.Nat.{◌≤◌}
use Rattle.area.specs.Cells.{cells, CellsNow}
use Rattle.area.specs.Moves.{moved}
use Rattle.area.proofs.move_down.Given as goal

abbrev pub invariant-loop-i : goal.invariant-loop-i
invariant-loop-i l = (l.i ≤ l.n) × CellsNow l.initial.area l.area (moved (cells l.initial.area) l.from l.to l.i)
