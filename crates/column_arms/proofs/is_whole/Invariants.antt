-- `column_arms::is_whole` takes each cell's columns from the room that there is. The invariant: the rest fits the room that is left if, and only if,
-- the whole fits; and there is room. Assumes nothing.
use mathlib.Core.Path.{◌≡◌}
use Prim.Native.Nat.{◌+◌, ◌-◌, ◌<◌}
use lib.Dec.{ltb}
use Rattle.area.specs.Cells.{cells}
use Rattle.intmap.specs.Entries.{span}
use Rattle.column_arms.specs.Columns.{counted}
use Rattle.column_arms.proofs.is_whole.Given as goal

abbrev pub invariant-loop-p : goal.invariant-loop-p
invariant-loop-p l = (ltb (counted (span (cells l.area) l.p (l.at + l.n - l.p))) l.room ≡ ltb (counted (span (cells l.area) l.at l.n)) l.n)
    × (0 < l.room)
