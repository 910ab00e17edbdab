-- `from_elem` writes one cell a turn. The invariant: k of them stand, and the rest is as it was. Assumes nothing.
use mathlib.Core.Path.{◌≡◌}
use Prim.Native.Nat.{◌≤◌}
use lib.ListN.{length}
use Rattle.area.specs.Cells.{cells}
use Rattle.intmap.proofs.ChangeLaws.{Elems}
use Rattle.intmap.proofs.from_elem.Given as goal

abbrev pub invariant-loop-k : goal.invariant-loop-k
invariant-loop-k l = (length l.area ≡ length l.initial.area) × (l.k ≤ l.n) × Elems (cells l.initial.area) (cells l.area) l.at l.c l.k
