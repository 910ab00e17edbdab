-- `column_eq` and `record_eq` call each other. The invariant of the latter's loop: the columns left are the same exactly where all are, and both
-- ends lie within. The measure is twice the depth, and one more for `record_eq`. Assumes nothing.
use mathlib.Core.Path.{◌≡◌}
use Prim.Native.Nat.{◌+◌, ◌-◌}
use Rattle.area.specs.Cells.{cells}
use Rattle.intmap.specs.Runs.{size, sizes, eq_columns}
use Rattle.intmap.proofs.+column_eq_record_eq.Given as goal

abbrev pub decreases-column_eq : goal.decreases-column_eq
decreases-column_eq l = l.depth + l.depth

abbrev pub decreases-record_eq : goal.decreases-record_eq
decreases-record_eq l = l.depth + l.depth + 1

abbrev pub invariant-record_eq-loop : goal.invariant-record_eq-loop
invariant-record_eq-loop l = (eq_columns (cells l.area) l.depth (l.n - l.counter) (l.a + l.k) (l.b + l.k) ≡ eq_columns (cells l.area) l.depth l.n l.a l.b)
    × (l.k + sizes (size (cells l.area) l.depth) (l.n - l.counter) (l.a + l.k) ≡ sizes (size (cells l.area) l.depth) l.n l.a)
    × (l.k + sizes (size (cells l.area) l.depth) (l.n - l.counter) (l.b + l.k) ≡ sizes (size (cells l.area) l.depth) l.n l.b)
