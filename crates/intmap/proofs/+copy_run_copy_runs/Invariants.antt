-- `copy_run` and `copy_runs` call each other. The invariant of the latter's loop: k cells are copied, and the columns left have the rest. The
-- measure is twice the depth, and one more for `copy_runs`. Assumes nothing.
use mathlib.Core.Path.{◌≡◌}
use Prim.Native.Nat.{◌+◌, ◌-◌}
use lib.ListN.{length}
use Rattle.area.specs.Cells.{cells}
use Rattle.intmap.proofs.SameCells.{Copying}
use Rattle.intmap.proofs.+copy_run_copy_runs.Given as goal

abbrev pub decreases-copy_run : goal.decreases-copy_run
decreases-copy_run l = l.depth + l.depth

abbrev pub decreases-copy_runs : goal.decreases-copy_runs
decreases-copy_runs l = l.depth + l.depth + 1

abbrev pub invariant-copy_runs-loop : goal.invariant-copy_runs-loop
invariant-copy_runs-loop l = (length l.area ≡ length l.initial.area) × Copying (cells l.initial.area) (cells l.area) l.depth l.from l.to l.n (l.n - l.counter) l.k
