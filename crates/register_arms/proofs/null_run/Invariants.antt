-- `register_arms::null_run` makes a register null a turn. The invariant: what was done so far is what as many turns of the definition give.
-- Assumes nothing.
use mathlib.Core.Path.{◌≡◌}
use lib.ListN.{length}
use Rattle.area.specs.Cells.{cells}
use Rattle.register_arms.proofs.RunLaws.{Nulling}
use Rattle.register_arms.proofs.null_run.Given as goal

abbrev pub invariant-loop-done : goal.invariant-loop-done
invariant-loop-done l = (length l.area ≡ length l.initial.area) × Nulling l.limit (cells l.initial.area) (cells l.area) l.map l.p l.from l.n l.done
