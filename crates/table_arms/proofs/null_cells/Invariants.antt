-- `table_arms::null_cells` changes one head a turn. The invariant: what is left to be done to these cells gives what the whole gives to those of the
-- entry, and each column left has one cell. Assumes nothing.
use mathlib.Core.Path.{◌≡◌}
use Prim.Native.Nat.{◌+◌, ◌-◌}
use lib.ListN.{length}
use Rattle.area.specs.Cells.{cells}
use Rattle.intmap.specs.Runs.{size, sizes}
use Rattle.encoding.specs.Heads.{single_nullable, on_heads}
use Rattle.table_arms.proofs.null_cells.Given as goal

abbrev pub invariant-loop-p : goal.invariant-loop-p
invariant-loop-p l = (length l.area ≡ length l.initial.area)
    × (length (cells l.area) ≡ length (cells l.initial.area))
    × (on_heads (single_nullable 2) 8 (cells l.area) (l.from + l.n - l.p) l.p ≡ on_heads (single_nullable 2) 8 (cells l.initial.area) l.n l.from)
    × (sizes (size (cells l.area) 8) (l.from + l.n - l.p) l.p ≡ l.from + l.n - l.p)
