-- `table_arms::null_columns` changes one head a turn. The invariant: what is left to be done to these cells gives what the whole gives to those of
-- the entry, and the columns left lie within. Assumes nothing.
use mathlib.Core.Path.{◌≡◌}
use Prim.Native.Nat.{◌-◌}
use lib.ListN.{length}
use Rattle.area.specs.Cells.{cells}
use Rattle.intmap.specs.Runs.{AreColumns}
use Rattle.encoding.specs.Heads.{single_nullable, on_heads}
use Rattle.table_arms.proofs.null_columns.Given as goal

abbrev pub invariant-loop : goal.invariant-loop
invariant-loop l = (length l.area ≡ length l.initial.area)
    × (on_heads (single_nullable 2) 8 (cells l.area) (l.n - l.counter) l.p ≡ on_heads (single_nullable 2) 8 (cells l.initial.area) l.n l.from)
    × AreColumns (cells l.area) 8 (l.n - l.counter) l.p
