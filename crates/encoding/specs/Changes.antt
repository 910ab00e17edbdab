-- What a row does with runs beyond a read and a store: a change in place, which is judged on its index only, and registers read as columns.
-- Assumes nothing.
use Rattle.std.specs.Prelude.{List, [], ◌∷◌, ℕ, zero, suc, ℤ, Option, None, Some}
use Rattle.std.proofs.Math.IntN.{suc_ℤ}
use Rattle.model.specs.Walk.{Tried, done}
use Rattle.model.specs.State.{default}
use Rattle.model.specs.Access.{◌>>=◌, index}
use Rattle.area.specs.declared.Cell.{Cell}
use Rattle.intmap.specs.Pack.{class_key}
use Rattle.intmap.specs.Get.{read_runs}
use Rattle.intmap.specs.Entries.{Runs}
use Rattle.intmap.specs.Swap.{swap, lookup}
use Rattle.intmap.specs.Change.{on_head, rekey}
use Rattle.encoding.specs.Encode.{run_column}
use Rattle.encoding.specs.Heads.{as_column}

-- the run of a key, changed if there is one
abbrev pub change_if : Option (List Cell) → ℕ → (List Cell → List Cell) → Runs → Runs
change_if None key f es = es
change_if (Some run) key f es = swap key (f run ∷ []) es

unfoldable pub change_at : ℕ → (List Cell → List Cell) → Runs → Runs
change_at key f es = change_if (lookup key es) key f es

unfoldable pub change_runs : ℕ → ℤ → (List Cell → List Cell) → Runs → Tried Runs
change_runs class i f es = index i >>= λ k. done (change_at (class_key class k) f es)

-- a register's run, or none, as a column's under the key 0
abbrev pub column_run : Option (List Cell) → List Cell
column_run None = run_column 0 default
column_run (Some run) = rekey 0 (on_head as_column run)

-- n registers from i on, as columns
unfoldable pub read_column_runs : ℕ → ℤ → Runs → Tried Runs
read_column_runs zero i es = done []
read_column_runs (suc n) i es = read_runs 0 i es >>= λ r. read_column_runs n (suc_ℤ i) es >>= λ rs. done (column_run r ∷ rs)
