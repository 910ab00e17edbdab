-- Columns stay sorted: as the entries of a map and back, made of a list of columns, and with their `nullable` set, which changes neither
-- cells nor depth. Assumes nothing.
use mathlib.Core.Path.{◌≡◌, refl, ap₂}
use mathlib.Core.Bool.{Bool}
use Rattle.std.specs.Prelude.{Option}
use mathlib.Core.List.{List, [], ◌∷◌}
use Prim.Native.Nat.{ℕ, zero, suc, ◌+◌, ◌≤◌, ◌<◌, max}
use native.Mathlib.Omega.{arith}
use lib.ListN.{length, replicate}
use Rattle.model.specs.IntMap.{Entry, numbered, Rising}
use Rattle.model.specs.State.{ColumnType, Single, Record, Columns, end, entry, entries, as_columns, from_dense_record, set_nullable, set_all_nullable}
use Rattle.model.specs.Cells.{column_cells, columns_cells, column_depth, columns_depth}
use Rattle.model.specs.Good.{SortedColumn, SortedColumns, Each}
use Rattle.model.proofs.IntMap.{rising_numbered}

-- what is asked of a column under its key
abbrev pub SortedAt : ℕ → ColumnType → Type 0
SortedAt k c = (k ≤ 65535) × SortedColumn c

pub sorted_entries : (cs : Columns) (low : ℕ) → SortedColumns cs low → Rising SortedAt low (entries cs)
unfolding SortedColumns entries
sorted_entries end low s = tt
sorted_entries (entry k c cs) low s = (s.0, (s.1, s.2), sorted_entries cs (suc k) s.3)

pub sorted_as_columns : (es : List (Entry ColumnType)) (low : ℕ) → Rising SortedAt low es → SortedColumns (as_columns es) low
unfolding SortedColumns as_columns
sorted_as_columns [] low s = tt
sorted_as_columns (e ∷ es) low s = (s.0, s.1.0, s.1.1, sorted_as_columns es (suc e.key) s.2)

pub sorted_dense : (cs : List ColumnType) → length cs ≤ 65536 → Each SortedColumn cs → SortedColumns (from_dense_record cs) 0
sorted_dense cs h s = sorted_as_columns (numbered 0 cs) 0 (rising_numbered SortedAt 65536 0 cs (each cs s) (omega arith))
  where
    each : (cs : List ColumnType) → Each SortedColumn cs → Each (λ c. (j : ℕ) → j < 65536 → SortedAt j c) cs
    each [] s = tt
    each (c ∷ cs) s = ((λ j l. (omega arith, s.0)), each cs s.1)

-- a column is a cell at least
pub column_one : (c : ColumnType) → 1 ≤ column_cells c
unfolding column_cells
column_one (Single d n) = omega arith
column_one (Record cs) = omega arith

pub dense_cells : (cs : List ColumnType) (k : ℕ) → length cs ≤ columns_cells (as_columns (numbered k cs))
unfolding column_cells as_columns numbered
dense_cells [] k = omega arith
dense_cells (c ∷ cs) k = omega (arith, column_one c, dense_cells cs (suc k))

pub each-replicate : {A : Type 0} (P : A → Type 0) (v : A) → P v → (n : ℕ) → Each P (replicate n v)
each-replicate P v p zero = tt
each-replicate P v p (suc n) = (p, each-replicate P v p n)

-- `nullable` is set in a column, and in a row of columns
module _ (n : Option Bool) where
  nullable_cells : (c : ColumnType) → column_cells (set_nullable n c) ≡ column_cells c
  unfolding column_cells
  nullable_cells (Single d old) = refl
  nullable_cells (Record cs) = refl

  nullable_depth : (c : ColumnType) → column_depth (set_nullable n c) ≡ column_depth c
  unfolding column_depth
  nullable_depth (Single d old) = refl
  nullable_depth (Record cs) = refl

  nullable_sorted : (c : ColumnType) → SortedColumn c → SortedColumn (set_nullable n c)
  unfolding SortedColumn
  nullable_sorted (Single d old) s = s
  nullable_sorted (Record cs) s = s

  pub all_nullable_cells : (cs : Columns) → columns_cells (set_all_nullable n cs) ≡ columns_cells cs
  unfolding column_cells set_all_nullable
  all_nullable_cells end = refl
  all_nullable_cells (entry k c cs) = ap₂ ◌+◌ (nullable_cells c) (all_nullable_cells cs)

  pub all_nullable_depth : (cs : Columns) → columns_depth (set_all_nullable n cs) ≡ columns_depth cs
  unfolding column_depth set_all_nullable
  all_nullable_depth end = refl
  all_nullable_depth (entry k c cs) = ap₂ max (nullable_depth c) (all_nullable_depth cs)

  pub all_nullable_sorted : (cs : Columns) (low : ℕ) → SortedColumns cs low → SortedColumns (set_all_nullable n cs) low
  unfolding SortedColumn set_all_nullable
  all_nullable_sorted end low s = tt
  all_nullable_sorted (entry k c cs) low s = (s.0, s.1, nullable_sorted c s.2, all_nullable_sorted cs (suc k) s.3)
