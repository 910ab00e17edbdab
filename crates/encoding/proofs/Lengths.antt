-- A run has as many cells as the definition counts for its value, and so the runs of a state have the cells of the state. Assumes nothing.
use mathlib.Core.Path.{◌≡◌, refl, ap, ap₂, ◌∙◌}
use mathlib.Core.List.{List, [], ◌∷◌, ◌++◌, flatten}
use Prim.Native.Nat.{ℕ, suc, ◌+◌}
use native.Mathlib.Omega.{arith}
use lib.ListN.{length, length-append}
use Rattle.model.specs.IntMap as model
use Rattle.model.specs.IntMap.{Entry}
use Rattle.model.specs.State.{ColumnType, Single, Record, Columns, end, entry, RegDataType, Column, Int, CursorDataType, Normal, Pseudo, TableDataType, MemoryState}
use Rattle.model.specs.Cells.{column_cells, columns_cells, register_cells, cursor_cells, table_cells, cells}
use Rattle.area.specs.declared.Cell.{Cell}
use Rattle.intmap.specs.Entries.{total, Runs}
use Rattle.encoding.specs.Encode.{count, run_column, column_runs, run_columns, run_register, run_cursor, run_table, run_map, runs_of}
use Rattle.intmap.proofs.SwapLaws.{total_append}

pub length-flatten : (rs : Runs) → length (flatten rs) ≡ total rs
unfolding flatten total
length-flatten [] = refl
length-flatten (r ∷ rs) = length-append r (flatten rs) ∙ ap (λ n. length r + n) (length-flatten rs)

pub count_runs : (x : Columns) → length (column_runs x) ≡ count x
unfolding column_runs
count_runs end = refl
count_runs (entry k c cs) = ap suc (count_runs cs)

mutual
  unfolding run_column flatten column_cells

  pub column_length : (c : ColumnType) (key : ℕ) → length (run_column key c) ≡ column_cells c
  column_length (Single d n) key = refl
  column_length (Record cs) key = omega (arith, columns_length cs)

  pub columns_length : (cs : Columns) → length (run_columns cs) ≡ columns_cells cs
  columns_length end = refl
  columns_length (entry k c cs) = omega (arith, length-append (run_column k c) (run_columns cs), column_length c k, columns_length cs)

pub register_length : (v : RegDataType) (key : ℕ) → length (run_register key v) ≡ register_cells v
unfolding run_register register_cells
register_length (Column c) key = column_length c key
register_length (Int i) key = refl

pub cursor-length : (v : CursorDataType) (key : ℕ) → length (run_cursor key v) ≡ cursor_cells v
unfolding run_cursor
cursor-length (Normal row) key = refl
cursor-length (Pseudo i) key = refl

pub table-length : (v : TableDataType) (key : ℕ) → length (run_table key v) ≡ table_cells v
unfolding run_table table_cells
table-length t key = omega (arith, columns_length t.cols)

map-total : {A : Type 0} (run : ℕ → A → List Cell) (f : A → ℕ) → ((v : A) (key : ℕ) → length (run key v) ≡ f v) → (class : ℕ) (es : List (Entry A)) → total (run_map run class es) ≡ model.total f es
unfolding total run_map model.total
map-total run f each class [] = refl
map-total run f each class (e ∷ es) = ap₂ ◌+◌ (each e.value _) (map-total run f each class es)

pub total_runs : (m : MemoryState) → total (runs_of m) ≡ cells m
unfolding runs_of cells
total_runs m =
    omega (
      arith,
      total_append (run_map run_register 0 m.r) (run_map run_cursor 1 m.p ++ run_map run_table 2 m.t),
      total_append (run_map run_cursor 1 m.p) (run_map run_table 2 m.t),
      map-total run_register register_cells register_length 0 m.r,
      map-total run_cursor cursor_cells cursor-length 1 m.p,
      map-total run_table table_cells table-length 2 m.t,
    )
