-- The arms that use a cursor leave a good state. Assumes nothing.
use mathlib.Core.Bool.{Bool, true, false, ◌||◌}
use Rattle.std.specs.Prelude.{Option, None, Some}
use Prim.Native.Nat.{ℕ, ◌≤◌}
use native.Mathlib.Omega.{arith}
use lib.IntN.{ℤ, pos}
use lib.ListN.{replicate}
use Rattle.model.specs.Row.{Row}
use Rattle.model.specs.IntMap.{get}
use Rattle.model.specs.State.{ColumnType, Single, Record, Columns, end, entries, RegDataType, Column, Int, CursorDataType, Normal, Pseudo, TableDataType, MemoryState, from_elem, null, default, is_null_type}
use Rattle.model.specs.Equality.{eq_int, is_zero_int}
use Rattle.model.specs.Cells.{table_cells}
use Rattle.model.specs.Access.{count_of}
use Rattle.model.specs.Cursor.{record_of, table_columns, cursor_columns, set_empty, null_table, null_record, null_columns}
use Rattle.model.specs.TextTable.{or_else}
use Rattle.model.specs.Meaning.{Meaning}
use Rattle.model.specs.Operation.{CursorOperation, op_column, op_row_data, op_insert, op_delete, op_open_pseudo, op_open_dup, op_open_read, op_open_ephemeral, op_null_row}
use Rattle.model.specs.CursorArms.{column_of, after_delete, empty_after_delete, columns_if, opened_columns, store_into, insert_record, insert_null_if, insert_arm, store_some_cursor, open_table, cursor_arm}
use Rattle.model.specs.Good.{SortedColumn, SortedColumns, GoodRegister, GoodTable, GoodCursor, Good, GoodMeaning, OnSome}
use Rattle.model.proofs.Tried.{Kept, value, ◌>>◌, anything}
use Rattle.model.proofs.IntMap.{rising_get}
use Rattle.model.proofs.Sorted.{SortedAt, sorted_entries, sorted_dense, dense_cells, each-replicate}
use Rattle.model.proofs.InPlace.{set_empty_no_larger, null_table_no_larger, null_record_no_larger}
use Rattle.model.proofs.Access.{index_small, read_register_good, read_cursor_good, table_good, store_register_good, store_cursor_good, store_table_good, update_register_good, update_table_good, update_cursor_table_good}

abbrev SortedSome : Option Columns → Type 0
SortedSome cs = OnSome (λ c. SortedColumns c 0) cs

record_sorted : (v : Option RegDataType) → OnSome GoodRegister v → SortedSome (record_of v)
unfolding SortedColumn
record_sorted None p = tt
record_sorted (Some (Column (Single d n))) p = tt
record_sorted (Some (Column (Record cs))) p = p.sorted
record_sorted (Some (Int i)) p = tt

-- a column of sorted columns
column_of_sorted : (i : ℤ) (cs : Option Columns) → SortedSome cs → Kept SortedColumn (column_of i cs)
unfolding column_of SortedColumn
column_of_sorted i None s = value tt
column_of_sorted i (Some cs) s = index_small i >> λ k h. value (of k (get k (entries cs)) (rising_get SortedAt k 0 (entries cs) (sorted_entries cs 0 s)))
  where
    of : (k : ℕ) (o : Option ColumnType) → OnSome (SortedAt k) o → SortedColumn (or_else default o)
    of k None h = tt
    of k (Some c) h = h.1

or_empty_sorted : (cs : Option Columns) → SortedSome cs → SortedColumns (or_else end cs) 0
unfolding SortedColumns
or_empty_sorted None s = tt
or_empty_sorted (Some cs) s = s

-- as many columns as fit
elem_sorted : (limit : ℕ) → limit ≤ 65536 → (n : ℕ) → table_cells (record { cols = from_elem null n; is_empty = Some true }) ≤ limit → SortedColumns (from_elem null n) 0
unfolding table_cells SortedColumn
elem_sorted limit h n fits =
    sorted_dense (replicate n null) (omega (arith, fits, dense_cells (replicate n null) 0)) (each-replicate SortedColumn null tt n)

columns_if_sorted : (b : Bool) (cs : Columns) → SortedColumns cs 0 → SortedColumns (columns_if b cs) 0
unfolding SortedColumns
columns_if_sorted true cs s = s
columns_if_sorted false cs s = tt

module _ {limit : ℕ} {m : MemoryState} (g : Good limit m) where
  cursor_columns_sorted : (c : Option CursorDataType) → Kept SortedSome (cursor_columns c m)
  unfolding cursor_columns
  cursor_columns_sorted None = value tt
  cursor_columns_sorted (Some (Normal row)) = value (of (get row m.t) (table_good g row))
    where
      of : (t : Option TableDataType) → OnSome (λ t. (row ≤ 65535) × GoodTable t) t → SortedSome (table_columns t)
      of None p = tt
      of (Some t) p = p.1.sorted
  cursor_columns_sorted (Some (Pseudo i)) = read_register_good g i >> λ v p. value (record_sorted v p)

  null_columns_good : (c : Option CursorDataType) → Kept (Good limit) (null_columns c m)
  unfolding null_columns
  null_columns_good None = value g
  null_columns_good (Some (Normal row)) = value (update_table_good g row null_table null_table_no_larger)
  null_columns_good (Some (Pseudo i)) = update_register_good g i null_record null_record_no_larger

  insert_record_good : (cs : Columns) → SortedColumns cs 0 → (c : Option CursorDataType) → Kept (Good limit) (insert_record limit cs c m)
  unfolding insert_record
  insert_record_good cs s None = value g
  insert_record_good cs s (Some (Normal row)) = by (get row m.t) (table_good g row)
    where
      by : (t : Option TableDataType) → OnSome (λ t. (row ≤ 65535) × GoodTable t) t → Kept (Good limit) (store_into limit row cs t m)
      by None p = value g
      by (Some t) p = store_table_good g row p.0 _ (λ h. s)
  insert_record_good cs s (Some (Pseudo i)) = value g

  insert_good : (x : Row) (v : Option RegDataType) → OnSome GoodRegister v → Kept (Good limit) (insert_arm limit x m v)
  unfolding insert_arm SortedColumn
  insert_good x None p = value g
  insert_good x (Some (Column (Single d n))) p = by (is_null_type d)
    where
      by : (b : Bool) → Kept (Good limit) (insert_null_if b x m)
      by true = read_cursor_good g x.p1 >> λ c _. value (update_cursor_table_good g (set_empty (Some false)) (set_empty_no_larger (λ t. Some false)) c)
      by false = value g
  insert_good x (Some (Column (Record cs))) p = read_cursor_good g x.p1 >> λ c _. insert_record_good cs p.sorted c
  insert_good x (Some (Int i)) p = value g

  store_some_cursor_good : (i : ℤ) (c : Option CursorDataType) → OnSome GoodCursor c → Kept (Good limit) (store_some_cursor limit i c m)
  store_some_cursor_good i None p = value g
  store_some_cursor_good i (Some c) p = store_cursor_good g i c p

  open_table_good : (row : ℕ) → row ≤ 65535 → (x : Row) (t : TableDataType) → (table_cells t ≤ limit → SortedColumns t.cols 0) → Kept (Good limit) (open_table limit row x t m)
  unfolding open_table
  open_table_good row h x t s = store_table_good g row h t s >> λ s p. store_cursor_good p x.p1 (Normal row) h

module _ (meaning : Meaning) (q : GoodMeaning meaning) (row : ℕ) (small : row ≤ 65535) (x : Row) (m : MemoryState) (g : Good meaning.cell_limit m) where
  opened_sorted : SortedColumns (opened_columns meaning x) 0
  unfolding opened_columns
  opened_sorted = columns_if_sorted (is_zero_int x.p3 || eq_int x.p3 (pos 1)) _ (q.columns x.p3 x.p2)

  pub cursor_good : (o : CursorOperation) → Kept (Good meaning.cell_limit) (cursor_arm meaning row x m o)
  unfolding cursor_arm SortedColumn
  cursor_good op_column =
      read_cursor_good g x.p1 >> λ c _. cursor_columns_sorted g c >> λ cs s. column_of_sorted x.p2 cs s >> λ v h.
      store_register_good g x.p3 (Column v) (λ _. h)
  cursor_good op_row_data =
      read_cursor_good g x.p1 >> λ c _. cursor_columns_sorted g c >> λ cs s. store_register_good g x.p2 _ (λ _. or_empty_sorted cs s)
  cursor_good op_insert = read_register_good g x.p2 >> λ v p. insert_good g x v p
  cursor_good op_delete =
      read_cursor_good g x.p1 >> λ c _. value (update_cursor_table_good g after_delete (set_empty_no_larger (λ t. empty_after_delete t.is_empty)) c)
  cursor_good op_open_pseudo = store_cursor_good g x.p1 (Pseudo x.p2) tt
  cursor_good op_open_dup = read_cursor_good g x.p2 >> λ c p. store_some_cursor_good g x.p1 c p
  cursor_good op_open_read = open_table_good g row small x _ (λ h. opened_sorted)
  cursor_good op_open_ephemeral =
      anything (count_of x.p2) >> λ n _. open_table_good g row small x _ (elem_sorted meaning.cell_limit q.limit n)
  cursor_good op_null_row = read_cursor_good g x.p1 >> λ c _. null_columns_good g c
