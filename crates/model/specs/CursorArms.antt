-- The arms of `explain` that use a cursor and go on to the next row: what they leave of the state. `row` is the number of the row.
-- "NullRow on a pseudo cursor changes the register's record; nested records keep theirs." (01, "The rows") Assumes nothing.
use Rattle.std.specs.Prelude.{Bool, true, false, ◌||◌, ℕ, ℤ, pos, Option, None, Some}
use Rattle.model.specs.Walk.{Tried, done}
use Rattle.model.specs.Row.{Row}
use Rattle.model.specs.IntMap.{get}
use Rattle.model.specs.State.{ColumnType, Single, Record, Columns, end, entries, RegDataType, Column, Int, CursorDataType, Normal, Pseudo, TableDataType, MemoryState, from_elem, default, null, is_null_type}
use Rattle.model.specs.Equality.{eq_int, is_zero_int}
use Rattle.model.specs.Access.{◌>>=◌, index, count_of, read_register, read_cursor, store_register, store_cursor, store_table}
use Rattle.model.specs.Cursor.{cursor_columns, update_cursor_table, set_empty, null_columns}
use Rattle.model.specs.TextTable.{or_else}
use Rattle.model.specs.Meaning.{Meaning}
use Rattle.model.specs.Operation.{CursorOperation, op_column, op_row_data, op_insert, op_delete, op_open_pseudo, op_open_dup, op_open_read, op_open_ephemeral, op_null_row}

-- column i of what a cursor stands for; the index is judged where there are columns
unfoldable pub column_of : ℤ → Option Columns → Tried ColumnType
column_of i None = done default
column_of i (Some cs) = index i >>= λ k. done (or_else default (get k (entries cs)))

-- Delete: "the cursor might be empty now"
abbrev pub empty_after_delete : Option Bool → Option Bool
empty_after_delete None = None
empty_after_delete (Some true) = Some true
empty_after_delete (Some false) = None

abbrev pub after_delete : TableDataType → TableDataType
after_delete t = set_empty (empty_after_delete t.is_empty) t

abbrev pub columns_if : Bool → Columns → Columns
columns_if true cs = cs
columns_if false cs = end

-- OpenRead and OpenWrite: P3 is the database, 0 or 1, and P2 the page
unfoldable pub opened_columns : Meaning → Row → Columns
opened_columns meaning x = columns_if (is_zero_int x.p3 || eq_int x.p3 (pos 1)) (meaning.columns_for x.p3 x.p2)

-- Insert of a plain Null
abbrev pub insert_null_if : Bool → Row → MemoryState → Tried MemoryState
insert_null_if true x m = read_cursor x.p1 m >>= λ c. done (update_cursor_table (set_empty (Some false)) c m)
insert_null_if false x m = done m

module _ (limit : ℕ) where
  -- a record replaces what the cursor's table holds, if there is a table
  abbrev pub store_into : ℕ → Columns → Option TableDataType → MemoryState → Tried MemoryState
  store_into row cs None m = done m
  store_into row cs (Some t) m = store_table limit row (record { cols = cs; is_empty = Some false }) m

  unfoldable pub insert_record : Columns → Option CursorDataType → MemoryState → Tried MemoryState
  insert_record cs None m = done m
  insert_record cs (Some (Normal row)) m = store_into row cs (get row m.t) m
  insert_record cs (Some (Pseudo i)) m = done m

  -- P1 is looked at only where P2 holds a record or a plain Null
  unfoldable pub insert_arm : Row → MemoryState → Option RegDataType → Tried MemoryState
  insert_arm x m None = done m
  insert_arm x m (Some (Column (Single d n))) = insert_null_if (is_null_type d) x m
  insert_arm x m (Some (Column (Record cs))) = read_cursor x.p1 m >>= λ c. insert_record cs c m
  insert_arm x m (Some (Int i)) = done m

  abbrev pub store_some_cursor : ℤ → Option CursorDataType → MemoryState → Tried MemoryState
  store_some_cursor i None m = done m
  store_some_cursor i (Some c) m = store_cursor limit i c m

  -- the table first, then the cursor
  unfoldable pub open_table : ℕ → Row → TableDataType → MemoryState → Tried MemoryState
  open_table row x t m = store_table limit row t m >>= λ s. store_cursor limit x.p1 (Normal row) s

module _ (meaning : Meaning) (row : ℕ) (x : Row) (m : MemoryState) where
  unfoldable pub cursor_arm : CursorOperation → Tried MemoryState
  cursor_arm op_column =
      read_cursor x.p1 m >>= λ c. cursor_columns c m >>= λ cs. column_of x.p2 cs >>= λ v. store_register meaning.cell_limit x.p3 (Column v) m
  cursor_arm op_row_data =
      read_cursor x.p1 m >>= λ c. cursor_columns c m >>= λ cs. store_register meaning.cell_limit x.p2 (Column (Record (or_else end cs))) m
  cursor_arm op_insert = read_register x.p2 m >>= λ v. insert_arm meaning.cell_limit x m v
  cursor_arm op_delete = read_cursor x.p1 m >>= λ c. done (update_cursor_table after_delete c m)
  cursor_arm op_open_pseudo = store_cursor meaning.cell_limit x.p1 (Pseudo x.p2) m
  cursor_arm op_open_dup = read_cursor x.p2 m >>= λ c. store_some_cursor meaning.cell_limit x.p1 c m
  cursor_arm op_open_read = open_table meaning.cell_limit row x (record { cols = opened_columns meaning x; is_empty = None }) m
  cursor_arm op_open_ephemeral =
      count_of x.p2 >>= λ n. open_table meaning.cell_limit row x (record { cols = from_elem null n; is_empty = Some true }) m
  cursor_arm op_null_row = read_cursor x.p1 m >>= λ c. null_columns c m
