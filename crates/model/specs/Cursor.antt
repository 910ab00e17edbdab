-- What a cursor stands for: the methods of `CursorDataType` in explain.rs (`columns_ref`, `columns_mut`, `table_mut`, `is_empty`).
-- A pseudo cursor's register is judged where it is used. Assumes nothing.
use Rattle.std.specs.Prelude.{Bool, true, false, Option, None, Some}
use Rattle.model.specs.Walk.{Tried, done}
use Rattle.model.specs.IntMap.{get}
use Rattle.model.specs.State.{Single, Record, Columns, RegDataType, Column, Int, CursorDataType, Normal, Pseudo, TableDataType, MemoryState, set_all_nullable}
use Rattle.model.specs.Access.{◌>>=◌, read_register, update_register, update_table}

-- the record that a register holds
abbrev pub record_of : Option RegDataType → Option Columns
record_of None = None
record_of (Some (Column (Single d n))) = None
record_of (Some (Column (Record cs))) = Some cs
record_of (Some (Int i)) = None

abbrev pub table_columns : Option TableDataType → Option Columns
table_columns None = None
table_columns (Some t) = Some t.cols

-- `columns_ref`, of a cursor that may be absent
unfoldable pub cursor_columns : Option CursorDataType → MemoryState → Tried (Option Columns)
cursor_columns None m = done None
cursor_columns (Some (Normal row)) m = done (table_columns (get row m.t))
cursor_columns (Some (Pseudo i)) m = read_register i m >>= λ v. done (record_of v)

abbrev pub table_is_empty : Option TableDataType → Option Bool
table_is_empty None = Some true
table_is_empty (Some t) = t.is_empty

-- `is_empty`; "pseudo cursors have exactly one row"
unfoldable pub cursor_is_empty : CursorDataType → MemoryState → Option Bool
cursor_is_empty (Normal row) m = table_is_empty (get row m.t)
cursor_is_empty (Pseudo i) m = Some false

-- a store through `table_mut`
unfoldable pub update_cursor_table : (TableDataType → TableDataType) → Option CursorDataType → MemoryState → MemoryState
update_cursor_table f None m = m
update_cursor_table f (Some (Normal row)) m = update_table row f m
update_cursor_table f (Some (Pseudo i)) m = m

abbrev pub set_empty : Option Bool → TableDataType → TableDataType
set_empty e t = record { cols = t.cols; is_empty = e }

-- NullRow's loop through `columns_mut`, on a table and on a register that holds a record
abbrev pub null_table : TableDataType → TableDataType
null_table t = record { cols = set_all_nullable (Some true) t.cols; is_empty = t.is_empty }

abbrev pub null_record : RegDataType → RegDataType
null_record (Column (Single d n)) = Column (Single d n)
null_record (Column (Record cs)) = Column (Record (set_all_nullable (Some true) cs))
null_record (Int i) = Int i

unfoldable pub null_columns : Option CursorDataType → MemoryState → Tried MemoryState
null_columns None m = done m
null_columns (Some (Normal row)) m = done (update_table row null_table m)
null_columns (Some (Pseudo i)) m = update_register i null_record m
