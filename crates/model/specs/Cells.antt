-- How large a state is, and how deep its records nest. 01, "The walk": "A cell is one present register, cursor, table or column; a record's
-- columns count too." A plain column has depth 0, an empty record depth 1; a table is no nesting level. Assumes nothing.
use Rattle.std.specs.Prelude.{ℕ, suc, ◌+◌, max}
use Rattle.model.specs.IntMap.{total}
use Rattle.model.specs.State.{ColumnType, Single, Record, Columns, end, entry, RegDataType, Column, Int, CursorDataType, TableDataType, MemoryState}

unfoldable mutual
  pub column_cells : ColumnType → ℕ
  column_cells (Single d n) = 1
  column_cells (Record cs) = 1 + columns_cells cs

  pub columns_cells : Columns → ℕ
  columns_cells end = 0
  columns_cells (entry k c cs) = column_cells c + columns_cells cs

unfoldable pub register_cells : RegDataType → ℕ
register_cells (Column c) = column_cells c
register_cells (Int i) = 1

abbrev pub cursor_cells : CursorDataType → ℕ
cursor_cells c = 1

unfoldable pub table_cells : TableDataType → ℕ
table_cells t = 1 + columns_cells t.cols

unfoldable pub cells : MemoryState → ℕ
cells m = total register_cells m.r + total cursor_cells m.p + total table_cells m.t

unfoldable mutual
  pub column_depth : ColumnType → ℕ
  column_depth (Single d n) = 0
  column_depth (Record cs) = suc (columns_depth cs)

  pub columns_depth : Columns → ℕ
  columns_depth end = 0
  columns_depth (entry k c cs) = max (column_depth c) (columns_depth cs)

unfoldable pub register_depth : RegDataType → ℕ
register_depth (Column c) = column_depth c
register_depth (Int i) = 0
