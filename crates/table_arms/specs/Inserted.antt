-- Insert, IdxInsert and SorterInsert by what register P2 holds: a plain Null, or a record, whose run stands at `at` in the map. Assumes nothing.
use Rattle.intmap.specs.Store.{Stored}
use Rattle.std.specs.Prelude.{◌≡◌, false, List, ℕ, ◌+◌, ◌≤◌, ℤ, Some}
use Rattle.model.specs.Walk.{Tried, done}
use Rattle.model.specs.Row.{Row as Listed}
use Rattle.model.specs.State.{Record, Columns, RegDataType, Column, MemoryState}
use Rattle.model.specs.Cells.{columns_depth}
use Rattle.model.specs.Access.{◌>>=◌, read_cursor, store_table}
use Rattle.model.specs.Cursor.{update_cursor_table, set_empty}
use Rattle.model.specs.CursorArms.{insert_record, insert_arm}
use Rattle.model.specs.Good.{SortedColumns, GoodRegister}
use Rattle.area.specs.declared.Cell.{Cell}
use Rattle.intmap.specs.Entries.{span}
use Rattle.intmap.specs.Map.{levels, Frame}
use Rattle.intmap.specs.Runs.{size}
use Rattle.intmap.specs.Signed.{int_of}
use Rattle.intmap.specs.declared.IntMap.{IntMap}
use Rattle.encoding.specs.Encode.{run_register}
use Rattle.rows.specs.Judged.{Judged}
use Rattle.rows.specs.declared.row.Row.{Row}
use Rattle.state.specs.Leads.{HoldsMap, Tells, Leaves, operands}

-- a plain Null inserted: cursor i's table, if it has one, is not empty
unfoldable pub fill_table : ℤ → MemoryState → Tried MemoryState
fill_table i m = read_cursor i m >>= λ c. done (update_cursor_table (set_empty (Some false)) c m)

-- a record of these columns, as a state has it, stands there
pub record RecordAt (cs : List Cell) (at : ℕ) (x : Columns) : Type 0 where
  pub key : ℕ
  pub run : span cs at (size cs levels at) ≡ run_register key (Column (Record x))
  pub depth : columns_depth x ≤ 8
  pub sorted : SortedColumns x 0

-- its columns stored as the table of a row, which is not empty
pub record StoresTable (limit : ℕ) (cs ds : List Cell) (a : IntMap) (row at : ℕ) (r : Stored) : Type 0 where
  pub says : (bound : ℕ) (m : MemoryState) → HoldsMap limit bound cs a m → (x : Columns) → RecordAt cs at x → Tells limit bound ds r (store_table limit row (record { cols = x; is_empty = Some false }) m)
  pub leaves : Leaves limit ds a r
  pub frame : Frame cs ds a.base (limit + limit)

-- a record inserted where cursor P1 stands for a table
pub record InsertsRecord (limit : ℕ) (cs ds : List Cell) (a : IntMap) (x : Row) (at : ℕ) (r : Stored) : Type 0 where
  pub says : (bound : ℕ) (m : MemoryState) → HoldsMap limit bound cs a m → (y : Columns) → RecordAt cs at y → Tells limit bound ds r (read_cursor (int_of x.p1) m >>= λ c. insert_record limit y c m)
  pub leaves : Leaves limit ds a r
  pub frame : Frame cs ds a.base (limit + limit)
