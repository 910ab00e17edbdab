-- What a cursor stands for: the methods of `CursorDataType` in explain.rs (`table_mut`, `columns_ref`, `is_empty`). Which table or register's
-- record it is, is told by the place of its head among the cells. Assumes nothing.
use Rattle.refusal.specs.Numbers.{number_of}
use Rattle.intmap.specs.Get.{Slot}
use Rattle.std.specs.Prelude.{◌≡◌, Bool, true, false, List, ℕ, ◌+◌, ◌<◌, ◌≤◌, eqb, length, get_or, Option, None, Some, Ok, Err}
use Rattle.model.specs.Walk.{Tried, refused, done}
use Rattle.model.specs.IntMap.{get}
use Rattle.model.specs.State.{Columns, CursorDataType as Cursor, Normal, Pseudo, TableDataType, MemoryState}
use Rattle.model.specs.Cells.{columns_depth}
use Rattle.model.specs.Access.{◌>>=◌, index}
use Rattle.model.specs.Cursor.{cursor_columns, cursor_is_empty, update_cursor_table}
use Rattle.model.specs.Good.{SortedColumns, GoodTable}
use Rattle.area.specs.Cells.{blank}
use Rattle.area.specs.declared.Cell.{Cell}
use Rattle.intmap.specs.Map.{HasRoom, Frame}
use Rattle.intmap.specs.Pack.{tag_of}
use Rattle.intmap.specs.Pick.{pick}
use Rattle.intmap.specs.Signed.{int_of}
use Rattle.intmap.specs.declared.IntMap.{IntMap}
use Rattle.encoding.specs.Decode.{nullable_in}
use Rattle.encoding.specs.Encode.{count, run_columns, run_table}
use Rattle.encoding.specs.Holds.{Stands}
use Rattle.state.specs.Leads.{HoldsMap}
use Rattle.state.specs.Own.{entry_slot, place_of, index_slot}
use Rattle.cursor_arms.specs.Cursors.{TellsCursor, Reading, ReadsCursor}
use Rattle.cursor_arms.specs.declared.CursorDataType.{CursorDataType}
use Rattle.cursor_arms.specs.declared.CursorDataType.TheVariants as cursor

-- ---- places

-- a place, if a record's or table's head is there
abbrev pub head_slot : List Cell → Option ℕ → Option ℕ
head_slot cs None = None
head_slot cs (Some p) = pick (eqb (tag_of (get_or cs p blank)) 2) (Some p) None

abbrev pub table_slot : List Cell → IntMap → CursorDataType → Option ℕ
table_slot cs a (cursor.Normal row) = entry_slot cs a 2 row
table_slot cs a (cursor.Pseudo w) = None

abbrev pub columns_slot : List Cell → IntMap → CursorDataType → Tried (Option ℕ)
columns_slot cs a (cursor.Normal row) = done (head_slot cs (entry_slot cs a 2 row))
columns_slot cs a (cursor.Pseudo w) = index_slot cs a 0 (index (int_of w)) >>= λ o. done (head_slot cs o)

-- the emptiness that a table's head says; where there is no table, the cursor is empty
abbrev pub empty_in : List Cell → Option ℕ → Option Bool
empty_in cs None = Some true
empty_in cs (Some p) = nullable_in (get_or cs p blank)

-- and what a cursor says: one on a register has exactly one row
abbrev pub emptiness_in : List Cell → IntMap → CursorDataType → Option Bool
emptiness_in cs a (cursor.Normal row) = empty_in cs (entry_slot cs a 2 row)
emptiness_in cs a (cursor.Pseudo w) = Some false

-- a place is among the cells
abbrev pub SlotWithin : List Cell → Option ℕ → Type 0
SlotWithin cs None = Unit {0}
SlotWithin cs (Some p) = p < length cs

-- ---- what they tell of the definition

-- `table_mut`, of a cursor that may be absent
abbrev pub cursor_table : Option Cursor → MemoryState → Option TableDataType
cursor_table None m = None
cursor_table (Some (Normal row)) m = get row m.t
cursor_table (Some (Pseudo i)) m = None

-- a table whose run stands at p, within the map
pub record IsTable (cs : List Cell) (a : IntMap) (p : ℕ) (t : Tried (Option TableDataType)) : Type 0 where
  pub table : TableDataType
  pub key : ℕ
  pub answer : t ≡ done (Some table)
  pub good : GoodTable table
  pub stands : Stands cs p (run_table key table)
  pub above : a.base ≤ p
  pub below : p + length (run_table key table) ≤ a.base + a.used

abbrev pub TellsTable : List Cell → IntMap → Option ℕ → Tried (Option TableDataType) → Type 0
TellsTable cs a None t = t ≡ done None
TellsTable cs a (Some p) t = IsTable cs a p t

-- columns whose runs stand behind the head at p, within the map
pub record HasColumns (cs : List Cell) (a : IntMap) (p : ℕ) (t : Tried (Option Columns)) : Type 0 where
  pub columns : Columns
  pub answer : t ≡ done (Some columns)
  pub depth : columns_depth columns ≤ 8
  pub sorted : SortedColumns columns 0
  pub number : (get_or cs p blank).payload ≡ count columns
  pub stands : Stands cs (p + 1) (run_columns columns)
  pub above : a.base ≤ p
  pub below : p + 1 + length (run_columns columns) ≤ a.base + a.used

abbrev pub TellsColumns : List Cell → IntMap → Slot → Tried (Option Columns) → Type 0
TellsColumns cs a (Err e) t = t ≡ refused (number_of e)
TellsColumns cs a (Ok None) t = t ≡ done None
TellsColumns cs a (Ok (Some p)) t = HasColumns cs a p t

-- `is_empty`, of a cursor that may be absent: of none it is not known
abbrev pub emptiness_of : Option Cursor → MemoryState → Option Bool
emptiness_of None m = None
emptiness_of (Some c) m = cursor_is_empty c m

-- of every state that the map holds, and every cursor that c is there
pub record FindsTable (cs : List Cell) (a : IntMap) (c : CursorDataType) (r : Option ℕ) : Type 0 where
  pub place : r ≡ table_slot cs a c
  pub says : (limit bound : ℕ) (m : MemoryState) → HoldsMap limit bound cs a m → (t : Tried (Option Cursor)) → TellsCursor bound c t → TellsTable cs a r (t >>= λ o. done (cursor_table o m))

pub record FindsColumns (cs : List Cell) (a : IntMap) (c : CursorDataType) (r : Slot) : Type 0 where
  pub place : place_of r ≡ columns_slot cs a c
  pub says : (limit bound : ℕ) (m : MemoryState) → HoldsMap limit bound cs a m → (t : Tried (Option Cursor)) → TellsCursor bound c t → TellsColumns cs a r (t >>= λ o. cursor_columns o m)

-- of what was read, and of cursor i
abbrev pub FindsReading : List Cell → IntMap → Reading → Slot → Type 0
FindsReading cs a (Err e) r = r ≡ Err e
FindsReading cs a (Ok None) r = r ≡ Ok None
FindsReading cs a (Ok (Some c)) r = FindsColumns cs a c r

pub record FindsCursor (cs : List Cell) (a : IntMap) (i : ℕ) (r : Slot) : Type 0 where
  pub reading : Reading
  pub reads : ReadsCursor cs a i reading
  pub finds : FindsReading cs a reading r

-- whether it is empty, if that is known
pub record TellsEmpty (cs : List Cell) (a : IntMap) (c : CursorDataType) (r : Option Bool) : Type 0 where
  pub said : r ≡ emptiness_in cs a c
  pub says : (limit bound : ℕ) (m : MemoryState) → HoldsMap limit bound cs a m → (o : Option Cursor) → TellsCursor bound c (done o) → r ≡ emptiness_of o m

-- its table is changed by f where it stands, if it has one; the map takes the same cells. What is no cursor on a table changes nothing
pub record CursorTableChanged (f : TableDataType → TableDataType) (cs ds : List Cell) (a : IntMap) (c : CursorDataType) : Type 0 where
  pub holds : (limit bound : ℕ) (m : MemoryState) → HoldsMap limit bound cs a m → (o : Option Cursor) → TellsCursor bound c (done o) → HoldsMap limit bound ds a (update_cursor_table f o m)
  pub other : ((row : ℕ) → c ≡ cursor.Normal row → ⊥) → ds ≡ cs
  pub room : (limit : ℕ) → HasRoom cs limit a → HasRoom ds limit a
  pub frame : Frame cs ds a.base a.used
