-- What a cursor is, by value, as the definition reads it: one on the table of a row, or one on a register by its word. And a table changed where it
-- stands. Assumes nothing.
use Rattle.refusal.specs.Numbers.{number_of}
use Rattle.refusal.specs.declared.Refusal.{Refusal}
use Rattle.std.specs.Prelude.{◌≡◌, List, ℕ, ◌%◌, ◌≤◌, eqb, None, Some, Option, Ok, Err, Result}
use Rattle.model.specs.Walk.{Tried, refused, done}
use Rattle.model.specs.State.{CursorDataType as Cursor, Normal, Pseudo, TableDataType, MemoryState}
use Rattle.model.specs.Access.{read_cursor, update_table}
use Rattle.area.specs.Cells.{cell}
use Rattle.area.specs.declared.Cell.{Cell}
use Rattle.intmap.specs.Map.{HasRoom, Frame}
use Rattle.intmap.specs.Pack.{tag_of}
use Rattle.intmap.specs.Pick.{pick}
use Rattle.intmap.specs.Signed.{Small, int_of}
use Rattle.intmap.specs.declared.IntMap.{IntMap}
use Rattle.state.specs.Leads.{HoldsMap}
use Rattle.cursor_arms.specs.declared.CursorDataType.{CursorDataType}
use Rattle.cursor_arms.specs.declared.CursorDataType.TheVariants as cursor

-- what a cursor's cell says
unfoldable pub cursor_in : Cell → CursorDataType
cursor_in c = pick (eqb (tag_of c) 4) (cursor.Normal (c.payload % 65536)) (cursor.Pseudo c.payload)

-- and the cell that a cursor is stored as
abbrev pub cell_of : CursorDataType → Cell
cell_of (cursor.Normal row) = cell 4 row
cell_of (cursor.Pseudo w) = cell 5 w

-- the definition reads a cursor on the table of this row, which is an index of the tables
pub record IsNormal (row : ℕ) (t : Tried (Option Cursor)) : Type 0 where
  pub answer : t ≡ done (Some (Normal row))
  pub index : row ≤ 65535

-- one on the register of this word
pub record IsPseudo (bound w : ℕ) (t : Tried (Option Cursor)) : Type 0 where
  pub answer : t ≡ done (Some (Pseudo (int_of w)))
  pub small : Small bound (int_of w)

abbrev pub TellsCursor : ℕ → CursorDataType → Tried (Option Cursor) → Type 0
TellsCursor bound (cursor.Normal row) t = IsNormal row t
TellsCursor bound (cursor.Pseudo w) t = IsPseudo bound w t

-- a row's number is an index, whatever the cells hold
abbrev pub RowWithin : CursorDataType → Type 0
RowWithin (cursor.Normal row) = row ≤ 65535
RowWithin (cursor.Pseudo w) = Unit {0}

-- what is read: why the index is refused, nothing, or what is there
abbrev pub Reading : Type 0
Reading = Result (Option CursorDataType) Refusal

abbrev pub TellsReading : ℕ → Reading → Tried (Option Cursor) → Type 0
TellsReading bound (Err e) t = t ≡ refused (number_of e)
TellsReading bound (Ok None) t = t ≡ done None
TellsReading bound (Ok (Some c)) t = TellsCursor bound c t

abbrev pub ReadingWithin : Reading → Type 0
ReadingWithin (Err e) = Unit {0}
ReadingWithin (Ok None) = Unit {0}
ReadingWithin (Ok (Some c)) = RowWithin c

pub record ReadsCursor (cs : List Cell) (a : IntMap) (i : ℕ) (r : Reading) : Type 0 where
  pub says : (limit bound : ℕ) (m : MemoryState) → HoldsMap limit bound cs a m → TellsReading bound r (read_cursor (int_of i) m)
  pub within : ReadingWithin r

-- the table of a row is changed by f where it stands, in every state that the map holds; whatever it holds, it takes the same cells
pub record TableChanged (f : TableDataType → TableDataType) (cs ds : List Cell) (a : IntMap) (row : ℕ) : Type 0 where
  pub holds : (limit bound : ℕ) (m : MemoryState) → HoldsMap limit bound cs a m → HoldsMap limit bound ds a (update_table row f m)
  pub room : (limit : ℕ) → HasRoom cs limit a → HasRoom ds limit a
  pub frame : Frame cs ds a.base a.used
