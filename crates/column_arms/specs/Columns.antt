-- The columns that stand behind a head, as Column and RowData take them: one of them by its key, and a run stored in a register.
-- Assumes nothing.
use Rattle.intmap.specs.Store.{Stored}
use Rattle.intmap.specs.Get.{Slot}
use Rattle.std.specs.Prelude.{◌≡◌, true, List, [], ◌∷◌, ℕ, ◌+◌, ◌<◌, ◌≤◌, eqb, ℤ, get_or, Option, None, Some, Ok, Err}
use Rattle.model.specs.Walk.{Tried}
use Rattle.model.specs.IntMap.{get}
use Rattle.model.specs.State.{ColumnType, Record, Columns, end, entries, Column, MemoryState}
use Rattle.model.specs.Cells.{column_depth, columns_depth}
use Rattle.model.specs.Access.{◌>>=◌, store_register}
use Rattle.model.specs.CursorArms.{column_of}
use Rattle.model.specs.Good.{SortedColumn, SortedColumns}
use Rattle.model.specs.TextTable.{or_else}
use Rattle.area.specs.Cells.{blank}
use Rattle.area.specs.declared.Cell.{Cell}
use Rattle.intmap.specs.Entries.{span}
use Rattle.intmap.specs.Map.{levels, Frame}
use Rattle.intmap.specs.Pack.{tag_of, key_of}
use Rattle.intmap.specs.Pick.{pick}
use Rattle.intmap.specs.Runs.{size}
use Rattle.intmap.specs.declared.IntMap.{IntMap}
use Rattle.encoding.specs.Encode.{count, run_column, run_columns}
use Rattle.encoding.specs.Holds.{Stands}
use Rattle.state.specs.Leads.{HoldsMap, Tells, Leaves, operands}
use Rattle.state.specs.Own.{is_flat}

-- ---- columns by number

-- how many columns a cell says that it has behind it, and all cells of a run
abbrev pub columns_in : Cell → ℕ
columns_in c = pick (eqb (tag_of c) 2) c.payload 0

unfoldable pub counted : List Cell → ℕ
counted [] = 0
counted (c ∷ cs) = columns_in c + counted cs

-- ---- one by its key

-- these columns, as a state has them, stand behind the head at p
pub record ColumnsAt (cs : List Cell) (p : ℕ) (x : Columns) : Type 0 where
  pub depth : columns_depth x ≤ 8
  pub sorted : SortedColumns x 0
  pub number : (get_or cs p blank).payload ≡ count x
  pub stands : Stands cs (p + 1) (run_columns x)

-- the column of a key by its distance from the head at p, which has n columns of one cell each
pub record DirectAt (cs : List Cell) (a : IntMap) (p n key : ℕ) : Type 0 where
  pub below : key < n
  pub flat : is_flat cs a p n ≡ true
  pub plain : tag_of (get_or cs (p + 1 + key) blank) ≡ 2 → ⊥
  pub is : key_of (get_or cs (p + 1 + key) blank) ≡ key

-- the column that has a key, and its run at q
pub record IsColumnAt (cs : List Cell) (key q : ℕ) (o : Option ColumnType) : Type 0 where
  pub column : ColumnType
  pub answer : o ≡ Some column
  pub depth : column_depth column ≤ 8
  pub sorted : SortedColumn column
  pub run : span cs q (size cs levels q) ≡ run_column key column

-- a state's columns are never refused
abbrev pub TellsColumn : List Cell → ℕ → Slot → Option ColumnType → Type 0
TellsColumn cs key (Err n) o = ⊥
TellsColumn cs key (Ok None) o = o ≡ None
TellsColumn cs key (Ok (Some q)) o = IsColumnAt cs key q o

-- its run is a part of the run at p
abbrev pub ColumnWithin : List Cell → ℕ → Slot → Type 0
ColumnWithin cs p (Err n) = Unit {0}
ColumnWithin cs p (Ok None) = Unit {0}
ColumnWithin cs p (Ok (Some q)) = (p < q) × (q + size cs levels q ≤ p + size cs levels p)

pub record FindsColumn (cs : List Cell) (p key : ℕ) (r : Slot) : Type 0 where
  pub says : (x : Columns) → ColumnsAt cs p x → TellsColumn cs key r (get key (entries x))
  pub within : ColumnWithin cs p r

-- ---- stores

-- what Column and RowData do with a cursor's columns
unfoldable pub store_column : ℕ → ℤ → ℤ → Option Columns → MemoryState → Tried MemoryState
store_column limit i j o m = column_of i o >>= λ v. store_register limit j (Column v) m

unfoldable pub store_row : ℕ → ℤ → Option Columns → MemoryState → Tried MemoryState
store_row limit j o m = store_register limit j (Column (Record (or_else end o))) m

-- the answer is what f gives, of every state that the map holds, with the columns behind the head at p
pub record LeadsWith (limit : ℕ) (cs ds : List Cell) (a : IntMap) (p : ℕ) (r : Stored) (f : Option Columns → MemoryState → Tried MemoryState) : Type 0 where
  pub says : (bound : ℕ) (m : MemoryState) → operands ≤ bound → HoldsMap limit bound cs a m → (x : Columns) → ColumnsAt cs p x → Tells limit bound ds r (f (Some x) m)
  pub leaves : Leaves limit ds a r
  pub frame : Frame cs ds a.base (limit + limit)
