-- The states of the walk: `ColumnType`, `RegDataType`, `CursorDataType`, `TableDataType` and `MemoryState` of explain.rs, with their
-- defaults and conversions. 01, "The walk": "A state is a row number (signed), registers, cursors and tables." Assumes nothing.
use Rattle.std.specs.Prelude.{Bool, true, false, ◌||◌, List, [], ◌∷◌, ℕ, zero, suc, ℤ, pos, replicate, Option, None, Some}
use Rattle.type_info.specs.Codes.{code_of}
use Rattle.type_info.specs.declared.DataType.{DataType}
use Rattle.type_info.specs.declared.DataType.TheVariants.{Null, Integer, Float, Text, Blob, Numeric, Bool as Boolean, Int4, Date, Time, Datetime}
use Rattle.model.specs.IntMap.{Entry, ◌⇒◌, numbered}

mutual
  pub data ColumnType : Type 0 where
    -- its datatype, and whether it is nullable, where that is known
    Single : DataType → Option Bool → ColumnType
    Record : Columns → ColumnType

  -- the Rust's `IntMap<ColumnType>`: entries by rising number
  pub data Columns : Type 0 where
    end : Columns
    entry : ℕ → ColumnType → Columns → Columns

pub data RegDataType : Type 0 where
  -- the Rust's `RegDataType::Single`
  Column : ColumnType → RegDataType
  Int : ℤ → RegDataType

pub data CursorDataType : Type 0 where
  -- the table that the row of this number opened
  Normal : ℕ → CursorDataType
  -- the record in this register
  Pseudo : ℤ → CursorDataType

pub record TableDataType : Type 0 where
  pub cols : Columns
  pub is_empty : Option Bool

pub record MemoryState : Type 0 where
  -- the next row
  pub program_i : ℤ
  -- registers, cursors, tables
  pub r : List (Entry RegDataType)
  pub p : List (Entry CursorDataType)
  pub t : List (Entry TableDataType)

-- "The fresh start is row 0 with nothing present"
abbrev pub fresh : MemoryState
fresh = record { program_i = pos 0; r = []; p = []; t = [] }

-- columns as the entries of a map, and back
unfoldable pub entries : Columns → List (Entry ColumnType)
entries end = []
entries (entry k c cs) = k ⇒ c ∷ entries cs

unfoldable pub as_columns : List (Entry ColumnType) → Columns
as_columns [] = end
as_columns (e ∷ es) = entry e.key e.value (as_columns es)

-- `IntMap::from_dense_record` and `IntMap::from_elem`
abbrev pub from_dense_record : List ColumnType → Columns
from_dense_record cs = as_columns (numbered 0 cs)

abbrev pub from_elem : ColumnType → ℕ → Columns
from_elem c n = from_dense_record (replicate n c)

-- `ColumnType::default` and `ColumnType::null`
abbrev pub default : ColumnType
default = Single Null None

abbrev pub null : ColumnType
null = Single Null (Some true)

-- a register that holds a value of a kind, never null
abbrev pub never_null : DataType → RegDataType
never_null d = Column (Single d (Some false))

-- `ColumnType::map_to_datatype`, `ColumnType::map_to_nullable`
abbrev pub column_to_datatype : ColumnType → DataType
column_to_datatype (Single d n) = d
column_to_datatype (Record cs) = Null

abbrev pub column_to_nullable : ColumnType → Option Bool
column_to_nullable (Single d n) = n
column_to_nullable (Record cs) = None

-- those of `RegDataType`
abbrev pub map_to_columntype : RegDataType → ColumnType
map_to_columntype (Column c) = c
map_to_columntype (Int i) = Single Integer (Some false)

abbrev pub map_to_datatype : RegDataType → DataType
map_to_datatype v = column_to_datatype (map_to_columntype v)

abbrev pub map_to_nullable : RegDataType → Option Bool
map_to_nullable v = column_to_nullable (map_to_columntype v)

-- a plain column's `nullable` is set; a record stays as it is
abbrev pub set_nullable : Option Bool → ColumnType → ColumnType
set_nullable n (Single d old) = Single d n
set_nullable n (Record cs) = Record cs

-- the same in a register
abbrev pub to_not_null : RegDataType → RegDataType
to_not_null (Column c) = Column (set_nullable (Some false) c)
to_not_null (Int i) = Int i

-- and those of a row of columns; nested records keep theirs
unfoldable pub set_all_nullable : Option Bool → Columns → Columns
set_all_nullable n end = end
set_all_nullable n (entry k c cs) = entry k (set_nullable n c) (set_all_nullable n cs)

-- what `matches!` asks of an emptiness or of `nullable`
abbrev pub is_true : Option Bool → Bool
is_true None = false
is_true (Some b) = b

abbrev pub is_false : Option Bool → Bool
is_false None = false
is_false (Some true) = false
is_false (Some false) = true

-- the place of a variant in the Rust's order
abbrev pub datatype_code : DataType → ℕ
datatype_code = code_of

abbrev pub is_zero : ℕ → Bool
is_zero zero = true
is_zero (suc k) = false

abbrev pub is_null_type : DataType → Bool
is_null_type d = is_zero (datatype_code d)

-- the first of two kinds, unless it is Null
abbrev pub first_if : Bool → DataType → DataType → DataType
first_if true a b = b
first_if false a b = a

abbrev pub first_datatype : DataType → DataType → DataType
first_datatype a b = first_if (is_null_type a) a b

-- nullable if one is; what is not known says nothing
abbrev pub either_nullable : Option Bool → Option Bool → Option Bool
either_nullable None b = b
either_nullable (Some a) None = Some a
either_nullable (Some a) (Some b) = Some (a || b)
