-- The columns that the result rows counted so far make, as bytes, one for each column: four times its kind's code, and its nullable's code
-- (0 not known, 1 no, 2 yes). 0 is a column of which nothing is known. Assumes nothing.
use Rattle.std.specs.Prelude.{◌≡◌, List, ℕ, ◌+◌, ◌*◌, max, pos, length, get_or, None}
use Rattle.type_info.specs.declared.DataType.TheVariants.{Null}
use Rattle.model.specs.Walk.{done}
use Rattle.model.specs.State.{ColumnType, MemoryState, datatype_code}
use Rattle.model.specs.Access.{read_columns}
use Rattle.model.specs.Results.{ResultColumn, result_columns, merge}
use Rattle.area.specs.declared.Cell.{Cell}
use Rattle.intmap.specs.Pack.{class_key}
use Rattle.intmap.specs.Entries.{entries}
use Rattle.intmap.specs.Map.{levels}
use Rattle.intmap.specs.declared.IntMap.{IntMap}
use Rattle.encoding.specs.Encode.{nullable_code}
use Rattle.state.specs.Leads.{HoldsMap}
use Rattle.state.specs.declared.registers.Registers.{Registers}
use Rattle.merge.specs.Entries.{merge_runs}

-- nothing is known of it
abbrev pub unsaid : ResultColumn
unsaid = record { datatype = Null; nullable = None }

unfoldable pub column_byte : ResultColumn → ℕ
column_byte c = datatype_code c.datatype * 4 + nullable_code c.nullable

-- the first `width` bytes stand for the columns, and those behind them are 0
pub record HasColumns (bytes : List ℕ) (width : ℕ) (columns : List ResultColumn) : Type 0 where
  pub wide : length columns ≡ width
  pub stand : (j : ℕ) → get_or bytes j 0 ≡ column_byte (get_or columns j unsaid)

-- the registers are a newer row: the map's entries are merged into the bytes, whatever these are, and of every state that the map holds, the bytes
-- then stand for what the definition merges
pub record Merges (cs : List Cell) (a : IntMap) (from : Registers) (before after : List ℕ) (width r : ℕ) : Type 0 where
  pub widest : r ≡ max width from.count
  pub whole : after ≡ merge_runs (class_key 0 from.first) from.count (entries cs levels a.len a.base) before
  pub says : (limit bound : ℕ) (m : MemoryState) (row : List ColumnType) (columns : List ResultColumn) → HoldsMap limit bound cs a m → read_columns from.count (pos from.first) m ≡ done row → HasColumns before width columns → HasColumns after r (merge (result_columns row) columns)
