-- A table opened from its run: stored under the number of the row that opens it, and then a cursor on it. And the run of an empty table of n
-- columns that may be null. Assumes nothing.
use Rattle.intmap.specs.Store.{Stored}
use Rattle.std.specs.Prelude.{◌≡◌, true, List, ℕ, ◌+◌, ◌≤◌, Some}
use Rattle.model.specs.Row.{Row as Listed}
use Rattle.model.specs.State.{TableDataType, MemoryState, from_elem, null}
use Rattle.model.specs.Cells.{table_cells, columns_depth}
use Rattle.model.specs.CursorArms.{open_table}
use Rattle.model.specs.Good.{SortedColumns}
use Rattle.area.specs.declared.Cell.{Cell}
use Rattle.intmap.specs.Map.{Frame}
use Rattle.intmap.specs.Entries.{span}
use Rattle.intmap.specs.Signed.{int_of}
use Rattle.intmap.specs.declared.IntMap.{IntMap}
use Rattle.encoding.specs.Encode.{run_table}
use Rattle.state.specs.Leads.{HoldsMap, Tells, Leaves, operands}

-- a table's run of n cells stands at `from`
pub record TableAt (limit : ℕ) (cs : List Cell) (from n : ℕ) (t : TableDataType) : Type 0 where
  pub key : ℕ
  pub shallow : columns_depth t.cols ≤ 8
  pub sorted : table_cells t ≤ limit → SortedColumns t.cols 0
  pub run : span cs from n ≡ run_table key t

pub record IsTable (limit : ℕ) (cs : List Cell) (from n : ℕ) : Type 0 where
  pub table : TableDataType
  pub stands : TableAt limit cs from n table

-- of the table there, the answer is what the definition's `open_table` gives
pub record OpensTable (limit : ℕ) (cs ds : List Cell) (a : IntMap) (row i from n : ℕ) (r : Stored) : Type 0 where
  pub says : (x : Listed) → x.p1 ≡ int_of i → (t : TableDataType) → TableAt limit cs from n t → (bound : ℕ) (m : MemoryState) → operands ≤ bound → HoldsMap limit bound cs a m → Tells limit bound ds r (open_table limit row x t m)
  pub leaves : Leaves limit ds a r
  pub frame : Frame cs ds a.base (limit + limit)

-- an empty table of n columns
abbrev pub empty_table : ℕ → TableDataType
empty_table n = record { cols = from_elem null n; is_empty = Some true }

-- its run stands at p, and nothing else has changed
pub record PutsTable (cs ds : List Cell) (p n : ℕ) : Type 0 where
  pub run : span ds p (1 + n) ≡ run_table 0 (empty_table n)
  pub frame : Frame cs ds p (1 + n)
