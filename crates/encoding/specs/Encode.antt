-- A state as runs of cells: one run for each register, cursor and table, in the order of their keys, all in one map. A run's first cell, its
-- head, packs a tag, a kind, a nullable and a key into one word, and its second word depends on the tag:
--   1  a single column    0
--   2  a record or table  the number of its columns, whose runs follow, each under its own key
--   3  a known number     the number's word (`Signed`)
--   4  a normal cursor    the row that opened its table
--   5  a pseudo cursor    the word of its register's number
-- A table's emptiness stands in its head's nullable field. `program_i` is in no run. Assumes nothing.
use Rattle.std.specs.Prelude.{Bool, true, false, ℕ, suc, Option, None, Some}
use mathlib.Core.List.{List, [], ◌∷◌, ◌++◌, flatten}
use Rattle.model.specs.IntMap.{Entry}
use Rattle.model.specs.State.{ColumnType, Single, Record, Columns, end, entry, RegDataType, Column, Int, CursorDataType, Normal, Pseudo, TableDataType, MemoryState, datatype_code}
use Rattle.area.specs.Cells.{cell}
use Rattle.area.specs.declared.Cell.{Cell}
use Rattle.intmap.specs.Pack.{head, class_key}
use Rattle.intmap.specs.Entries.{Runs}
use Rattle.intmap.specs.Signed.{word_of}

abbrev pub nullable_code : Option Bool → ℕ
nullable_code None = 0
nullable_code (Some false) = 1
nullable_code (Some true) = 2

abbrev pub count : Columns → ℕ
count end = 0
count (entry k c cs) = suc (count cs)

-- the one cell of a column that is no record
abbrev pub single : ℕ → ℕ → ℕ → Cell
single kind nullable key = cell (head 1 kind nullable key) 0

-- the one cell of a known number, whose word this is
abbrev pub int : ℕ → ℕ → Cell
int word key = cell (head 3 0 0 key) word

-- the head of so many columns, a record's or a table's
abbrev pub columns_head : ℕ → ℕ → ℕ → Cell
columns_head n nullable key = cell (head 2 0 nullable key) n

-- a column under a key, and the columns of a record or table, a run each
unfoldable mutual
  pub run_column : ℕ → ColumnType → List Cell
  run_column key (Single d n) = single (datatype_code d) (nullable_code n) key ∷ []
  run_column key (Record cs) = columns_head (count cs) 0 key ∷ flatten (column_runs cs)

  pub column_runs : Columns → Runs
  column_runs end = []
  column_runs (entry k c cs) = run_column k c ∷ column_runs cs

-- these in a row
abbrev pub run_columns : Columns → List Cell
run_columns cs = flatten (column_runs cs)

unfoldable pub run_register : ℕ → RegDataType → List Cell
run_register key (Column c) = run_column key c
run_register key (Int i) = int (word_of i) key ∷ []

unfoldable pub run_cursor : ℕ → CursorDataType → List Cell
run_cursor key (Normal row) = cell (head 4 0 0 key) row ∷ []
run_cursor key (Pseudo i) = cell (head 5 0 0 key) (word_of i) ∷ []

unfoldable pub run_table : ℕ → TableDataType → List Cell
run_table key t = columns_head (count t.cols) (nullable_code t.is_empty) key ∷ run_columns t.cols

-- the runs of a class's map
unfoldable pub run_map : {A : Type 0} → (ℕ → A → List Cell) → ℕ → List (Entry A) → Runs
run_map run class [] = []
run_map run class (e ∷ es) = run (class_key class e.key) e.value ∷ run_map run class es

unfoldable pub runs_of : MemoryState → Runs
runs_of m = run_map run_register 0 m.r ++ (run_map run_cursor 1 m.p ++ run_map run_table 2 m.t)
