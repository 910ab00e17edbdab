-- The accesses of a row to the state, with their refusals. 01, "Walk, refusals in order": 6 an index below 0 or a negative count, 7 an index
-- above 65,535, 9 records nested deeper than 8, 8 more cells than the limit; "a store is judged on index, depth, cells".
-- A store through `get_mut` changes a value that is present, never makes the state larger, and is judged on its index only. Assumes nothing.
use Rattle.std.specs.Prelude.{Bool, true, false, List, [], ◌∷◌, ℕ, zero, suc, leb, ℤ, pos, negsuc, Option, None, Some}
use Rattle.std.proofs.Math.IntN.{suc_ℤ}
use Rattle.model.specs.Walk.{Tried, refused, done}
use Rattle.model.specs.IntMap.{Entry, get, insert, remove, update}
use Rattle.model.specs.State.{ColumnType, RegDataType, CursorDataType, TableDataType, MemoryState, default, map_to_columntype}
use Rattle.model.specs.Cells.{register_depth, columns_depth, cells}

-- what is tried next, unless there was a refusal
infixl 20 ◌>>=◌
abbrev pub ◌>>=◌ : {A B : Type 0} → Tried A → (A → Tried B) → Tried B
refused k >>= f = refused k
done a >>= f = f a

abbrev pub index_if : Bool → ℕ → Tried ℕ
index_if true k = done k
index_if false k = refused 7

unfoldable pub index : ℤ → Tried ℕ
index (pos k) = index_if (leb k 65535) k
index (negsuc k) = refused 6

-- P2 as a number of columns
unfoldable pub count_of : ℤ → Tried ℕ
count_of (pos k) = done k
count_of (negsuc k) = refused 6

abbrev pub depth_if : {A : Type 0} → Bool → A → Tried A
depth_if true v = done v
depth_if false v = refused 9

-- a value of this depth is to be stored
unfoldable pub judge_depth : {A : Type 0} → ℕ → A → Tried A
judge_depth depth v = depth_if (leb depth 8) v

abbrev pub cells_if : Bool → MemoryState → Tried MemoryState
cells_if true m = done m
cells_if false m = refused 8

unfoldable pub judge_cells : ℕ → MemoryState → Tried MemoryState
judge_cells limit m = cells_if (leb (cells m) limit) m

-- the state with one part replaced
abbrev pub go_to : ℤ → MemoryState → MemoryState
go_to i m = record { program_i = i; r = m.r; p = m.p; t = m.t }

abbrev pub next : MemoryState → MemoryState
next m = go_to (suc_ℤ m.program_i) m

abbrev pub with_registers : List (Entry RegDataType) → MemoryState → MemoryState
with_registers r m = record { program_i = m.program_i; r = r; p = m.p; t = m.t }

abbrev pub with_cursors : List (Entry CursorDataType) → MemoryState → MemoryState
with_cursors p m = record { program_i = m.program_i; r = m.r; p = p; t = m.t }

abbrev pub with_tables : List (Entry TableDataType) → MemoryState → MemoryState
with_tables t m = record { program_i = m.program_i; r = m.r; p = m.p; t = t }

-- reads
unfoldable pub read_register : ℤ → MemoryState → Tried (Option RegDataType)
read_register i m = index i >>= λ k. done (get k m.r)

unfoldable pub read_cursor : ℤ → MemoryState → Tried (Option CursorDataType)
read_cursor i m = index i >>= λ k. done (get k m.p)

abbrev pub register_column : Option RegDataType → ColumnType
register_column None = default
register_column (Some v) = map_to_columntype v

-- n registers from i on, as columns
unfoldable pub read_columns : ℕ → ℤ → MemoryState → Tried (List ColumnType)
read_columns zero i m = done []
read_columns (suc n) i m = read_register i m >>= λ v. read_columns n (suc_ℤ i) m >>= λ cs. done (register_column v ∷ cs)

-- stores by `insert`, under a limit of cells
unfoldable pub store_register : ℕ → ℤ → RegDataType → MemoryState → Tried MemoryState
store_register limit i v m = index i >>= λ k. judge_depth (register_depth v) v >>= λ w. judge_cells limit (with_registers (insert k w m.r) m)

unfoldable pub store_cursor : ℕ → ℤ → CursorDataType → MemoryState → Tried MemoryState
store_cursor limit i c m = index i >>= λ k. judge_cells limit (with_cursors (insert k c m.p) m)

-- a table is kept under the number of the row that opened it: no index is judged
unfoldable pub store_table : ℕ → ℕ → TableDataType → MemoryState → Tried MemoryState
store_table limit row t m = judge_depth (columns_depth t.cols) t >>= λ u. judge_cells limit (with_tables (insert row u m.t) m)

-- stores through `get_mut`
unfoldable pub update_register : ℤ → (RegDataType → RegDataType) → MemoryState → Tried MemoryState
update_register i f m = index i >>= λ k. done (with_registers (update k f m.r) m)

unfoldable pub update_table : ℕ → (TableDataType → TableDataType) → MemoryState → MemoryState
update_table row f m = with_tables (update row f m.t) m

-- `remove`
unfoldable pub remove_register : ℤ → MemoryState → Tried MemoryState
remove_register i m = index i >>= λ k. done (with_registers (remove k m.r) m)
