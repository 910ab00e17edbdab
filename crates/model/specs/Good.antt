-- What every state of a walk is: the keys of all maps and of all nested columns rise strictly and are at most 65,535, records nest at most
-- eight deep, and the cells are within the limit. 01, "Walk, refusals in order": 6, 7, 8 and 9. Assumes nothing.
use Rattle.std.specs.Prelude.{Option, None, Some, List, [], ◌∷◌, ℕ, suc, ◌≤◌, ℤ}
use Rattle.model.specs.Walk.{Ways}
use Rattle.model.specs.IntMap.{Entry, Rising}
use Rattle.model.specs.State.{ColumnType, Single, Record, Columns, end, entry, RegDataType, CursorDataType, Normal, Pseudo, TableDataType, MemoryState, map_to_columntype}
use Rattle.model.specs.Cells.{register_depth, columns_depth, cells}
use Rattle.model.specs.Results.{ResultRow}
use Rattle.model.specs.Meaning.{Meaning}

-- the keys of columns, from `low` on, and of the records in them
unfoldable mutual
  pub SortedColumn : ColumnType → Type 0
  SortedColumn (Single d n) = Unit {0}
  SortedColumn (Record cs) = SortedColumns cs 0

  pub SortedColumns : Columns → ℕ → Type 0
  SortedColumns end low = Unit {0}
  SortedColumns (entry k c cs) low = (low ≤ k) × (k ≤ 65535) × SortedColumn c × SortedColumns cs (suc k)

pub record GoodRegister (v : RegDataType) : Type 0 where
  pub depth : register_depth v ≤ 8
  pub sorted : SortedColumn (map_to_columntype v)

pub record GoodTable (t : TableDataType) : Type 0 where
  pub depth : columns_depth t.cols ≤ 8
  pub sorted : SortedColumns t.cols 0

-- the row that opened a cursor's table is an index of the tables
abbrev pub GoodCursor : CursorDataType → Type 0
GoodCursor (Normal row) = row ≤ 65535
GoodCursor (Pseudo i) = Unit {0}

-- a map whose keys rise and are indexes, and whose values are good
abbrev pub GoodMap : {A : Type 0} → (A → Type 0) → List (Entry A) → Type 0
GoodMap P es = Rising (λ k v. (k ≤ 65535) × P v) 0 es

pub record Good (limit : ℕ) (m : MemoryState) : Type 0 where
  pub registers : GoodMap GoodRegister m.r
  pub cursors : GoodMap GoodCursor m.p
  pub tables : GoodMap GoodTable m.t
  pub fits : cells m ≤ limit

-- every branch, and the state that goes on
abbrev pub Each : {A : Type 0} → (A → Type 0) → List A → Type 0
Each P [] = Unit {0}
Each P (x ∷ xs) = P x × Each P xs

abbrev pub OnSome : {A : Type 0} → (A → Type 0) → Option A → Type 0
OnSome P None = Unit {0}
OnSome P (Some v) = P v

pub record GoodWays (limit : ℕ) (w : Ways MemoryState ResultRow) : Type 0 where
  pub branches : Each (Good limit) w.branches
  pub stays : OnSome (Good limit) w.stays

-- what is asked of a listing's meaning: the catalogue's columns are sorted, and the limit is no more than there are indexes
pub record GoodMeaning (meaning : Meaning) : Type 0 where
  pub columns : (db page : ℤ) → SortedColumns (meaning.columns_for db page) 0
  pub limit : meaning.cell_limit ≤ 65536
