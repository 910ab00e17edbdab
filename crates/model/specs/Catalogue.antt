-- The catalogue: its records, and the columns that the Rust's `root_block_columns` gives for a database and a page.
-- 01, "The call": "The same db, page and col again: the later record holds." A record's column has the kind of its declared type
-- (01, "Leaves") and is nullable unless it is declared not to be. Assumes nothing.
use Rattle.std.specs.Prelude.{Bool, true, false, ◌&&◌, not, List, [], ◌∷◌, ℕ, ℤ, pos, Some}
use Rattle.type_info.specs.Kind.{kind_of}
use Rattle.model.specs.IntMap.{Entry, insert}
use Rattle.model.specs.State.{ColumnType, Single, Columns, as_columns}
use Rattle.model.specs.Equality.{eq_int}

pub record CatalogueRecord : Type 0 where
  pub db : ℕ
  pub page : ℕ
  pub col : ℕ
  pub declared : List ℕ
  pub notnull : Bool

unfoldable pub record_column : CatalogueRecord → ColumnType
record_column x = Single (kind_of x.declared) (Some (not x.notnull))

-- the record is one for this database and page
unfoldable pub is_for : ℤ → ℤ → CatalogueRecord → Bool
is_for db page x = eq_int (pos x.db) db && eq_int (pos x.page) page

abbrev pub add_if : Bool → CatalogueRecord → List (Entry ColumnType) → List (Entry ColumnType)
add_if true x es = insert x.col (record_column x) es
add_if false x es = es

-- `row_info.insert`, record after record
unfoldable pub columns_after : List (Entry ColumnType) → ℤ → ℤ → List CatalogueRecord → List (Entry ColumnType)
columns_after es db page [] = es
columns_after es db page (x ∷ xs) = columns_after (add_if (is_for db page x) x es) db page xs

unfoldable pub columns_at : List CatalogueRecord → ℤ → ℤ → Columns
columns_at records db page = as_columns (columns_after [] db page records)
