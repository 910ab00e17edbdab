-- The blocks: what the Rust's `root_block_columns` has in a map by database and page, here as cells of 16 bytes. The catalogue's records stand one
-- in a cell: its column, its database and its page. There are as many buckets as cells, and a record is in the bucket that its page's word gives.
-- The records of a bucket are linked in the catalogue's order; the link to the first of bucket b stands in cell b. A link is 0, for none, or one
-- more than the number of a cell. Assumes nothing.
use Rattle.std.specs.Prelude.{◌≡◌, List, [], ◌∷◌, ℕ, zero, suc, Option, None, Some, ◌+◌, ◌-◌, ◌/◌, ◌%◌, ◌<◌, ◌≤◌, eqb, length, get_or}
use Rattle.type_info.specs.All.{All}
use Rattle.model.specs.Catalogue.{CatalogueRecord, record_column}
use Rattle.model.specs.CatalogueText.{ValidRecord}
use Rattle.area.specs.Cells.{cell, blank, cells}
use Rattle.area.specs.declared.Cell.{Cell}
use Rattle.intmap.specs.Pick.{pick}
use Rattle.intmap.specs.Signed.{offset}
use Rattle.encoding.specs.Encode.{run_column}

-- a payload is a page, a database and the link to the bucket's next record
abbrev pub page_of : Cell → ℕ
page_of c = c.payload % 2147483648

abbrev pub db_of : Cell → ℕ
db_of c = c.payload / 2147483648 % 2

abbrev pub next_of : Cell → ℕ
next_of c = c.payload / 4294967296

-- a head is a column's head, under its number, and the link to the first record of a bucket
abbrev pub column_of : Cell → Cell
column_of c = cell (c.head % 1099511627776) 0

abbrev pub first_of : Cell → ℕ
first_of c = c.head / 1099511627776

-- where a link leads, if it leads to a record
abbrev pub leads_to : ℕ → Option ℕ
leads_to zero = None
leads_to (suc i) = Some (suc i)

-- the cell of a record
pub record IsBlock (c : Cell) (r : CatalogueRecord) : Type 0 where
  pub db : db_of c ≡ r.db
  pub page : page_of c ≡ r.page
  pub column : column_of c ∷ [] ≡ run_column r.col (record_column r)

-- the records of bucket b, of n: those whose page's word gives b
unfoldable pub in_bucket : ℕ → ℕ → List CatalogueRecord → List CatalogueRecord
in_bucket n b [] = []
in_bucket n b (r ∷ rs) = pick (eqb ((offset + r.page) % n) b) (r ∷ in_bucket n b rs) (in_bucket n b rs)

-- the link leads to these records, each further on than `low` and than the one before it
abbrev pub Chain : List Cell → ℕ → ℕ → List CatalogueRecord → Type 0
Chain cs low link [] = link ≡ 0
Chain cs low link (r ∷ rs) = (low < link) × (link ≤ length cs) × IsBlock (get_or cs (link - 1) blank) r × Chain cs link (next_of (get_or cs (link - 1) blank)) rs

-- these bytes hold these records
pub record HasBlocks (bs : List ℕ) (records : List CatalogueRecord) : Type 0 where
  pub some : 0 < length (cells bs)
  pub small : length (cells bs) ≤ 1048576
  pub valid : All ValidRecord records
  pub chains : (b : ℕ) → b < length (cells bs) → Chain (cells bs) 0 (first_of (get_or (cells bs) b blank)) (in_bucket (length (cells bs)) b records)

pub record IsBlocks (bs : List ℕ) : Type 0 where
  pub records : List CatalogueRecord
  pub has : HasBlocks bs records
