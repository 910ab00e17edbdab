-- How the blocks are made of the catalogue's text: what `root_block_columns` asks, what it leaves, and its two passes. The first writes the
-- records. The second goes from the last record to the first and links each before those of its bucket. Assumes nothing.
use Rattle.std.specs.Prelude.{◌≡◌, List, [], ◌∷◌, ℕ, zero, suc, ◌+◌, ◌*◌, ◌%◌, ◌<◌, ◌≤◌, length, get_or, set, replicate, Some}
use Rattle.model.specs.Catalogue.{CatalogueRecord, record_column}
use Rattle.model.specs.CatalogueText.{read_catalogue}
use Rattle.area.specs.Cells.{cell, blank, cells}
use Rattle.area.specs.declared.Cell.{Cell}
use Rattle.intmap.specs.Signed.{offset}
use Rattle.encoding.specs.Encode.{run_column}
use Rattle.catalogue.specs.Records.{record_of}
use Rattle.catalogue.specs.declared.Record.{Record}
use Rattle.root_block.specs.Blocks.{page_of, first_of, IsBlock, HasBlocks}

-- the text has records, and bytes that are all 0 have a cell for each
pub record Indexable (t bs : List ℕ) : Type 0 where
  pub records : List CatalogueRecord
  pub reads : read_catalogue t ≡ Some records
  pub size : ℕ
  pub zeros : bs ≡ replicate size 0
  pub few : length records ≤ length (cells bs)
  pub some : 0 < length (cells bs)
  pub small : length (cells bs) ≤ 1048576

-- the bytes then hold the text's records
pub record Indexed (t entry exit : List ℕ) : Type 0 where
  pub says : (records : List CatalogueRecord) → read_catalogue t ≡ Some records → HasBlocks exit records
  pub bytes : length exit ≡ length entry

-- ---- the records

-- a cell is the run of a record's column
abbrev pub IsColumn : Record → Cell → Type 0
IsColumn r c = c ∷ [] ≡ run_column r.col (record_column (record_of r))

-- the cell of a record, with no link to a first
pub record Unlinked (c : Cell) (r : CatalogueRecord) : Type 0 where
  pub is : IsBlock c r
  pub first : first_of c ≡ 0

-- these records stand from the cell `at` on
abbrev pub StandFrom : List Cell → ℕ → List CatalogueRecord → Type 0
StandFrom cs at [] = Unit
StandFrom cs at (r ∷ rs) = IsBlock (get_or cs at blank) r × StandFrom cs (at + 1) rs

-- the text's n records stand in the first cells, and no bucket has a first
pub record Stand (t entry exit : List ℕ) (n : ℕ) : Type 0 where
  pub says : (records : List CatalogueRecord) → read_catalogue t ≡ Some records → StandFrom (cells exit) 0 records × (length records ≡ n)
  pub none : (b : ℕ) → first_of (get_or (cells exit) b blank) ≡ 0
  pub bytes : length exit ≡ length entry

-- ---- the links

abbrev pub with_next : ℕ → Cell → Cell
with_next link c = cell c.head (c.payload % 4294967296 + 4294967296 * link)

abbrev pub with_first : ℕ → Cell → Cell
with_first link c = cell (c.head % 1099511627776 + 1099511627776 * link) c.payload

-- the bucket of the record in cell i
abbrev pub bucket_at : List Cell → ℕ → ℕ
bucket_at cs i = (offset + page_of (get_or cs i blank)) % length cs

-- the record in cell i is linked to the bucket's first
abbrev pub follows : List Cell → ℕ → List Cell
follows cs i = set cs i (with_next (first_of (get_or cs (bucket_at cs i) blank)) (get_or cs i blank))

-- and is then the first
unfoldable pub linked : List Cell → ℕ → List Cell
linked cs i = set (follows cs i) (bucket_at cs i) (with_first (i + 1) (get_or (follows cs i) (bucket_at cs i) blank))

-- the records of the first n cells, the last first
unfoldable pub linked_all : List Cell → ℕ → List Cell
linked_all cs zero = cs
linked_all cs (suc n) = linked_all (linked cs n) n
