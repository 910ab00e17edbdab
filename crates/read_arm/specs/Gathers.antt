-- OpenRead and OpenWrite: the columns that the catalogue's records have for a row's database and page, gathered in the area as runs in the order
-- of their numbers, and the arm. P3 is the database and P2 the page. The records are in the blocks' bytes. Assumes nothing.
use Rattle.refusal.specs.declared.Refusal.TheVariants.{TooManyCells}
use Rattle.intmap.specs.Store.{Stored}
use Rattle.std.specs.Prelude.{◌≡◌, Bool, ◌&&◌, ◌||◌, List, ℕ, ◌+◌, ◌<◌, ◌≤◌, ℤ, pos, Ok, Err}
use Rattle.model.specs.Row.{Row as Listed}
use Rattle.model.specs.State.{Columns, MemoryState}
use Rattle.model.specs.Equality.{eq_int, is_zero_int}
use Rattle.model.specs.Cells.{columns_cells}
use Rattle.model.specs.Catalogue.{CatalogueRecord, columns_at}
use Rattle.model.specs.Meaning.{Meaning}
use Rattle.model.specs.Operation.{op_open_read}
use Rattle.model.specs.CursorArms.{columns_if, cursor_arm}
use Rattle.area.specs.declared.Cell.{Cell}
use Rattle.intmap.specs.Map.{runs_at, HasRoom, Frame}
use Rattle.intmap.specs.Signed.{int_of}
use Rattle.intmap.specs.declared.IntMap.{IntMap}
use Rattle.encoding.specs.Encode.{column_runs}
use Rattle.rows.specs.Judged.{Judged}
use Rattle.rows.specs.declared.row.Row.{Row}
use Rattle.state.specs.Leads.{HoldsMap, operands, Tells, Leaves}
use Rattle.state.specs.Arms.{Standard}
use Rattle.root_block.specs.Blocks.{page_of, db_of, HasBlocks}

-- the record in a cell is one for the row
abbrev pub block_for : Cell → Row → Bool
block_for c x = eq_int (pos (db_of c)) (int_of x.p3) && eq_int (pos (page_of c)) (int_of x.p2)

-- the columns of the row's database and page, and none if P3 is no database
abbrev pub at_page : Row → List CatalogueRecord → Columns
at_page x records = columns_at records (int_of x.p3) (int_of x.p2)

abbrev pub at_database : Row → List CatalogueRecord → Columns
at_database x records = columns_if (is_zero_int (int_of x.p3) || eq_int (int_of x.p3) (pos 1)) (at_page x records)

-- the map holds the columns that f makes of the records in the bytes t
pub record Gathered (limit : ℕ) (ds : List Cell) (base : ℕ) (t : List ℕ) (f : List CatalogueRecord → Columns) (m : IntMap) : Type 0 where
  pub runs : (records : List CatalogueRecord) → HasBlocks t records → runs_at ds m ≡ column_runs (f records)
  pub place : m.base ≡ base
  pub room : HasRoom ds limit m

-- or they are more than `limit` cells
abbrev pub GathersTo : ℕ → List Cell → ℕ → List ℕ → (List CatalogueRecord → Columns) → Stored → Type 0
GathersTo limit ds base t f (Err e) = (e ≡ TooManyCells) × ((records : List CatalogueRecord) → HasBlocks t records → limit < columns_cells (f records))
GathersTo limit ds base t f (Ok m) = Gathered limit ds base t f m

pub record Gathers (limit : ℕ) (cs ds : List Cell) (base : ℕ) (t : List ℕ) (f : List CatalogueRecord → Columns) (r : Stored) : Type 0 where
  pub answer : GathersTo limit ds base t f r
  pub frame : Frame cs ds base limit

-- for every meaning whose columns are those of the records, the answer is what the definition's arm gives
pub record ReadsTable (limit : ℕ) (cs ds : List Cell) (a : IntMap) (t : List ℕ) (row : ℕ) (x : Row) (r : Stored) : Type 0 where
  pub says : (meaning : Meaning) (records : List CatalogueRecord) (l : Listed) → Standard limit meaning → HasBlocks t records → ((db page : ℤ) → meaning.columns_for db page ≡ columns_at records db page) → Judged l x → (bound : ℕ) (m : MemoryState) → operands ≤ bound → HoldsMap limit bound cs a m → Tells limit bound ds r (cursor_arm meaning row l m op_open_read)
  pub leaves : Leaves limit ds a r
  pub frame : Frame cs ds a.base (limit + limit)
