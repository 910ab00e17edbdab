-- What the reader of rows answers and leaves in the area, in the terms of model's ListingText and Call. Assumes nothing.
use Rattle.std.specs.Prelude.{◌≡◌, Bool, true, false, List, ℕ, ◌+◌, ◌<◌, ◌≤◌, ltb, length, get_or, set, Option, None, Some, Result}
use Rattle.refusal.specs.declared.Refusal.{Refusal}
use Rattle.model.specs.Row.{Row as Listed}
use Rattle.model.specs.Walk.{done}
use Rattle.model.specs.ListingText.{take_row}
use Rattle.model.specs.Call.{rows_of}
use Rattle.area.specs.Cells.{blank, cells, Inside, CellsNow}
use Rattle.area.specs.declared.Cell.{Cell}
use Rattle.rows.specs.Rows.{parts, cell_of, IsWritten}
use Rattle.rows.specs.Judged.{Judged, HaveRows}
use Rattle.rows.specs.declared.row.Row.{Row}
use Rattle.text.specs.Reads.{Reads}
use Rattle.text.specs.Counts.{length_of, counted_as}

-- a row of the definition, and what it was judged to be
pub record RowJudged (k : ℕ) (t rest : List ℕ) (r : Row) : Type 0 where
  pub given : Listed
  pub reads : Reads (take_row k) t rest (Some given)
  pub judged : Judged given r

abbrev pub ReadsRow : ℕ → List ℕ → List ℕ → Option Row → Type 0
ReadsRow k t rest (Some r) = RowJudged k t rest r
ReadsRow k t rest None = Reads (take_row k) t rest None

-- the cells that rows may be laid down in; where there are none, nothing is asked of the area
pub record Room (area : List ℕ) (from room : ℕ) : Type 0 where
  pub inside : 0 < room → Inside area from room

abbrev pub set_if : Bool → List Cell → ℕ → Cell → List Cell
set_if true cs i c = set cs i c
set_if false cs i c = cs

-- row k was laid down if there was room for it
abbrev pub PutWhere : List ℕ → List ℕ → ℕ → ℕ → ℕ → Row → Type 0
PutWhere entry exit from room k r = CellsNow entry exit (set_if (ltb k room) (cells entry) (from + k) (cell_of (parts r)))

-- The whole listing: how many rows there are, or the refusal; they are in their cells where there was room for all, and no other cell changed.
pub record Loaded (listing entry exit : List ℕ) (from room : ℕ) (r : Result ℕ Refusal) : Type 0 where
  pub count : counted_as r ≡ length_of (rows_of listing)
  pub rows : (xs : List Listed) → rows_of listing ≡ done xs → length xs ≤ room → HaveRows (cells exit) from xs
  pub written : (xs : List Listed) → rows_of listing ≡ done xs → length xs ≤ room → (i : ℕ) → i < length xs → IsWritten (get_or (cells exit) (from + i) blank)
  pub below : (j : ℕ) → j < from → get_or (cells exit) j blank ≡ get_or (cells entry) j blank
  pub above : (j : ℕ) → from + room ≤ j → get_or (cells exit) j blank ≡ get_or (cells entry) j blank
  pub bytes : length exit ≡ length entry
