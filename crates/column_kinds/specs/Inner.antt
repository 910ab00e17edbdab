-- What the parts of the call say. Assumes nothing.
use Rattle.refusal.specs.Numbers.{number_of}
use Rattle.refusal.specs.declared.Refusal.{Refusal}
use Rattle.std.specs.Prelude.{◌≡◌, Bool, true, ◌&&◌, List, [], ℕ, ◌+◌, ◌*◌, ◌/◌, ◌<◌, ◌≤◌, leb, length, Some, Result, Ok, Err}
use Rattle.model.specs.Walk.{Notes, Walked, refused_with, answered}
use Rattle.model.specs.Row.{Row as Listed}
use Rattle.model.specs.State.{MemoryState as Defined}
use Rattle.model.specs.Results.{ResultRow, columns_of}
use Rattle.model.specs.Catalogue.{CatalogueRecord}
use Rattle.model.specs.CatalogueText.{read_catalogue}
use Rattle.root_block.specs.Blocks.{HasBlocks}
use Rattle.model.specs.Meaning.{standard}
use Rattle.model.specs.Run.{walk_listing}
use Rattle.model.specs.Access.{◌>>=◌}
use Rattle.model.specs.Answer.{outcome_of}
use Rattle.model.specs.Call.{print_into, leave, call}
use Rattle.area.specs.Cells.{cells}
use Rattle.area.specs.Counts.{count}
use Rattle.rows.specs.Judged.{HaveRows}
use Rattle.merge.specs.Columns.{HasColumns}
use Rattle.merge.specs.declared.columns.Columns.{Columns}
use Rattle.answer.specs.Text.{called_of}
use Rattle.walk.specs.Walks.{Counts, Few}
use Rattle.walk.specs.declared.Walk.{Walk}

-- an area of so many bytes serves so many rows: not refusal 4
abbrev pub serves : ℕ → ℕ → Bool
serves bytes rows = leb (16 * (2 * 512 + 2 * rows)) bytes && leb bytes 16777216

-- room for rows and their counts behind two rooms of 512 cells: for as many as the area serves
pub record RowRoom (bytes r : ℕ) : Type 0 where
  pub inside : 0 < r → (1024 + r + r ≤ bytes / 16) × (bytes ≤ 16777216)
  pub most : (n : ℕ) → serves bytes n ≡ true → n ≤ r

-- the rows of a listing are in the area behind two rooms of 512 cells, the counts of n rows behind them are zero, and there are no columns
pub record Prepared (blocks xs : List ℕ) (cols : Columns 2000) (n : ℕ) : Type 0 where
  pub rows : List Listed
  pub records : List CatalogueRecord
  pub listed : HaveRows (cells xs) 1024 rows
  pub size : length rows ≡ n
  pub has : HasBlocks blocks records
  pub few : n ≤ 2048
  pub fits : 1024 + n + n ≤ length (cells xs)
  pub small : length (cells xs) ≤ 1048576
  pub zero : (i : ℕ) → i < n → count xs (1024 + n) i ≡ 0
  pub columns : HasColumns cols.bytes cols.width []

-- a walk is refused, or answered with these counts and columns
pub record WalkRefused (k : ℕ) (w : Walked Defined ResultRow) : Type 0 where
  pub notes : Notes Defined ResultRow
  pub is : w ≡ refused_with k notes

pub record WalkAnswered (cols : Columns 2000) (e : Walk) (w : Walked Defined ResultRow) : Type 0 where
  pub notes : Notes Defined ResultRow
  pub is : w ≡ answered notes
  pub counts : Counts e notes
  pub columns : HasColumns cols.bytes cols.width (columns_of notes.counted)
  pub few : Few e

abbrev pub TellsWalk : Columns 2000 → Result Walk Refusal → Walked Defined ResultRow → Type 0
TellsWalk cols (Err e) x = WalkRefused (number_of e) x
TellsWalk cols (Ok w) x = WalkAnswered cols w x

pub record WalksRows (blocks xs ys : List ℕ) (dols : Columns 2000) (n : ℕ) (r : Result Walk Refusal) : Type 0 where
  pub says : (rows : List Listed) (records : List CatalogueRecord) → HaveRows (cells xs) 1024 rows → length rows ≡ n → HasBlocks blocks records → TellsWalk dols r (walk_listing (standard records) rows (length xs))
  pub bytes : length ys ≡ length xs

-- the call, but for the area that is left
pub record CallsInner (listing catalogue area area_then answer answer_then : List ℕ) (r : Result ℕ Refusal) : Type 0 where
  pub is : called_of answer_then r ≡ call listing catalogue (length area) answer
  pub bytes : length area_then ≡ length area

-- the numbers of a walk that ended can be printed
abbrev pub Writable : Result Walk Refusal → Type 0
Writable (Err k) = Unit {0}
Writable (Ok w) = Few w

-- what is left of a buffer: of the walk, the definition's
pub record WritesWalk (cols : Columns 2000) (x : Result Walk Refusal) (answer answer_then : List ℕ) (r : Result ℕ Refusal) : Type 0 where
  pub says : (w : Walked Defined ResultRow) → TellsWalk cols x w → called_of answer_then r ≡ leave answer (outcome_of w >>= λ a. print_into (length answer) a)

-- n rows of a listing in an area that serves them
pub record MayWalk (area : List ℕ) (n : ℕ) : Type 0 where
  pub rows : List Listed
  pub listed : HaveRows (cells area) 1024 rows
  pub size : length rows ≡ n
  pub few : n ≤ 2048
  pub fits : serves (length area) n ≡ true

-- a catalogue of n records
pub record Catalogued (catalogue : List ℕ) (n : ℕ) : Type 0 where
  pub records : List CatalogueRecord
  pub read : read_catalogue catalogue ≡ Some records
  pub size : length records ≡ n
  pub few : n ≤ 4096

-- the answer of the walk over any rows that are in the area
pub record AnswersRows (catalogue area area_then answer answer_then : List ℕ) (n : ℕ) (r : Result ℕ Refusal) : Type 0 where
  pub says : (rows : List Listed) (records : List CatalogueRecord) → HaveRows (cells area) 1024 rows → length rows ≡ n → read_catalogue catalogue ≡ Some records → called_of answer_then r ≡ leave answer (outcome_of (walk_listing (standard records) rows (length area)) >>= λ a. print_into (length answer) a)
  pub bytes : length area_then ≡ length area
