-- A run put over another of as many cells, and the columns of a record over those of another record of as many, all of one cell each.
-- Assumes nothing.
use Rattle.std.specs.Prelude.{◌≡◌, Bool, true, false, List, ◌∷◌, ℕ, ◌+◌, ◌-◌, ◌<◌, length, get_or}
use Rattle.area.specs.Cells.{blank}
use Rattle.area.specs.declared.Cell.{Cell}
use Rattle.intmap.specs.Pack.{tag_of, key_of}
use Rattle.intmap.specs.Runs.{size}
use Rattle.intmap.specs.Entries.{span}
use Rattle.intmap.specs.Map.{levels, Frame}
use Rattle.intmap.specs.Change.{rekey}

-- none of the n cells from `at` on is a record's
pub record Plain (cs : List Cell) (at n : ℕ) : Type 0 where
  pub none : (j : ℕ) → j < n → tag_of (get_or cs (at + j) blank) ≡ 2 → ⊥

-- the answer is whether that is so
pub record ArePlain (cs : List Cell) (at n : ℕ) (r : Bool) : Type 0 where
  pub yes : r ≡ true → Plain cs at n
  pub no : r ≡ false → Plain cs at n → ⊥

-- the run stands in the place of the one at p, which had as many cells, and nothing else has changed
pub record Overlaid (cs ds : List Cell) (p : ℕ) (run : List Cell) : Type 0 where
  pub was : size cs levels p ≡ length run
  pub is : size ds levels p ≡ length run
  pub stands : span ds p (length run) ≡ run
  pub frame : Frame cs ds p (length run)

-- c, for the head of the column at `from`, and the column at `to` are records of as many columns, of one cell each
pub record Coverable (cs : List Cell) (from to : ℕ) (c : Cell) : Type 0 where
  pub new : tag_of c ≡ 2
  pub old : tag_of (get_or cs to blank) ≡ 2
  pub number : (get_or cs to blank).payload ≡ c.payload
  pub source : Plain cs (from + 1) c.payload
  pub target : Plain cs (to + 1) c.payload

-- then c and the columns of the record at `from` stand in the place of the record at `to`, under its key; else nothing has changed
pub record CopiesOver (cs ds : List Cell) (from to : ℕ) (c : Cell) (r : Bool) : Type 0 where
  pub flat : r ≡ true → (tag_of c ≡ 2) × Plain cs (from + 1) (size cs levels from - 1)
  pub yes : r ≡ true → Overlaid cs ds to (rekey (key_of (get_or cs to blank)) (c ∷ span cs (from + 1) (size cs levels from - 1)))
  pub none : r ≡ false → Coverable cs from to c → ⊥
  pub no : r ≡ false → ds ≡ cs
