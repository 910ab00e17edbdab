-- Counts: numbers of one byte, sixteen in a cell, from a cell on. Assumes nothing.
use Rattle.std.specs.Prelude.{◌≡◌, List, ℕ, ◌+◌, ◌*◌, ◌/◌, ◌<◌, ◌≤◌, length, get_or, set}
use Rattle.area.specs.Cells.{blank, cells, Inside}

-- where the byte of the count i lies, of those that begin at the cell `from`
abbrev pub place : ℕ → ℕ → ℕ
place from i = from * 16 + i

unfoldable pub count : List ℕ → ℕ → ℕ → ℕ
count xs from i = get_or xs (place from i) 0

-- the cell that the count lies in
abbrev pub home : ℕ → ℕ → ℕ
home from i = from + i / 16

-- a count that can be one more
pub record Raisable (xs : List ℕ) (from i : ℕ) : Type 0 where
  pub inside : Inside xs (home from i) 1
  pub below : count xs from i < 255

-- a count made one more: its byte alone is another, and its cell alone
pub record Raised (entry exit : List ℕ) (from i : ℕ) : Type 0 where
  pub counted : count exit from i ≡ count entry from i + 1
  pub others : (j : ℕ) → (j ≡ i → ⊥) → count exit from j ≡ count entry from j
  pub stored : exit ≡ set entry (place from i) (count entry from i + 1)
  pub elsewhere : (j : ℕ) → (j ≡ home from i → ⊥) → get_or (cells exit) j blank ≡ get_or (cells entry) j blank
  pub same : length (cells exit) ≡ length (cells entry)
  pub bytes : length exit ≡ length entry

-- there are n counts from the cell `from` on
pub record HasCounts (xs : List ℕ) (from n : ℕ) : Type 0 where
  pub within : place from n ≤ length xs

-- the first n counts are 0, and no other byte is another, nor a cell before them
pub record CountsCleared (entry exit : List ℕ) (from n : ℕ) : Type 0 where
  pub zero : (i : ℕ) → i < n → count exit from i ≡ 0
  pub before : (k : ℕ) → k < place from 0 → get_or exit k 0 ≡ get_or entry k 0
  pub behind : (k : ℕ) → place from n ≤ k → get_or exit k 0 ≡ get_or entry k 0
  pub below : (j : ℕ) → j < from → get_or (cells exit) j blank ≡ get_or (cells entry) j blank
  pub same : length (cells exit) ≡ length (cells entry)
  pub bytes : length exit ≡ length entry
