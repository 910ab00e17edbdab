-- The bytes of the area as cells of two words, 16 bytes each; what lies past the last whole cell is in no cell. Assumes nothing.
use Rattle.std.specs.Prelude.{◌≡◌, List, ℕ, ◌+◌, ◌*◌, ◌/◌, ◌<◌, ◌≤◌, length, get_or}
use Rattle.area.specs.Words.{tabulate, words}
use Rattle.area.specs.declared.Cell.{Cell}

abbrev pub cell : ℕ → ℕ → Cell
cell h p = record { head = h; payload = p }

abbrev pub blank : Cell
blank = cell 0 0

-- the cell of the words at 2 i and 2 i + 1
abbrev pub cell_of : List ℕ → ℕ → Cell
cell_of ws i = cell (get_or ws (i * 2) 0) (get_or ws (i * 2 + 1) 0)

unfoldable pub cells : List ℕ → List Cell
cells xs = tabulate (length (words xs) / 2) (cell_of (words xs))

-- there are n cells from i on, in an area of at most 16 MiB
pub record Inside (xs : List ℕ) (i n : ℕ) : Type 0 where
  pub within : i + n ≤ length (cells xs)
  pub small : length (cells xs) ≤ 1048576

-- there is a word at i, in such an area
pub record WordInside (xs : List ℕ) (i : ℕ) : Type 0 where
  pub within : i < length (words xs)
  pub small : length (cells xs) ≤ 1048576

-- a store of cells: cs are the cells now, no byte past them is another, and nothing grew or shrank
pub record CellsNow (entry exit : List ℕ) (cs : List Cell) : Type 0 where
  pub same : length (cells exit) ≡ length (cells entry)
  pub bytes : length exit ≡ length entry
  pub rest : (j : ℕ) → length (cells entry) * 16 ≤ j → get_or exit j 0 ≡ get_or entry j 0
  pub cells : cells exit ≡ cs
