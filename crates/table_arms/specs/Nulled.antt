-- Plain columns that may be null now, where they stand. Assumes nothing.
use Rattle.std.specs.Prelude.{◌≡◌, List, ℕ, ◌+◌, ◌<◌, length, get_or, set}
use Rattle.area.specs.Cells.{blank, cells as cells_of}
use Rattle.area.specs.declared.Cell.{Cell}
use Rattle.intmap.specs.Pack.{nullable_of}
use Rattle.encoding.specs.Heads.{single_nullable, on_heads}

-- the one in the cell at p
pub record NulledCell (entry exit : List ℕ) (p : ℕ) : Type 0 where
  pub bytes : length exit ≡ length entry
  pub cells : cells_of exit ≡ set (cells_of entry) p (single_nullable 2 (get_or (cells_of entry) p blank))

-- each of the n cells from p on may be null
abbrev pub AreNullable : List Cell → ℕ → ℕ → Type 0
AreNullable cs p n = (j : ℕ) → j < n → nullable_of (get_or cs (p + j) blank) ≡ 2

-- of the n columns from p on
pub record Nulled (cs ds : List Cell) (n p : ℕ) : Type 0 where
  pub cells : ds ≡ on_heads (single_nullable 2) 8 cs n p
