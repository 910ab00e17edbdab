-- Cells copied from one place to another, which may overlap. Assumes nothing.
use Rattle.std.specs.Prelude.{List, ℕ, zero, suc, ◌+◌, get_or, set}
use Rattle.area.specs.Cells.{blank}
use Rattle.area.specs.declared.Cell.{Cell}

-- cs with the n cells from `to` on those that cs has from `from` on
unfoldable pub moved : List Cell → ℕ → ℕ → ℕ → List Cell
moved cs from to zero = cs
moved cs from to (suc n) = set (moved cs from to n) (to + n) (get_or cs (from + n) blank)
