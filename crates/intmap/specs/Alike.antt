-- A cell that is no record's, overwritten by another such with the same key: the entries stay where they are. Assumes nothing.
use Rattle.std.specs.Prelude.{◌≡◌, List, ℕ, length, get_or}
use Rattle.area.specs.Cells.{blank}
use Rattle.area.specs.declared.Cell.{Cell}
use Rattle.intmap.specs.Pack.{key_of}
use Rattle.intmap.specs.Runs.{size}

-- runs begin and end in ds where they do in cs, and have the same keys
pub record Alike (cs ds : List Cell) : Type 0 where
  pub long : length ds ≡ length cs
  pub sizes : (d p : ℕ) → size ds d p ≡ size cs d p
  pub keys : (p : ℕ) → key_of (get_or ds p blank) ≡ key_of (get_or cs p blank)
