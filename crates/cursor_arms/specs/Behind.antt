-- The run of a map's entry, with another nullable in its head, in the room behind the map: on its way to a store. Assumes nothing.
use Rattle.std.specs.Prelude.{◌≡◌, Bool, List, ℕ, ◌+◌, ◌≤◌, length, Option}
use Rattle.area.specs.declared.Cell.{Cell}
use Rattle.encoding.specs.Encode.{nullable_code}
use Rattle.intmap.specs.Change.{on_head}
use Rattle.intmap.specs.Entries.{span}
use Rattle.intmap.specs.Map.{levels, HasRoom, Frame}
use Rattle.intmap.specs.Pack.{with_nullable}
use Rattle.intmap.specs.Runs.{size, Agree}
use Rattle.intmap.specs.declared.IntMap.{IntMap}

-- n cells, of the entry at `at`; the map is as it was
pub record RunBehind (limit : ℕ) (cs ds : List Cell) (a : IntMap) (at : ℕ) (nullable : Option Bool) (n : ℕ) : Type 0 where
  pub run : span ds (a.base + limit) n ≡ on_head (with_nullable (nullable_code nullable)) (span cs at (size cs levels at))
  pub count : n ≡ size ds levels (a.base + limit)
  pub fits : a.base + limit + n ≤ length ds
  pub kept : Agree cs a.base ds a.base a.used
  pub room : HasRoom ds limit a
  pub frame : Frame cs ds (a.base + limit) limit
