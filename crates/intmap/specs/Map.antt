-- A map of the area, `IntMap` of intmap.rs: where its entries begin, how many they are and how many cells they take.
-- 01, "Shapes that change": "present entries in order at fixed places in the area". Assumes nothing.
use Rattle.std.specs.Prelude.{◌≡◌, List, Bool, true, false, ℕ, ◌+◌, ◌<◌, ◌≤◌, length, get_or}
use Rattle.area.specs.Cells.{blank}
use Rattle.area.specs.declared.Cell.{Cell}
use Rattle.intmap.specs.Runs.{size, sizes, Agree}
use Rattle.intmap.specs.Entries.{Runs, entries}
use Rattle.intmap.specs.declared.IntMap.{IntMap}

-- a register's records nest at most 8 deep, and a table is a record of such
abbrev pub levels : ℕ
levels = 9

-- a map with no entries
abbrev pub empty : ℕ → IntMap
empty base = record { base = base; len = 0; used = 0 }

-- the entries
abbrev pub runs_at : List Cell → IntMap → Runs
runs_at cs m = entries cs levels m.len m.base

-- the entries lie within the area
pub record IsMap (cs : List Cell) (m : IntMap) : Type 0 where
  pub used : m.used ≡ sizes (size cs levels) m.len m.base
  pub inside : m.base + m.used ≤ length cs
  pub small : length cs ≤ 1048576

-- they may grow to `limit` cells
pub record HasRoom (cs : List Cell) (limit : ℕ) (m : IntMap) : Type 0 where
  pub used : m.used ≡ sizes (size cs levels) m.len m.base
  pub most : m.used ≤ limit
  pub room : m.base + limit ≤ length cs
  pub small : length cs ≤ 1048576

-- what lies outside the n cells from `base` on is as it was
pub record Frame (cs ds : List Cell) (base n : ℕ) : Type 0 where
  pub long : length ds ≡ length cs
  pub below : (j : ℕ) → j < base → get_or ds j blank ≡ get_or cs j blank
  pub above : (j : ℕ) → base + n ≤ j → get_or ds j blank ≡ get_or cs j blank

-- the answer is whether the n cells from a on are those from b on
pub record SameCells (cs : List Cell) (a b n : ℕ) (r : Bool) : Type 0 where
  pub yes : r ≡ true → Agree cs a cs b n
  pub no : r ≡ false → Agree cs a cs b n → ⊥

-- the answer is whether the entries of two maps are the same. 01, "The walk": "States are equal when their present entries are equal"
pub record Compares (cs : List Cell) (a b : IntMap) (r : Bool) : Type 0 where
  pub sound : r ≡ true → runs_at cs a ≡ runs_at cs b
  pub complete : runs_at cs a ≡ runs_at cs b → r ≡ true

-- the same entries stand at `to`, and nothing else has changed
pub record CopiedMap (cs ds : List Cell) (m : IntMap) (to : ℕ) (r : IntMap) : Type 0 where
  pub map : r ≡ record { base = to; len = m.len; used = m.used }
  pub runs : runs_at ds r ≡ runs_at cs m
  pub is : IsMap ds r
  pub frame : Frame cs ds to m.used
