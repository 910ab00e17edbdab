-- A state's map in the area as one value, lent: what is asked of it, and what a change of it gives, said of the limit, the cells before and
-- after, and the map. Assumes nothing.
use Rattle.std.specs.Prelude.{◌≡◌, List, ℕ, ◌+◌, ◌≤◌, length, Ok, Err, Result}
use Rattle.refusal.specs.declared.Refusal.{Refusal}
use Rattle.area.specs.Cells.{cells}
use Rattle.area.specs.declared.Cell.{Cell}
use Rattle.intmap.specs.Map.{levels}
use Rattle.intmap.specs.Runs.{size}
use Rattle.intmap.specs.Store.{Stored}
use Rattle.intmap.specs.declared.IntMap.{IntMap}
use Rattle.state.specs.Leads.{Held, Current}
use Rattle.state.specs.declared.store.Store.{Store}

abbrev pub cells_in : Store → List Cell
cells_in s = cells s.area.now

abbrev pub IsHeld : Store → Type 0
IsHeld s = Held (cells_in s) s.map

abbrev pub IsCurrent : Store → Type 0
IsCurrent s = Current s.limit (cells_in s) s.map

-- the column at `at` lies in the map with all its cells. It is of cells that are lent, so no ghost field can hold it
abbrev pub HasRun : Store → ℕ → Type 0
HasRun s at = (s.map.base ≤ at) × (at + size (cells_in s) levels at ≤ s.map.base + s.map.used)

-- the same buffer, as long as before, and the same limit
pub record SameStore (s t : Store) : Type 0 where
  pub buffer : t.area.ghost_name ≡ s.area.ghost_name
  pub length : length t.area.now ≡ length s.area.now
  pub limit : t.limit ≡ s.limit

-- the same behind what may be refused, and then the same map
pub record LeavesStore {A : Type 0} (s t : Store) (r : Result A Refusal) : Type 0 where
  pub same : SameStore s t
  pub kept : (e : Refusal) → r ≡ Err e → t.map ≡ s.map

-- why a change was refused, or the map then
abbrev pub stored_in : Store → Result (Unit {0}) Refusal → Stored
stored_in t (Err e) = Err e
stored_in t (Ok u) = Ok t.map

-- a change that may be refused; the map stays then
pub record Changes (P : ℕ → List Cell → List Cell → IntMap → Stored → Type 0) (s t : Store) (r : Result (Unit {0}) Refusal) : Type 0 where
  pub same : SameStore s t
  pub kept : (e : Refusal) → r ≡ Err e → t.map ≡ s.map
  pub is : P s.limit (cells_in s) (cells_in t) s.map (stored_in t r)

-- a change of cells that leaves the map
pub record Writes (P : List Cell → List Cell → IntMap → Type 0) (s t : Store) : Type 0 where
  pub same : SameStore s t
  pub map : t.map ≡ s.map
  pub is : P (cells_in s) (cells_in t) s.map
