-- Both ways of a state, by two changes of it: one behind the map, and one where it was. Assumes nothing.
use Rattle.std.specs.Prelude.{◌≡◌, ℕ, ◌+◌, Err, Ok, Result}
use Rattle.refusal.specs.declared.Refusal.{Refusal}
use Rattle.intmap.specs.Map.{HasRoom, Frame, CopiedMap}
use Rattle.intmap.specs.declared.IntMap.{IntMap}
use Rattle.state.specs.Steps.{Step}
use Rattle.state.specs.Stores.{cells_in, IsHeld, SameStore, stored_in}
use Rattle.state.specs.declared.store.Store.{Store}
use Rattle.jump_arms.specs.Arms.{at, both_after}

-- what a change may answer, of the store before and after
abbrev pub Change : Type 1
Change = Store → Result (Unit {0}) Refusal → Store → Type 0

-- a state is held, and its map has its room
abbrev pub HeldWithRoom : Store → Type 0
HeldWithRoom s = HasRoom (cells_in s) s.limit s.map × IsHeld s

-- nothing is written but in that room
abbrev pub StaysWithin : Store → Store → Type 0
StaysWithin s t = SameStore s t × Frame (cells_in s) (cells_in t) s.map.base s.limit

-- the map of s goes on as its copy in the room behind it
pub record Behind (s t : Store) : Type 0 where
  pub same : SameStore s t
  pub copied : CopiedMap (cells_in s) (cells_in t) s.map (s.map.base + s.limit) t.map

-- a store that goes on at another map
abbrev pub at_map : IntMap → Store → Store
at_map a s = record { map = a; area = s.area; limit = s.limit }

-- after the first change left u, at the map from before: why it was refused, or both ways, by the second
abbrev pub Second : Change → IntMap → ℕ → ℕ → Store → Store → Result (Unit {0}) Refusal → Step → Type 0
Second G a row p2 u t (Err e) r = (t ≡ at_map a u) × (r ≡ Err e)
Second G a row p2 u t (Ok v) r = (q : Result (Unit {0}) Refusal) × G (at_map a u) q t × (r ≡ both_after (at p2 u.map) (row + 1) (stored_in t q))

pub record BothWays (F G : Change) (s t : Store) (row p2 : ℕ) (r : Step) : Type 0 where
  pub there : Store
  pub behind : Behind s there
  pub first : Result (Unit {0}) Refusal
  pub left : Store
  pub changed : F there first left
  pub second : Second G s.map row p2 left t first r
