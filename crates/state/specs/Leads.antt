-- What an access to the state in the area leads to, in the definition's words: the same refusal, or a map that holds the definition's state.
-- The map lies in a room of `limit` cells, and behind it is as much for what is on its way to a store. Assumes nothing.
use Rattle.refusal.specs.Numbers.{number_of}
use Rattle.intmap.specs.Store.{Stored}
use Rattle.std.specs.Prelude.{◌≡◌, List, ℕ, ◌+◌, ◌≤◌, length, Ok, Err}
use Rattle.model.specs.Walk.{Tried, refused}
use Rattle.model.specs.State.{MemoryState}
use Rattle.area.specs.declared.Cell.{Cell}
use Rattle.intmap.specs.Map.{IsMap, HasRoom, Frame}
use Rattle.intmap.specs.declared.IntMap.{IntMap}
use Rattle.encoding.specs.Holds.{largest, Holds, HeldNext}

abbrev pub HoldsMap : ℕ → ℕ → List Cell → IntMap → MemoryState → Type 0
HoldsMap limit bound cs a m = Holds limit bound cs a.base a.len a.used m

-- known numbers are at most `bound`, and operands are
abbrev pub operands : ℕ
operands = 2147483648

-- what is asked of whoever reads a state: some state is held
pub record Held (cs : List Cell) (a : IntMap) : Type 0 where
  pub map : IsMap cs a
  pub limit : ℕ
  pub bound : ℕ
  pub large : operands ≤ bound
  pub fits : bound + 1 ≤ largest
  pub state : MemoryState
  pub holds : HoldsMap limit bound cs a state

-- and of whoever changes it: within this limit, with the room
pub record Current (limit : ℕ) (cs : List Cell) (a : IntMap) : Type 0 where
  pub room : HasRoom cs limit a
  pub scratch : a.base + limit + limit ≤ length cs
  pub bound : ℕ
  pub large : operands ≤ bound
  pub fits : bound + 1 ≤ largest
  pub state : MemoryState
  pub holds : HoldsMap limit bound cs a state

-- the same of whoever is not told the limit
pub record SomeCurrent (cs : List Cell) (a : IntMap) : Type 0 where
  pub limit : ℕ
  pub current : Current limit cs a

-- the answer is the definition's answer t
abbrev pub Tells : ℕ → ℕ → List Cell → Stored → Tried MemoryState → Type 0
Tells limit bound ds (Err n) t = t ≡ refused (number_of n)
Tells limit bound ds (Ok a) t = HeldNext limit bound ds a.base a.len a.used t

-- a map is left where it was
pub record Stays (limit : ℕ) (ds : List Cell) (a b : IntMap) : Type 0 where
  pub base : b.base ≡ a.base
  pub room : HasRoom ds limit b

abbrev pub Leaves : ℕ → List Cell → IntMap → Stored → Type 0
Leaves limit ds a (Err n) = Unit {0}
Leaves limit ds a (Ok b) = Stays limit ds a b

-- of every state that the map holds, the answer is what f gives; nothing else in the area changes but the room and the one behind it
pub record Leads (limit : ℕ) (cs ds : List Cell) (a : IntMap) (r : Stored) (f : MemoryState → Tried MemoryState) : Type 0 where
  pub says : (bound : ℕ) (m : MemoryState) → operands ≤ bound → HoldsMap limit bound cs a m → Tells limit bound ds r (f m)
  pub leaves : Leaves limit ds a r
  pub frame : Frame cs ds a.base (limit + limit)
