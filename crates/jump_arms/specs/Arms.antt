-- What an arm asks for: the state's map with room behind it, and a state on one of the 2,048 rows that a listing has at most. And what the arms
-- have in common: a step after an access to the map, the row that InitCoroutine and Return name, whether a register is known to hold a number or
-- may be null and how it changes then, a store that stays within the map's room, If by what is known, and both ways by two accesses. Assumes
-- nothing.
use Rattle.refusal.specs.Numbers.{number_of}
use Rattle.refusal.specs.declared.Refusal.{Refusal}
use Rattle.intmap.specs.Store.{Stored}
use Rattle.std.specs.Prelude.{◌≡◌, Bool, true, false, List, [], ◌∷◌, ℕ, ◌+◌, ◌<◌, ◌≤◌, ℤ, Option, None, Some, Ok, Err, Result}
use Rattle.model.specs.Walk.{Tried, refused, done}
use Rattle.model.specs.Row.{Row as Listed}
use Rattle.model.specs.State.{RegDataType, MemoryState as Defined, to_not_null}
use Rattle.model.specs.Access.{◌>>=◌, go_to, next, read_register}
use Rattle.model.specs.Operation.{JumpOperation}
use Rattle.model.specs.Offer.{offers}
use Rattle.model.specs.JumpArms.{known_int, may_be_null, has_kind, to_default, if_arm}
use Rattle.area.specs.declared.Cell.{Cell}
use Rattle.intmap.specs.Map.{Frame}
use Rattle.intmap.specs.Signed.{offset, int_of}
use Rattle.intmap.specs.declared.IntMap.{IntMap}
use Rattle.rows.specs.Judged.{Judged}
use Rattle.rows.specs.declared.row.Row.{Row}
use Rattle.state.specs.Leads.{Current, HoldsMap, operands, Leads}
use Rattle.state.specs.Reads.{IsInt}
use Rattle.state.specs.Steps.{HoldsState, TellsStep, LeavesStep, Step, JumpArm}
use Rattle.state.specs.Stores.{cells_in}
use Rattle.state.specs.declared.MemoryState.{MemoryState}
use Rattle.state.specs.declared.Ways.{Ways}
use Rattle.state.specs.declared.store.Store.{Store}
use Rattle.jump_arms.specs.declared.Asked.{Asked}

pub record Ready (limit : ℕ) (cs : List Cell) (s : MemoryState) : Type 0 where
  pub current : Current limit cs s.map
  pub above : offset ≤ s.row
  pub below : s.row < offset + 2048

-- where InitCoroutine goes from a row
pub record InitTo (row p2 r : ℕ) : Type 0 where
  pub on : p2 ≡ offset → r ≡ row + 1
  pub there : (p2 ≡ offset → ⊥) → r ≡ p2

-- the row after one that a register told; the last word, which no known number is, stays as it is
pub record RowAfter (w r : ℕ) : Type 0 where
  pub next : w < 18446744073709551615 → r ≡ w + 1
  pub last : w ≡ 18446744073709551615 → r ≡ w

-- a state at a row
abbrev pub at : ℕ → IntMap → MemoryState
at w a = record { row = w; map = a }

-- what an arm asks for, of a store and the row that its state is on
abbrev pub ReadyStore : Store → ℕ → Type 0
ReadyStore store row = Ready store.limit (cells_in store) (at row store.map)

-- an arm that neither reads nor writes the area: what it answers is right wherever the state is held
abbrev pub StateArm : MemoryState → Row → JumpOperation → Step → Type 0
StateArm s x o r = (limit : ℕ) (cs : List Cell) → Ready limit cs s → JumpArm limit cs cs s x o r

-- the state goes on at a row; it is a branch there; and both
abbrev pub on_at : ℕ → IntMap → Ways
on_at w a = record { branch = None; stays = Some (at w a) }

abbrev pub branch_at : ℕ → IntMap → Ways
branch_at w a = record { branch = Some (at w a); stays = None }

abbrev pub both_at : MemoryState → ℕ → IntMap → Ways
both_at branch w a = record { branch = Some branch; stays = Some (at w a) }

-- the three after an access to the map
abbrev pub step_after : ℕ → Stored → Step
step_after w (Err n) = Err n
step_after w (Ok a) = Ok (on_at w a)

abbrev pub branch_after : ℕ → Stored → Step
branch_after w (Err n) = Err n
branch_after w (Ok a) = Ok (branch_at w a)

abbrev pub both_after : MemoryState → ℕ → Stored → Step
both_after branch w (Err n) = Err n
both_after branch w (Ok a) = Ok (both_at branch w a)

-- what is read is no known number
pub record IsUnknown (t : Tried (Option RegDataType)) : Type 0 where
  pub value : Option RegDataType
  pub answer : t ≡ done value
  pub is : known_int value ≡ None

-- the number that a register is known to hold, if it is, or why the index is refused
abbrev pub Known : Type 0
Known = Result (Option ℕ) Refusal

abbrev pub TellsKnown : ℕ → Known → Tried (Option RegDataType) → Type 0
TellsKnown bound (Err n) t = t ≡ refused (number_of n)
TellsKnown bound (Ok None) t = IsUnknown t
TellsKnown bound (Ok (Some w)) t = IsInt bound w t

pub record Knows (cs : List Cell) (a : IntMap) (i : ℕ) (r : Known) : Type 0 where
  pub says : (limit bound : ℕ) (m : Defined) → HoldsMap limit bound cs a m → TellsKnown bound r (read_register (int_of i) m)

-- an access that writes within the map's room alone
pub record Puts (limit : ℕ) (cs ds : List Cell) (a : IntMap) (r : Stored) (f : Defined → Tried Defined) : Type 0 where
  pub leads : Leads limit cs ds a r f
  pub frame : Frame cs ds a.base limit

-- a branch at P2 after one access, and the next row after another
pub record BothArm (limit : ℕ) (cs ds : List Cell) (s : MemoryState) (x : Row) (f g : Defined → Tried Defined) (r : Step) : Type 0 where
  pub says : (l : Listed) → Judged l x → (bound : ℕ) (m : Defined) → operands ≤ bound → HoldsState limit bound cs s m → TellsStep limit bound ds r (f (go_to l.p2 m) >>= λ branch. g (next m) >>= λ stays. offers (branch ∷ []) (Some stays))
  pub leaves : LeavesStep limit ds s r
  pub frame : Frame cs ds s.map.base (limit + limit)

-- what IsNull and NotNull ask of what is read: whether it may be null, and whether its kind is not Null
pub record IsAsked (b k : Bool) (t : Tried (Option RegDataType)) : Type 0 where
  pub value : Option RegDataType
  pub answer : t ≡ done value
  pub null : may_be_null value ≡ b
  pub kind : has_kind value ≡ k

abbrev pub TellsAsked : Result Asked Refusal → Tried (Option RegDataType) → Type 0
TellsAsked (Err n) t = t ≡ refused (number_of n)
TellsAsked (Ok q) t = IsAsked q.null q.kind t

pub record Asks (cs : List Cell) (a : IntMap) (i : ℕ) (r : Result Asked Refusal) : Type 0 where
  pub says : (limit bound : ℕ) (m : Defined) → HoldsMap limit bound cs a m → TellsAsked r (read_register (int_of i) m)

-- how the two change a register, by whether it is null from then on
abbrev pub changed : Bool → RegDataType → RegDataType
changed true = to_default
changed false = to_not_null

-- If, where a number is known or none is
pub record IfArm (limit : ℕ) (cs ds : List Cell) (s : MemoryState) (x : Row) (n : Option ℤ) (r : Step) : Type 0 where
  pub says : (l : Listed) → Judged l x → (bound : ℕ) (m : Defined) → operands ≤ bound → HoldsState limit bound cs s m → TellsStep limit bound ds r (if_arm limit l m n)
  pub leaves : LeavesStep limit ds s r
  pub frame : Frame cs ds s.map.base (limit + limit)
