-- A state in the area, and the ways that a row offers it: at most one branch, and the state that goes on, if one does. Assumes nothing.
use Rattle.state.specs.declared.Ways.{Ways}
use Rattle.refusal.specs.declared.Refusal.{Refusal}
use Rattle.refusal.specs.Numbers.{number_of}
use Rattle.std.specs.Prelude.{◌≡◌, List, [], ◌∷◌, ℕ, ◌+◌, ◌≤◌, Option, None, Some, Err, Result, Ok}
use Rattle.model.specs.Walk.{refused}
use Rattle.model.specs.Row.{Row as Listed}
use Rattle.model.specs.State.{MemoryState as Defined}
use Rattle.model.specs.Operation.{JumpOperation}
use Rattle.model.specs.Offer.{Offer, offers}
use Rattle.model.specs.JumpArms.{jump_arm}
use Rattle.area.specs.declared.Cell.{Cell}
use Rattle.intmap.specs.Map.{HasRoom, Frame}
use Rattle.intmap.specs.Signed.{int_of}
use Rattle.rows.specs.Judged.{Judged}
use Rattle.rows.specs.declared.row.Row.{Row}
use Rattle.state.specs.Leads.{HoldsMap, operands}
use Rattle.state.specs.declared.MemoryState.{MemoryState}

-- "the area holds this state"
pub record HoldsState (limit bound : ℕ) (cs : List Cell) (s : MemoryState) (m : Defined) : Type 0 where
  pub row : int_of s.row ≡ m.program_i
  pub map : HoldsMap limit bound cs s.map m

-- a way that the definition offers, and the state that the area holds for it
pub record Held (limit bound : ℕ) (cs : List Cell) (s : MemoryState) (ms : Option Defined) : Type 0 where
  pub state : Defined
  pub is : ms ≡ Some state
  pub held : HoldsState limit bound cs s state

-- a way that a row offers, or none
abbrev pub Way : Type 0
Way = Option MemoryState

-- what handling a row gives: why it is refused, or its ways
abbrev pub Step : Type 0
Step = Result Ways Refusal

abbrev pub offered : Way → Way → Step
offered b s = Ok (record { branch = b; stays = s })

abbrev pub TellsWay : ℕ → ℕ → List Cell → Way → Option Defined → Type 0
TellsWay limit bound cs None m = m ≡ None
TellsWay limit bound cs (Some s) m = Held limit bound cs s m

abbrev pub branch_of : Option Defined → List Defined
branch_of None = []
branch_of (Some m) = m ∷ []

pub record Offered (limit bound : ℕ) (cs : List Cell) (branch stays : Way) (o : Offer) : Type 0 where
  pub the_branch : Option Defined
  pub the_state : Option Defined
  pub answer : o ≡ offers (branch_of the_branch) the_state
  pub branches : TellsWay limit bound cs branch the_branch
  pub goes_on : TellsWay limit bound cs stays the_state

abbrev pub TellsStep : ℕ → ℕ → List Cell → Step → Offer → Type 0
TellsStep limit bound cs (Err n) o = o ≡ refused (number_of n)
TellsStep limit bound cs (Ok w) o = Offered limit bound cs w.branch w.stays o

-- the state that goes on lies where the state was
abbrev pub StaysAt : ℕ → List Cell → ℕ → Way → Type 0
StaysAt limit ds base None = Unit {0}
StaysAt limit ds base (Some t) = (t.map.base ≡ base) × HasRoom ds limit t.map

-- a branch lies no further than at the room behind it
pub record Lies (limit : ℕ) (ds : List Cell) (base : ℕ) (t : MemoryState) : Type 0 where
  pub above : base ≤ t.map.base
  pub below : t.map.base ≤ base + limit
  pub room : HasRoom ds limit t.map

abbrev pub LiesAt : ℕ → List Cell → ℕ → Way → Type 0
LiesAt limit ds base None = Unit {0}
LiesAt limit ds base (Some t) = Lies limit ds base t

abbrev pub LeavesStep : ℕ → List Cell → MemoryState → Step → Type 0
LeavesStep limit ds s (Err n) = Unit {0}
LeavesStep limit ds s (Ok w) = LiesAt limit ds s.map.base w.branch × StaysAt limit ds s.map.base w.stays

-- no arm of these makes a known number larger than `bound`
pub record JumpArm (limit : ℕ) (cs ds : List Cell) (s : MemoryState) (x : Row) (o : JumpOperation) (r : Step) : Type 0 where
  pub says : (rows : List Listed) (l : Listed) → Judged l x → (bound : ℕ) (m : Defined) → operands ≤ bound → HoldsState limit bound cs s m → TellsStep limit bound ds r (jump_arm limit rows l m o)
  pub leaves : LeavesStep limit ds s r
  pub frame : Frame cs ds s.map.base (limit + limit)
