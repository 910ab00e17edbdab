-- The contract of IfPos, the arm that tells whether its row is handled again and counts a register down, so that a known number may become one
-- larger in size. And a number stored where the map's bound allows it, the word before another, and a number forgotten. Assumes nothing.
use Rattle.refusal.specs.Numbers.{number_of}
use Rattle.intmap.specs.Store.{Stored}
use Rattle.std.specs.Prelude.{◌≡◌, Bool, true, false, List, ℕ, ◌+◌, ◌-◌, ◌<◌, ◌≤◌, ℤ, Option, None, Ok, Err, Some}
use Rattle.type_info.specs.declared.DataType.TheVariants.{Integer}
use Rattle.model.specs.Walk.{Tried, refused, done}
use Rattle.model.specs.Row.{Row as Listed}
use Rattle.model.specs.State.{Int, MemoryState as Defined, never_null}
use Rattle.model.specs.Access.{store_register}
use Rattle.model.specs.Offer.{Offer}
use Rattle.model.specs.IfPosArm.{if_pos_arm}
use Rattle.area.specs.declared.Cell.{Cell}
use Rattle.intmap.specs.Map.{Frame}
use Rattle.intmap.specs.Signed.{int_of, Small}
use Rattle.intmap.specs.declared.IntMap.{IntMap}
use Rattle.encoding.specs.Holds.{largest}
use Rattle.rows.specs.Judged.{Judged}
use Rattle.rows.specs.declared.row.Row.{Row}
use Rattle.state.specs.Leads.{HoldsMap, Tells, Leaves, operands}
use Rattle.state.specs.Steps.{HoldsState, TellsWay, branch_of, LeavesStep, Way, Step}
use Rattle.state.specs.declared.MemoryState.{MemoryState}
use Rattle.jump_arms.specs.Arms.{Knows}

-- as `Offered`, of a row that counts a repeat or does not
pub record OfferedAs (again : Bool) (limit bound : ℕ) (cs : List Cell) (branch stays : Way) (o : Offer) : Type 0 where
  pub the_branch : Option Defined
  pub the_state : Option Defined
  pub answer : o ≡ done (record { branches = branch_of the_branch; stays = the_state; result = None; repeat = again })
  pub branches : TellsWay limit bound cs branch the_branch
  pub goes_on : TellsWay limit bound cs stays the_state

abbrev pub TellsAs : Bool → ℕ → ℕ → List Cell → Step → Offer → Type 0
TellsAs again limit bound cs (Err n) o = o ≡ refused (number_of n)
TellsAs again limit bound cs (Ok w) o = OfferedAs again limit bound cs w.branch w.stays o

-- the numbers of the states that are held are at most `bound`, and one more after the arm
pub record IfPosArm (limit : ℕ) (cs ds : List Cell) (s : MemoryState) (x : Row) (again : Bool) (r : Step) : Type 0 where
  pub says : (l : Listed) → Judged l x → (bound : ℕ) (m : Defined) → operands ≤ bound → bound + 1 ≤ largest → HoldsState limit bound cs s m → TellsAs again limit (bound + 1) ds r (if_pos_arm again l m)
  pub leaves : LeavesStep limit ds s r
  pub frame : Frame cs ds s.map.base (limit + limit)

-- register i is known to hold the number of the word w
abbrev pub KnowsInt : List Cell → IntMap → ℕ → ℕ → Type 0
KnowsInt cs a i w = Knows cs a i (Ok (Some w))

-- the number of the word w is stored in register i, within the map's room alone
pub record PutsInt (limit : ℕ) (cs ds : List Cell) (a : IntMap) (i w : ℕ) (r : Stored) : Type 0 where
  pub says : (bound : ℕ) (m : Defined) → Small bound (int_of w) → HoldsMap limit bound cs a m → Tells limit bound ds r (store_register limit (int_of i) (Int (int_of w)) m)
  pub leaves : Leaves limit ds a r
  pub frame : Frame cs ds a.base limit

pub record WordBefore (w r : ℕ) : Type 0 where
  pub is : 0 < w → r ≡ w - 1

-- a register becomes an unknown Integer, where a test says so
abbrev pub forget_if : Bool → ℕ → ℤ → Defined → Tried Defined
forget_if true limit i m = store_register limit i (never_null Integer) m
forget_if false limit i m = done m
