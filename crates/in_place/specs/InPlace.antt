-- What a row that is handled where its cells stand leads to: the answer of its arm, with the map as it was, or nothing has changed. The state is
-- given by its row and where its map begins and ends, the judged row by its operation and operands. Assumes nothing.
use Rattle.std.specs.Prelude.{◌≡◌, Bool, true, false, List, ℕ, ◌+◌, ◌<◌, ◌≤◌, get_or, Ok, Some, None, Option}
use Rattle.model.specs.Operation.{JumpOperation, RegisterOperation, CursorOperation, jumps, registers}
use Rattle.area.specs.Cells.{blank}
use Rattle.area.specs.declared.Cell.{Cell}
use Rattle.intmap.specs.Map.{HasRoom}
use Rattle.intmap.specs.Signed.{offset}
use Rattle.intmap.specs.declared.IntMap.{IntMap}
use Rattle.opcode.specs.Opcode.{arm_of}
use Rattle.opcode.specs.declared.Operation.{Operation}
use Rattle.rows.specs.Rows.{parts}
use Rattle.rows.specs.declared.row.Row.{Row}
use Rattle.state.specs.Leads.{Current}
use Rattle.state.specs.Own.{StoresCell}
use Rattle.state.specs.Arms.{RegisterArm, CursorArm}
use Rattle.state.specs.Steps.{JumpArm, offered}
use Rattle.state.specs.declared.MemoryState.{MemoryState}
use Rattle.cursor_arms.specs.StandsFor.{FindsCursor}
use Rattle.column_arms.specs.Columns.{DirectAt}
use Rattle.jump_arms.specs.Arms.{Ready, at}
use Rattle.explain.specs.Handles.{Handles}
use Rattle.explain.specs.declared.Handling.TheVariants as handling

-- the operands of a judged row
pub record Operands (x : Row) (i j k : ℕ) : Type 0 where
  pub first : x.p1 ≡ i
  pub second : x.p2 ≡ j
  pub third : x.p3 ≡ k

-- an arm that writes registers was met, or nothing has changed
pub record ArmNear (cs ds : List Cell) (base end i j k : ℕ) (o : RegisterOperation) (r : Bool) : Type 0 where
  pub yes : r ≡ true → (x : Row) → Operands x i j k → (a : IntMap) → a.base ≡ base → a.base + a.used ≡ end → (limit : ℕ) → Current limit cs a → RegisterArm limit cs ds a x o (Ok a)
  pub no : r ≡ false → ds ≡ cs

-- the one of the operation that is meant
pub record RegisterNear (cs ds : List Cell) (base end : ℕ) (op : Operation) (i j k : ℕ) (r : Bool) : Type 0 where
  pub arm : RegisterOperation
  pub is : r ≡ true → arm_of op ≡ registers arm
  pub near : ArmNear cs ds base end i j k arm r

-- where the head of cursor i's columns is, in any map from `base` on and before `end`, or nothing
pub record TableNear (cs : List Cell) (base end i : ℕ) (r : Option ℕ) : Type 0 where
  pub low : (p : ℕ) → r ≡ Some p → base ≤ p
  pub inside : (p : ℕ) → r ≡ Some p → p < end
  pub is : (p : ℕ) → r ≡ Some p → (a : IntMap) → a.base ≡ base → a.base + a.used ≡ end → (limit : ℕ) → Current limit cs a → FindsCursor cs a i (Ok (Some p))

-- the column of a key, which stands at its distance from the head at p, was stored over register j's own cell
pub record ColumnStored (limit : ℕ) (cs ds : List Cell) (a : IntMap) (p key j : ℕ) : Type 0 where
  pub cell : Cell
  pub there : cell ≡ get_or cs (p + 1 + key) blank
  pub direct : DirectAt cs a p (get_or cs p blank).payload key
  pub stored : StoresCell limit cs ds a 0 j cell (Ok a)

-- it was, in any such map; or nothing has changed
pub record ColumnNear (cs ds : List Cell) (base end p key j : ℕ) (r : Bool) : Type 0 where
  pub yes : r ≡ true → (a : IntMap) → a.base ≡ base → a.base + a.used ≡ end → (limit : ℕ) → HasRoom cs limit a → ColumnStored limit cs ds a p key j
  pub no : r ≡ false → ds ≡ cs

-- an arm that uses a cursor was met, on whatever row it stands, or nothing has changed
pub record CursorNear (cs ds : List Cell) (base end i j k : ℕ) (o : CursorOperation) (r : Bool) : Type 0 where
  pub yes : r ≡ true → (x : Row) → Operands x i j k → (a : IntMap) → a.base ≡ base → a.base + a.used ≡ end → (limit : ℕ) → Current limit cs a → (row : ℕ) → CursorArm limit cs ds a row x o (Ok a)
  pub no : r ≡ false → ds ≡ cs

-- the row, if it is one of the listing's n
pub record WithinListing (row n : ℕ) (r : Option ℕ) : Type 0 where
  pub yes : (w : ℕ) → r ≡ Some w → (w ≡ row) × (offset ≤ w) × (w < offset + n)
  pub no : r ≡ None → offset ≤ row → row < offset + n → ⊥

-- a state on a row, with a map from `base` on and before `end`
pub record StandsAt (s : MemoryState) (row base end : ℕ) : Type 0 where
  pub on : s.row ≡ row
  pub from : s.map.base ≡ base
  pub to : s.map.base + s.map.used ≡ end

-- some state that stands so is ready for some row of this operation and these operands
pub record ReadyAt (cs : List Cell) (row base end : ℕ) (op : Operation) (i j k : ℕ) : Type 0 where
  pub limit : ℕ
  pub state : MemoryState
  pub judged : Row
  pub ready : Ready limit cs state
  pub operation : judged.op ≡ op
  pub operands : Operands judged i j k
  pub stands : StandsAt state row base end

-- of every state and row that stand for these, the step is that the state goes on at r
pub record GoesOn (cs ds : List Cell) (row base end i j k r : ℕ) (o : JumpOperation) : Type 0 where
  pub arm : (limit : ℕ) (s : MemoryState) (x : Row) → Ready limit cs s → Operands x i j k → StandsAt s row base end → JumpArm limit cs ds s x o (offered None (Some (at r s.map)))

-- it is that of the operation that is meant, and the row is one of the listing's n; or nothing has changed
pub record JumpNear (cs ds : List Cell) (row base end : ℕ) (op : Operation) (i j k n : ℕ) (r : Option ℕ) : Type 0 where
  pub arm : JumpOperation
  pub is : (w : ℕ) → r ≡ Some w → arm_of op ≡ jumps arm
  pub within : (w : ℕ) → r ≡ Some w → (offset ≤ w) × (w < offset + n)
  pub goes : (w : ℕ) → r ≡ Some w → GoesOn cs ds row base end i j k w arm
  pub no : r ≡ None → ds ≡ cs

-- of every state and row that stand for these, handling gives the state at that row, one of the listing's n; or nothing has changed
pub record HandlesNear (cs ds : List Cell) (row base end : ℕ) (op : Operation) (i j k n : ℕ) (r : Option ℕ) : Type 0 where
  pub within : (w : ℕ) → r ≡ Some w → (offset ≤ w) × (w < offset + n)
  pub yes : (w : ℕ) → r ≡ Some w → (limit : ℕ) (s : MemoryState) (x : Row) → Ready limit cs s → x.op ≡ op → Operands x i j k → StandsAt s row base end → (first size : ℕ) (blocks : List ℕ) (again : Bool) → Handles limit first size cs ds blocks s (parts x) again (Ok (handling.Ways (record { branch = None; stays = Some (at w s.map) }) false))
  pub no : r ≡ None → ds ≡ cs
