-- Rows whose handling gives less than all: those that fall through (`program_i += 1`) give the state that goes on; those that name the next row
-- themselves, but Jump, a branch and the state that goes on. What they give as what handling a row gives. Assumes nothing.
use Rattle.std.specs.Prelude.{Bool, false, ◌||◌, ◌&&◌, List, ℕ, eqb, ltb, None, Some, Ok, Err, Result}
use Rattle.refusal.specs.declared.Refusal.{Refusal}
use Rattle.area.specs.declared.Cell.{Cell}
use Rattle.opcode.specs.Opcode.{number}
use Rattle.opcode.specs.declared.Operation.{Operation}
use Rattle.rows.specs.Parts.{Parts}
use Rattle.state.specs.Steps.{Step}
use Rattle.state.specs.declared.MemoryState.{MemoryState}
use Rattle.explain.specs.declared.Handling.TheVariants as handling
use Rattle.explain.specs.Handles.{Handled, Handles}
use Rattle.explain.specs.Numbers.{as_handling}

-- no arm, or one that writes registers or uses a cursor
abbrev pub is_falling : Operation → Bool
is_falling o = eqb (number o) 0 || (ltb 15 (number o) && ltb (number o) 42)

-- the state that goes on, as a step
abbrev pub as_step : Result MemoryState Refusal → Step
as_step (Err e) = Err e
as_step (Ok s) = Ok (record { branch = None; stays = Some s })

-- and as what handling a row gives, with no repeat
abbrev pub alone : Result MemoryState Refusal → Handled
alone (Err e) = Err e
alone (Ok s) = Ok (handling.Ways (record { branch = None; stays = Some s }) false)

-- the row is handled so, the first time and again
pub record Falls (limit from n : ℕ) (cs ds : List Cell) (blocks : List ℕ) (s : MemoryState) (x : Parts) (r : Result MemoryState Refusal) : Type 0 where
  pub handles : (again : Bool) → Handles limit from n cs ds blocks s x again (alone r)

-- an arm that names the next row, with at most one branch: all but Jump
abbrev pub is_branching : Operation → Bool
is_branching o = (ltb 0 (number o) && ltb (number o) 13) || (ltb 13 (number o) && ltb (number o) 16)

-- IfPos alone counts a repeat, where the row is handled again
abbrev pub repeats : Operation → Bool → Bool
repeats o again = eqb (number o) 15 && again

-- the row is handled so, whatever the catalogue
pub record Branches (limit from n : ℕ) (cs ds : List Cell) (s : MemoryState) (x : Parts) (again : Bool) (r : Step) : Type 0 where
  pub handles : (blocks : List ℕ) → Handles limit from n cs ds blocks s x again (as_handling (repeats x.op again) r)
