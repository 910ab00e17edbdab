-- What ResultRow is judged to: a refusal of the definition's arm, or the registers that are the row's columns in every state, and the arm's
-- offer then. Assumes nothing.
use Rattle.refusal.specs.Numbers.{number_of}
use Rattle.refusal.specs.declared.Refusal.{Refusal}
use Rattle.std.specs.Prelude.{◌≡◌, false, [], ◌∷◌, ℕ, ◌≤◌, None, Some, Ok, Err, Result}
use Rattle.model.specs.Walk.{refused, done}
use Rattle.model.specs.Row.{Row as Listed}
use Rattle.model.specs.State.{MemoryState}
use Rattle.model.specs.Access.{next, read_columns}
use Rattle.model.specs.Results.{result_columns}
use Rattle.model.specs.Offer.{Offer, turns}
use Rattle.model.specs.ResultArm.{result_row_arm}
use Rattle.rows.specs.Judged.{Judged}
use Rattle.rows.specs.declared.row.Row.{Row}
use Rattle.record_arms.specs.Records.{columns_from}
use Rattle.state.specs.declared.registers.Registers.{Registers}

-- the row's columns are the n registers from `first` on, and the next row is the branch
pub record Offers (row : ℕ) (l : Listed) (m : MemoryState) (first n : ℕ) (o : Offer) : Type 0 where
  pub width : n ≡ turns l.p2
  pub read : read_columns (turns l.p2) l.p1 m ≡ done (columns_from n first m)
  pub answer : o ≡ done (record { branches = next m ∷ []; stays = None; result = Some (record { row = row; columns = result_columns (columns_from n first m) }); repeat = false })

-- a result row, judged: why it is refused, or its registers
abbrev pub Columns : Type 0
Columns = Result Registers Refusal

abbrev pub TellsRow : ℕ → Listed → MemoryState → Columns → Offer → Type 0
TellsRow row l m (Err e) o = o ≡ refused (number_of e)
TellsRow row l m (Ok r) o = Offers row l m r.first r.count o

-- no more than a row may have
abbrev pub Narrow : Columns → Type 0
Narrow (Err e) = Unit {0}
Narrow (Ok r) = r.count ≤ 2000

pub record JudgesRow (x : Row) (r : Columns) : Type 0 where
  pub says : (row : ℕ) (l : Listed) → Judged l x → (m : MemoryState) → TellsRow row l m r (result_row_arm row l m)
  pub narrow : Narrow r
