-- What is claimed of the call: the top statement, over the bytes of a listing and a catalogue, the area's length and the answer buffer.
-- 01, "The call" and "What we will not take". `CallClaims` at the end gathers it; its proof is `call_claims` in proofs/CallTheorems.antt.
-- Assumes nothing.
use Rattle.std.specs.Prelude.{◌≡◌, ◌⊎◌, true, List, ◌++◌, ℕ, ◌≤◌, length, drop, Some, slice_get}
use Rattle.model.specs.Walk.{◌∈◌, done, Notes, answered, notes_of}
use Rattle.model.specs.Steps.{Result}
use Rattle.model.specs.WalkClaims.{Quiet, Limits, TakenUp, Coverage, Everywhere}
use Rattle.model.specs.Row.{Row}
use Rattle.model.specs.State.{MemoryState, fresh}
use Rattle.model.specs.Equality.{eq_state}
use Rattle.model.specs.Catalogue.{CatalogueRecord}
use Rattle.model.specs.Meaning.{standard}
use Rattle.model.specs.Explain.{row_of, ways}
use Rattle.model.specs.Good.{Good}
use Rattle.model.specs.Results.{ResultColumn, ResultRow, columns_of}
use Rattle.model.specs.Columns.{Says}
use Rattle.model.specs.Run.{gas_given, walk_listing}
use Rattle.model.specs.Answer.{answer_of}
use Rattle.model.specs.AnswerText.{print_answer}
use Rattle.model.specs.Call.{rows_of, records_of, area_fits, call}

-- the answer's columns, of a set of result rows
pub record ColumnsSay (X : ResultRow → Type 0) (columns : List ResultColumn) : Type 0 where
  -- as many as the widest row has, and none where there is no row
  pub wide : (r : ResultRow) → X r → length r.columns ≤ length columns
  pub widest : (length columns ≡ 0) ⊎ ((r : ResultRow) × X r × (length r.columns ≡ length columns))
  -- and what each says of the rows that have it
  pub each : (i : ℕ) (c : ResultColumn) → slice_get columns i ≡ Some c → Says X i c

module _ (rows : List Row) (records : List CatalogueRecord) where
  -- a list of allowed steps from the fresh start reaches this result row
  abbrev pub Reached : ResultRow → Type 0
  Reached r = Result (row_of rows) (ways (standard records) rows) fresh r

  -- of every walk, answered or refused: at most 100,000 charged, no row handled a fourth time along a lineage, every state within its limits
  pub record WalkClaims (n : Notes MemoryState ResultRow) : Type 0 where
    pub limits : Limits (row_of rows) (ways (standard records) rows) fresh gas_given n
    pub good : Everywhere (Good 512) n

  -- of every answered walk
  pub record AnswerClaims (n : Notes MemoryState ResultRow) : Type 0 where
    -- every branch that was remembered was taken up, each once
    pub taken_up : TakenUp eq_state fresh n
    -- the columns say what the counted rows say
    pub counted : ColumnsSay (λ r. r ∈ n.counted) (columns_of n.counted)
    -- with no stop and no repeat, the counted rows are exactly those that lists of allowed steps reach
    pub coverage : Quiet n → Coverage (row_of rows) (ways (standard records) rows) fresh n
    -- and so the columns say what those say
    pub reached : Quiet n → ColumnsSay Reached (columns_of n.counted)

module _ (listing catalogue : List ℕ) (area : ℕ) where
  -- the call comes to its walk, over these rows and records: none of the refusals up to 4 comes before
  pub record Walks (rows : List Row) (records : List CatalogueRecord) : Type 0 where
    pub listed : rows_of listing ≡ done rows
    pub catalogued : records_of catalogue ≡ done records
    pub fits : area_fits (standard records) rows area ≡ true

  module _ (answer : List ℕ) where
    -- the call is answered: its walk was, and the buffer holds the answer's text and behind it what it held
    pub record Answered : Type 0 where
      pub rows : List Row
      pub records : List CatalogueRecord
      pub walks : Walks rows records
      pub notes : Notes MemoryState ResultRow
      pub ends : walk_listing (standard records) rows area ≡ answered notes
      pub size : (call listing catalogue area answer).size ≡ length (print_answer (answer_of notes))
      pub room : length (print_answer (answer_of notes)) ≤ length answer
      pub bytes :
          (call listing catalogue area answer).answer ≡
          print_answer (answer_of notes) ++ drop (length (print_answer (answer_of notes))) answer
      pub claims : AnswerClaims rows records notes

    -- the call is refused: nothing is written
    pub record NothingWritten : Type 0 where
      pub size : (call listing catalogue area answer).size ≡ 0
      pub bytes : (call listing catalogue area answer).answer ≡ answer

    pub record CallClaims : Type 0 where
      -- 0, or a refusal from 1 to 12
      pub number : (call listing catalogue area answer).number ≤ 12
      pub refused : ((call listing catalogue area answer).number ≡ 0 → ⊥) → NothingWritten
      pub answered : (call listing catalogue area answer).number ≡ 0 → Answered
      -- of the walk, whether the call is answered or refused
      pub walk :
          (rows : List Row) (records : List CatalogueRecord) →
          Walks rows records →
          WalkClaims rows records (notes_of (walk_listing (standard records) rows area))
