-- The call: what it gives for any listing, catalogue, area length and answer buffer. 01, "The call" and "Walk, refusals in order".
-- Of the work area only the length counts: what it holds at entry does not matter. Assumes nothing.
use Rattle.std.specs.Prelude.{Bool, true, false, ◌&&◌, List, ◌++◌, ℕ, ◌+◌, ◌*◌, leb, length, drop, Option, None, Some}
use Rattle.model.specs.Walk.{Tried, refused, done}
use Rattle.model.specs.Row.{Row}
use Rattle.model.specs.Access.{◌>>=◌}
use Rattle.model.specs.Catalogue.{CatalogueRecord}
use Rattle.model.specs.Meaning.{Meaning, standard}
use Rattle.model.specs.Run.{walk_listing}
use Rattle.model.specs.Answer.{Answer, outcome_of}
use Rattle.model.specs.ListingText.{read_listing}
use Rattle.model.specs.CatalogueText.{read_catalogue}
use Rattle.model.specs.AnswerText.{print_answer}

-- a refusal where nothing was read
abbrev pub or_refused : {A : Type 0} → ℕ → Option A → Tried A
or_refused k None = refused k
or_refused k (Some a) = done a

-- a refusal where a test fails
abbrev pub done_if : {A : Type 0} → ℕ → Bool → A → Tried A
done_if k true a = done a
done_if k false a = refused k

-- "1 listing ill-formed. 3 more than 2,048 rows."
unfoldable pub rows_of : List ℕ → Tried (List Row)
rows_of listing = or_refused 1 (read_listing listing) >>= λ rows. done_if 3 (leb (length rows) 2048) rows

-- "2 catalogue ill-formed. 3 more than 4,096 records."
unfoldable pub records_of : List ℕ → Tried (List CatalogueRecord)
records_of catalogue = or_refused 2 (read_catalogue catalogue) >>= λ records. done_if 3 (leb (length records) 4096) records

-- not "4 area under 16 × (1,024 + 2 × rows) bytes or over 16,777,216"; 1,024 is twice the limit of cells
unfoldable pub area_fits : Meaning → List Row → ℕ → Bool
area_fits meaning rows area = leb (16 * (2 * meaning.cell_limit + 2 * length rows)) area && leb area 16777216

-- "Last, 5: the answer is longer than its buffer"
unfoldable pub print_into : ℕ → Answer → Tried (List ℕ)
print_into room a = done_if 5 (leb (length (print_answer a)) room) (print_answer a)

-- the answer's bytes, for a buffer of this length, or the first refusal met
unfoldable pub outcome : List ℕ → List ℕ → ℕ → ℕ → Tried (List ℕ)
outcome listing catalogue area room =
    rows_of listing >>= λ rows.
    records_of catalogue >>= λ records.
    done_if 4 (area_fits (standard records) rows area) rows >>= λ _.
    outcome_of (walk_listing (standard records) rows area) >>= λ a.
    print_into room a

-- what a call leaves
pub record Called : Type 0 where
  -- 0 or a refusal
  pub number : ℕ
  -- the answer's length, 0 when refused
  pub size : ℕ
  -- the answer buffer
  pub answer : List ℕ

-- "Answer bytes past the length, and all of them on a refusal, keep what they held"
unfoldable pub leave : List ℕ → Tried (List ℕ) → Called
leave answer (refused k) = record { number = k; size = 0; answer = answer }
leave answer (done text) = record { number = 0; size = length text; answer = text ++ drop (length text) answer }

unfoldable pub call : List ℕ → List ℕ → ℕ → List ℕ → Called
call listing catalogue area answer = leave answer (outcome listing catalogue area (length answer))
