-- The answer's text of columns that are given as bytes (merge's `Columns`), and what the writer leaves. 01, "The call": bytes past the answer's
-- length, and all of them on a refusal, keep what they held. Assumes nothing.
use Rattle.std.specs.Prelude.{◌≡◌, ℕ, ◌/◌, ◌%◌, ◌≤◌, length, get_or, None, Result, Ok, Err}
use mathlib.Core.List.{List, [], ◌∷◌, flatten, map}
use Rattle.refusal.specs.Numbers.{number_of}
use Rattle.refusal.specs.declared.Refusal.{Refusal}
use Rattle.type_info.specs.Ascii.{ascii}
use Rattle.type_info.specs.declared.DataType.TheVariants.{Null}
use Rattle.model.specs.Results.{ResultColumn}
use Rattle.model.specs.Answer.{Answer}
use Rattle.model.specs.Numbers.{print_natural}
use Rattle.model.specs.Fields.{print_field, print_items}
use Rattle.model.specs.AnswerText.{most_counted, print_column}
use Rattle.model.specs.Call.{Called, print_into, leave}
use Rattle.encoding.specs.Decode.{datatypes, nullables}
use Rattle.merge.specs.Columns.{HasColumns}
use Rattle.counters.specs.declared.Counters.{Counters}

-- the column that a byte stands for
abbrev pub column_in : ℕ → ResultColumn
column_in b = record { datatype = get_or datatypes (b / 4) Null; nullable = get_or nullables (b % 4) None }

-- the lines of the columns from the k-th on
unfoldable pub columns_text : ℕ → List ℕ → List ℕ
columns_text k bytes = print_items print_column k (map column_in bytes)

-- the first five lines
unfoldable pub head_text : ℕ → Counters → List ℕ
head_text width counts = flatten (
    print_field (ascii "columns=") (print_natural width)
    ∷ print_field (ascii "charged=") (print_natural counts.charged)
    ∷ print_field (ascii "loopstops=") (print_natural counts.loopstops)
    ∷ print_field (ascii "gasstops=") (print_natural counts.gasstops)
    ∷ print_field (ascii "repeats=") (print_natural counts.repeats)
    ∷ [])

abbrev pub answer_with : Counters → List ResultColumn → Answer
answer_with counts columns =
    record { charged = counts.charged; loopstops = counts.loopstops; gasstops = counts.gasstops; repeats = counts.repeats; columns = columns }

-- what the writer asks of the numbers
pub record Small (width : ℕ) (counts : Counters) : Type 0 where
  pub width_small : width ≤ 2000
  pub charged_small : counts.charged ≤ most_counted
  pub loopstops_small : counts.loopstops ≤ most_counted
  pub gasstops_small : counts.gasstops ≤ most_counted
  pub repeats_small : counts.repeats ≤ most_counted

-- the writer's answer, and the buffer then, as what a call leaves
abbrev pub called_of : List ℕ → Result ℕ Refusal → Called
called_of exit (Err refusal) = record { number = number_of refusal; size = 0; answer = exit }
called_of exit (Ok n) = record { number = 0; size = n; answer = exit }

pub record Leaves (a : Answer) (entry exit : List ℕ) (r : Result ℕ Refusal) : Type 0 where
  pub is : called_of exit r ≡ leave entry (print_into (length entry) a)

-- what the bytes say, whatever they are; so, where they stand for columns, the answer of these columns
pub record Writes (bytes : List ℕ) (counts : Counters) (entry exit : List ℕ) (r : Result ℕ Refusal) : Type 0 where
  pub whole : Leaves (answer_with counts (map column_in bytes)) entry exit r
  pub says : (columns : List ResultColumn) → HasColumns bytes (length bytes) columns → Leaves (answer_with counts columns) entry exit r
