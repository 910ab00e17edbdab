-- The answer's text. 01, "Sample runs": the lines of ★A in their order; columns is the number of columns, then the four counts,
-- then for each column its number from 0, a DataType variant's name, and whether it may be blank: `yes`, `no` or `unknown`.
-- 02, S-13: at most 2,000 columns and any counts from 0 to 4,294,967,295. Assumes nothing.
use Rattle.std.specs.Prelude.{Bool, true, false, ℕ, ◌≤◌, length, Option, None, Some}
use mathlib.Core.List.{List, [], ◌∷◌, flatten}
use Rattle.type_info.specs.Ascii.{ascii}
use Rattle.type_info.specs.Names.{name_of}
use Rattle.type_info.specs.declared.DataType.{DataType}
use Rattle.type_info.specs.declared.DataType.TheVariants as kind
use Rattle.model.specs.Results.{ResultColumn}
use Rattle.model.specs.Answer.{Answer}
use Rattle.model.specs.Reader.{Reader, ◌>>=◌, ◌>>◌, give, read_name, whole}
use Rattle.model.specs.Numbers.{print_natural, read_up_to, read_index}
use Rattle.model.specs.Fields.{take_field, print_field, take_items, print_items}

-- a count is at most this
abbrev pub most_counted : ℕ
most_counted = 4294967295

pub record ValidAnswer (a : Answer) : Type 0 where
  pub columns_few : length a.columns ≤ 2000
  pub charged_small : a.charged ≤ most_counted
  pub loopstops_small : a.loopstops ≤ most_counted
  pub gasstops_small : a.gasstops ≤ most_counted
  pub repeats_small : a.repeats ≤ most_counted

unfoldable pub print_nullable : Option Bool → List ℕ
print_nullable (Some true) = ascii "yes"
print_nullable (Some false) = ascii "no"
print_nullable None = ascii "unknown"

unfoldable pub print_column : ℕ → ResultColumn → List ℕ
print_column k c = flatten (
    print_field (ascii "col=") (print_natural k)
    ∷ print_field (ascii "type=") (name_of c.datatype)
    ∷ print_field (ascii "null=") (print_nullable c.nullable)
    ∷ [])

unfoldable pub print_answer : Answer → List ℕ
print_answer a = flatten (
    print_field (ascii "columns=") (print_natural (length a.columns))
    ∷ print_field (ascii "charged=") (print_natural a.charged)
    ∷ print_field (ascii "loopstops=") (print_natural a.loopstops)
    ∷ print_field (ascii "gasstops=") (print_natural a.gasstops)
    ∷ print_field (ascii "repeats=") (print_natural a.repeats)
    ∷ print_items print_column 0 a.columns
    ∷ [])

unfoldable pub data_types : List DataType
data_types = kind.Null ∷ kind.Integer ∷ kind.Float ∷ kind.Text ∷ kind.Blob ∷ kind.Numeric ∷ kind.Bool ∷ kind.Int4 ∷ kind.Date ∷ kind.Time ∷ kind.Datetime ∷ []

unfoldable pub read_data_type : List ℕ → Option DataType
read_data_type = read_name name_of data_types

unfoldable pub read_nullable : List ℕ → Option (Option Bool)
read_nullable = read_name print_nullable (Some true ∷ Some false ∷ None ∷ [])

unfoldable pub take_column : ℕ → Reader ResultColumn
take_column k = do
  take_field (ascii "col=") (read_index k)
  datatype ← take_field (ascii "type=") read_data_type
  nullable ← take_field (ascii "null=") read_nullable
  give (record { datatype = datatype; nullable = nullable })

-- the answer that stands first
unfoldable pub take_answer : Reader Answer
take_answer = do
  width ← take_field (ascii "columns=") (read_up_to 2000)
  charged ← take_field (ascii "charged=") (read_up_to most_counted)
  loopstops ← take_field (ascii "loopstops=") (read_up_to most_counted)
  gasstops ← take_field (ascii "gasstops=") (read_up_to most_counted)
  repeats ← take_field (ascii "repeats=") (read_up_to most_counted)
  columns ← take_items take_column width 0
  give (record { charged = charged; loopstops = loopstops; gasstops = gasstops; repeats = repeats; columns = columns })

unfoldable pub read_answer : List ℕ → Option Answer
read_answer t = whole take_answer t
