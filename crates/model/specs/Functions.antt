-- P4's texts: what Function's texts give, the prefixes that AggStep, AggValue and AggFinal know, and refusal 10.
-- From explain.rs, the arms OP_FUNCTION, OP_AGG_STEP | OP_AGG_VALUE and OP_AGG_FINAL. Assumes nothing.
use Rattle.std.specs.Prelude.{Bool, true, false, not, List, [], ◌∷◌, ℕ, ℤ, Option, Some}
use Rattle.type_info.specs.declared.DataType.{DataType}
use Rattle.type_info.specs.declared.DataType.TheVariants.{Null, Integer, Float, Text, Blob, Numeric, Bool as Boolean, Int4, Date, Time, Datetime}
use Rattle.type_info.specs.Ascii.{equals, starts_with}
use Rattle.type_info.specs.Utf8.{is_utf8}
use Rattle.model.specs.Walk.{Tried, refused, done}
use Rattle.model.specs.State.{ColumnType, Single}
use Rattle.model.specs.Equality.{is_zero_int}
use Rattle.model.specs.TextTable.{Named, ◌is◌, first_for, or_else}

abbrev pub text_if : Bool → List ℕ → Tried (List ℕ)
text_if true p4 = done p4
text_if false p4 = refused 10

-- `from_utf8`: "10 P4 not UTF-8"
unfoldable pub text_of : List ℕ → Tried (List ℕ)
text_of p4 = text_if (is_utf8 p4) p4

-- when a function's value may be null; `by_p2`: exactly when P2 is not 0
pub data MayBeNull : Type 0 where
  never always by_p2 : MayBeNull

pub record FunctionValue : Type 0 where
  pub datatype : DataType
  pub nullable : MayBeNull

abbrev pub gives : DataType → MayBeNull → FunctionValue
gives d n = record { datatype = d; nullable = n }

abbrev pub is_nullable : MayBeNull → ℤ → Bool
is_nullable never p2 = false
is_nullable always p2 = true
is_nullable by_p2 p2 = not (is_zero_int p2)

-- the column that a function's value makes
abbrev pub value_column : FunctionValue → ℤ → ColumnType
value_column f p2 = Single f.datatype (Some (is_nullable f.nullable p2))

-- the seven texts that are built in
unfoldable pub built_in : List (Named FunctionValue)
built_in =
    "last_insert_rowid(0)" is gives Integer never
    ∷ "date(-1)" is gives Text by_p2
    ∷ "time(-1)" is gives Text by_p2
    ∷ "datetime(-1)" is gives Text by_p2
    ∷ "strftime(-1)" is gives Text by_p2
    ∷ "julianday(-1)" is gives Float by_p2
    ∷ "unixepoch(-1)" is gives Integer by_p2
    ∷ []

unfoldable pub function_in : List (Named FunctionValue) → List ℕ → Option FunctionValue
function_in table text = first_for equals text table

-- what an aggregate gives: an integer, a real, a sum, another row's value, or its operand
pub data Aggregate : Type 0 where
  to_integer to_real to_sum to_other_row to_operand : Aggregate

unfoldable pub prefixes : List (Named Aggregate)
prefixes =
    "count(" is to_integer
    ∷ "row_number(" is to_integer
    ∷ "rank(" is to_integer
    ∷ "dense_rank(" is to_integer
    ∷ "ntile(" is to_integer
    ∷ "percent_rank(" is to_real
    ∷ "cume_dist" is to_real
    ∷ "sum(" is to_sum
    ∷ "lead(" is to_other_row
    ∷ "lag(" is to_other_row
    ∷ []

unfoldable pub aggregate_of : List ℕ → Aggregate
aggregate_of text = or_else to_operand (first_for starts_with text prefixes)

-- the kind of a sum
abbrev pub sum_datatype : DataType → DataType
sum_datatype Null = Float
sum_datatype Integer = Integer
sum_datatype Float = Float
sum_datatype Text = Float
sum_datatype Blob = Float
sum_datatype Numeric = Float
sum_datatype Boolean = Integer
sum_datatype Int4 = Integer
sum_datatype Date = Float
sum_datatype Time = Float
sum_datatype Datetime = Float
