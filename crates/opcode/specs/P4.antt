-- What a P4 says to the arms that read it: the value of a Function's text, and what an aggregate's text gives. The texts are those of model's
-- Functions. Assumes nothing.
use Rattle.std.specs.Prelude.{◌≡◌, true, false, List, [], ◌∷◌, ℕ, get_or, Option, None, Some, Result, MatchResult}
use Rattle.type_info.specs.declared.DataType.TheVariants.{Integer, Float, Text}
use Rattle.type_info.specs.Utf8.{is_utf8}
use Rattle.model.specs.Functions.{FunctionValue as Value, gives, never, by_p2, built_in, function_in, Aggregate as Given, to_integer, to_real, to_sum, to_other_row, to_operand, aggregate_of}
use Rattle.opcode.specs.declared.FunctionValue.{FunctionValue}
use Rattle.opcode.specs.declared.FunctionValue.TheVariants as function
use Rattle.opcode.specs.declared.Aggregate.{Aggregate}
use Rattle.opcode.specs.declared.Aggregate.TheVariants as aggregate
use Rattle.opcode.specs.declared.P4.{P4}
use Rattle.opcode.specs.declared.UnknownNumber.{UnknownNumber}

-- one of the four that built-in texts have, or none
abbrev pub value_of : FunctionValue → Value
value_of function.Rowid = gives Integer never
value_of function.Text = gives Text by_p2
value_of function.Days = gives Float by_p2
value_of function.Seconds = gives Integer by_p2

abbrev pub values_of : Option FunctionValue → Option Value
values_of None = None
values_of (Some f) = Some (value_of f)

abbrev pub given_by : Aggregate → Given
given_by aggregate.Operand = to_operand
given_by aggregate.Integer = to_integer
given_by aggregate.Real = to_real
given_by aggregate.Sum = to_sum
given_by aggregate.OtherRow = to_other_row

abbrev pub IsFunction : Option Value → Option FunctionValue → Type 0
IsFunction v f = values_of f ≡ v

abbrev pub IsAggregate : Given → Aggregate → Type 0
IsAggregate v a = given_by a ≡ v

pub record JudgedText (x : P4) (p4 : List ℕ) : Type 0 where
  pub is_text : is_utf8 p4 ≡ true
  pub the_function : IsFunction (function_in built_in p4) x.function
  pub the_aggregate : IsAggregate (aggregate_of p4) x.aggregate

abbrev pub Judges : Option P4 → List ℕ → Type 0
Judges None p4 = is_utf8 p4 ≡ false
Judges (Some x) p4 = JudgedText x p4

-- what a number in a cell is read as: a function's value if it is one's
abbrev pub function_at : ℕ → Option FunctionValue
function_at n = get_or (None ∷ Some function.Rowid ∷ Some function.Text ∷ Some function.Days ∷ Some function.Seconds ∷ []) n None

-- the same of an aggregate
abbrev pub aggregate_at : ℕ → Aggregate
aggregate_at n = get_or (aggregate.Operand ∷ aggregate.Integer ∷ aggregate.Real ∷ aggregate.Sum ∷ aggregate.OtherRow ∷ []) n aggregate.Operand

abbrev pub IsValueAt : ℕ → Result FunctionValue UnknownNumber → Type 0
IsValueAt n r = MatchResult r (λ f. function_at n ≡ Some f) (λ e. (e.0 ≡ n) × (function_at n ≡ None))

abbrev pub IsAggregateAt : ℕ → Aggregate → Type 0
IsAggregateAt n a = a ≡ aggregate_at n
