-- The arms of `explain` that write registers and go on to the next row: what they leave of the state. In the order of explain.rs.
-- "Move onto itself leaves null. Copy with P3 = 0 copies one." "And, Or take an operand's kind; they don't make it Bool." (01, "The rows")
-- Assumes nothing.
use Rattle.std.specs.Prelude.{true, List, [], ◌∷◌, ℕ, zero, suc, ◌-◌, ◌%◌, ℤ, pos, negsuc, ◌-ℤ◌, Option, None, Some}
use Rattle.std.proofs.Math.IntN.{suc_ℤ}
use Rattle.type_info.specs.declared.DataType.{DataType}
use Rattle.type_info.specs.declared.DataType.TheVariants.{Null, Integer, Float, Text, Blob, Numeric}
use Rattle.model.specs.Walk.{Tried, done}
use Rattle.model.specs.Row.{Row}
use Rattle.model.specs.IntMap.{Entry, ◌⇒◌, get}
use Rattle.model.specs.State.{Single, Record, RegDataType, Column, Int, MemoryState, from_dense_record, default, null, never_null, map_to_datatype, map_to_nullable, to_not_null, first_datatype, either_nullable}
use Rattle.model.specs.Access.{◌>>=◌, count_of, read_register, read_columns, store_register, update_register}
use Rattle.model.specs.TextTable.{or_else}
use Rattle.model.specs.Functions.{FunctionValue, value_column, text_of, Aggregate, to_integer, to_real, to_sum, to_other_row, to_operand, aggregate_of, sum_datatype}
use Rattle.model.specs.Meaning.{Meaning}
use Rattle.model.specs.Offer.{turns}
use Rattle.model.specs.Operation.{RegisterOperation, op_make_record, op_variable, op_halt_if_null, op_function, op_agg_step, op_agg_final, op_cast, op_copy_one, op_copy, op_move, op_integer, op_null, op_arithmetic, op_constant}

-- the affinity in P2's low byte: "Cast keeps P2 modulo 256"
unfoldable pub low_byte : ℤ → ℕ
low_byte (pos k) = k % 256
low_byte (negsuc k) = 255 - k % 256

unfoldable pub affinities : List (Entry DataType)
affinities = 0x41 ⇒ Blob ∷ 0x42 ⇒ Text ∷ 0x43 ⇒ Numeric ∷ 0x44 ⇒ Integer ∷ 0x45 ⇒ Float ∷ []

unfoldable pub affinity_to_type : ℕ → DataType
affinity_to_type affinity = or_else Null (get affinity affinities)

abbrev pub cast_to : DataType → RegDataType → RegDataType
cast_to d v = Column (Single d (map_to_nullable v))

-- r[p1] + r[p2], and whatever else takes two operands
abbrev pub operands : Option RegDataType → Option RegDataType → RegDataType
operands None None = Column default
operands None (Some b) = Column (Single (map_to_datatype b) None)
operands (Some a) None = Column (Single (map_to_datatype a) None)
operands (Some a) (Some b) =
    Column (Single (first_datatype (map_to_datatype a) (map_to_datatype b)) (either_nullable (map_to_nullable a) (map_to_nullable b)))

-- what AggStep makes of its operand
abbrev pub summed : RegDataType → RegDataType
summed v = Column (Single (sum_datatype (map_to_datatype v)) (map_to_nullable v))

abbrev pub from_other_row : RegDataType → RegDataType
from_other_row v = Column (Single (map_to_datatype v) (Some true))

-- Null's registers: P2 to P3, or P2 alone
abbrev pub null_turns : Row → ℕ
null_turns x = suc (turns (x.p3 -ℤ x.p2))

module _ (limit : ℕ) where
  -- the value, changed by f, goes to register i, if there is one
  abbrev pub store_some : ℤ → (RegDataType → RegDataType) → Option RegDataType → MemoryState → Tried MemoryState
  store_some i f None m = done m
  store_some i f (Some v) m = store_register limit i (f v) m

  -- r[j] = f(r[i])
  unfoldable pub copy_to : ℤ → ℤ → (RegDataType → RegDataType) → MemoryState → Tried MemoryState
  copy_to i j f m = read_register i m >>= λ v. store_some j f v m

  unfoldable pub copy_many : ℕ → ℤ → ℤ → MemoryState → Tried MemoryState
  copy_many zero i j m = done m
  copy_many (suc n) i j m = copy_to i j (λ v. v) m >>= λ s. copy_many n (suc_ℤ i) (suc_ℤ j) s

  -- the target is stored first, then the source is null
  abbrev pub move_some : ℤ → ℤ → Option RegDataType → MemoryState → Tried MemoryState
  move_some i j None m = done m
  move_some i j (Some v) m = store_register limit j v m >>= λ s. store_register limit i (Column null) s

  unfoldable pub move_many : ℕ → ℤ → ℤ → MemoryState → Tried MemoryState
  move_many zero i j m = done m
  move_many (suc n) i j m = read_register i m >>= λ v. move_some i j v m >>= λ s. move_many n (suc_ℤ i) (suc_ℤ j) s

  unfoldable pub null_many : ℕ → ℤ → MemoryState → Tried MemoryState
  null_many zero i m = done m
  null_many (suc n) i m = store_register limit i (Column null) m >>= λ s. null_many n (suc_ℤ i) s

  -- an unknown function changes nothing
  abbrev pub function_arm : Row → MemoryState → Option FunctionValue → Tried MemoryState
  function_arm x m None = done m
  function_arm x m (Some f) = store_register limit x.p3 (Column (value_column f x.p2)) m

  abbrev pub agg_step_arm : Row → MemoryState → Aggregate → Tried MemoryState
  agg_step_arm x m to_integer = store_register limit x.p3 (never_null Integer) m
  agg_step_arm x m to_real = store_register limit x.p3 (never_null Float) m
  agg_step_arm x m to_sum = copy_to x.p2 x.p3 summed m
  agg_step_arm x m to_other_row = copy_to x.p2 x.p3 from_other_row m
  agg_step_arm x m to_operand = copy_to x.p2 x.p3 (λ v. v) m

  -- "percent_rank and cume_dist in AggFinal write P3, the others named there P1 or P3 as in the Rust"
  abbrev pub agg_final_arm : Row → MemoryState → Aggregate → Tried MemoryState
  agg_final_arm x m to_integer = store_register limit x.p1 (never_null Integer) m
  agg_final_arm x m to_real = store_register limit x.p3 (never_null Float) m
  agg_final_arm x m to_sum = done m
  agg_final_arm x m to_other_row = copy_to x.p2 x.p3 from_other_row m
  agg_final_arm x m to_operand = done m

module _ (meaning : Meaning) (x : Row) (m : MemoryState) where
  unfoldable pub register_arm : RegisterOperation → Tried MemoryState
  register_arm op_make_record =
      count_of x.p2 >>= λ n. read_columns n x.p1 m >>= λ cs. store_register meaning.cell_limit x.p3 (Column (Record (from_dense_record cs))) m
  register_arm op_variable = store_register meaning.cell_limit x.p2 (Column null) m
  register_arm op_halt_if_null = update_register x.p3 to_not_null m
  register_arm op_function = text_of x.p4 >>= λ text. function_arm meaning.cell_limit x m (meaning.function_for text)
  register_arm op_agg_step = text_of x.p4 >>= λ text. agg_step_arm meaning.cell_limit x m (aggregate_of text)
  register_arm op_agg_final = text_of x.p4 >>= λ text. agg_final_arm meaning.cell_limit x m (aggregate_of text)
  register_arm op_cast = update_register x.p1 (cast_to (affinity_to_type (low_byte x.p2))) m
  register_arm op_copy_one = copy_to meaning.cell_limit x.p1 x.p2 (λ v. v) m
  register_arm op_copy = copy_many meaning.cell_limit (turns (suc_ℤ x.p3)) x.p1 x.p2 m
  register_arm op_move = move_many meaning.cell_limit (turns x.p3) x.p1 x.p2 m
  register_arm op_integer = store_register meaning.cell_limit x.p2 (Int x.p1) m
  register_arm op_null = null_many meaning.cell_limit (null_turns x) x.p2 m
  register_arm op_arithmetic =
      read_register x.p1 m >>= λ a. read_register x.p2 m >>= λ b. store_register meaning.cell_limit x.p3 (operands a b) m
  register_arm (op_constant d) = store_register meaning.cell_limit x.p2 (never_null d) m
