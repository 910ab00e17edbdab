-- The arms that write registers leave a good state. Assumes nothing.
use mathlib.Core.Bool.{Bool, true, false}
use Rattle.std.specs.Prelude.{Option, None, Some}
use mathlib.Core.List.{List}
use Prim.Native.Nat.{ℕ, zero, suc, ◌≤◌}
use native.Mathlib.Omega.{arith}
use lib.IntN.{ℤ, suc_ℤ}
use Rattle.type_info.specs.declared.DataType.{DataType}
use Rattle.type_info.specs.declared.DataType.TheVariants.{Null, Integer, Float}
use Rattle.model.specs.Row.{Row}
use Rattle.model.specs.State.{ColumnType, Single, Record, RegDataType, Column, Int, MemoryState, from_dense_record, map_to_columntype, to_not_null}
use Rattle.model.specs.Cells.{column_cells, register_cells}
use Rattle.model.specs.Access.{count_of, store_register}
use Rattle.model.specs.Offer.{turns}
use Rattle.model.specs.Functions.{FunctionValue, text_of, Aggregate, to_integer, to_real, to_sum, to_other_row, to_operand, aggregate_of}
use Rattle.model.specs.Meaning.{Meaning}
use Rattle.model.specs.Operation.{RegisterOperation, op_make_record, op_variable, op_halt_if_null, op_function, op_agg_step, op_agg_final, op_cast, op_copy_one, op_copy, op_move, op_integer, op_null, op_arithmetic, op_constant}
use Rattle.model.specs.RegisterArms.{low_byte, affinity_to_type, operands, summed, from_other_row, null_turns, store_some, copy_to, copy_many, move_some, move_many, null_many, function_arm, agg_step_arm, agg_final_arm, register_arm}
use Rattle.model.specs.Good.{SortedColumn, GoodRegister, Good, GoodMeaning, Each, OnSome}
use Rattle.model.proofs.Tried.{Kept, value, ◌>>◌, anything}
use Rattle.model.proofs.Sorted.{sorted_dense, dense_cells}
use Rattle.model.proofs.InPlace.{plain_good, int_good, to_not_null_no_larger, cast_to_no_larger}
use Rattle.model.proofs.Access.{read_register_good, read_columns_good, store_register_good, update_register_good}

-- a record of as many columns as fit
dense_good : (limit : ℕ) → limit ≤ 65536 → (cs : List ColumnType) → Each SortedColumn cs → column_cells (Record (from_dense_record cs)) ≤ limit → SortedColumn (Record (from_dense_record cs))
unfolding SortedColumn column_cells
dense_good limit h cs s fits = sorted_dense cs (omega (arith, dense_cells cs 0)) s

operands_sorted : (a b : Option RegDataType) → SortedColumn (map_to_columntype (operands a b))
unfolding SortedColumn
operands_sorted None None = tt
operands_sorted None (Some b) = tt
operands_sorted (Some a) None = tt
operands_sorted (Some a) (Some b) = tt

-- a change of a register that keeps its columns sorted
abbrev KeepsSorted : (RegDataType → RegDataType) → Type 0
KeepsSorted f = (v : RegDataType) → GoodRegister v → SortedColumn (map_to_columntype (f v))

unchanged : KeepsSorted (λ v. v)
unchanged v p = p.sorted

module _ {limit : ℕ} {m : MemoryState} (g : Good limit m) where
  pub store_plain_good : (i : ℤ) (d : DataType) (n : Option Bool) → Kept (Good limit) (store_register limit i (Column (Single d n)) m)
  store_plain_good i d n = store_register_good g i (Column (Single d n)) (λ h. (plain_good d n).sorted)

  copy_to_good : (i j : ℤ) (f : RegDataType → RegDataType) → KeepsSorted f → Kept (Good limit) (copy_to limit i j f m)
  unfolding copy_to
  copy_to_good i j f keeps = read_register_good g i >> λ v p. by v p
    where
      by : (v : Option RegDataType) → OnSome GoodRegister v → Kept (Good limit) (store_some limit j f v m)
      by None p = value g
      by (Some v) p = store_register_good g j (f v) (λ h. keeps v p)

  move_some_good : (i j : ℤ) (v : Option RegDataType) → OnSome GoodRegister v → Kept (Good limit) (move_some limit i j v m)
  move_some_good i j None p = value g
  move_some_good i j (Some v) p = store_register_good g j v (λ h. p.sorted) >> λ s h. store_register_good h i _ (λ _. (plain_good Null (Some true)).sorted)

summed_sorted : KeepsSorted summed
unfolding SortedColumn
summed_sorted v p = tt

from_other_row_sorted : KeepsSorted from_other_row
unfolding SortedColumn
from_other_row_sorted v p = tt

-- the loops
module _ (limit : ℕ) where
  copy_many_good : (n : ℕ) (i j : ℤ) {m : MemoryState} → Good limit m → Kept (Good limit) (copy_many limit n i j m)
  unfolding copy_many
  copy_many_good zero i j g = value g
  copy_many_good (suc n) i j g = copy_to_good g i j (λ v. v) unchanged >> λ s h. copy_many_good n (suc_ℤ i) (suc_ℤ j) h

  move_many_good : (n : ℕ) (i j : ℤ) {m : MemoryState} → Good limit m → Kept (Good limit) (move_many limit n i j m)
  unfolding move_many
  move_many_good zero i j g = value g
  move_many_good (suc n) i j g =
      read_register_good g i >> λ v p. move_some_good g i j v p >> λ s h. move_many_good n (suc_ℤ i) (suc_ℤ j) h

  null_many_good : (n : ℕ) (i : ℤ) {m : MemoryState} → Good limit m → Kept (Good limit) (null_many limit n i m)
  unfolding null_many
  null_many_good zero i g = value g
  null_many_good (suc n) i g = store_plain_good g i Null (Some true) >> λ s h. null_many_good n (suc_ℤ i) h

module _ (limit : ℕ) (x : Row) (m : MemoryState) (g : Good limit m) where
  function_good : (f : Option FunctionValue) → Kept (Good limit) (function_arm limit x m f)
  function_good None = value g
  function_good (Some f) = store_plain_good g x.p3 f.datatype _

  agg_step_good : (a : Aggregate) → Kept (Good limit) (agg_step_arm limit x m a)
  agg_step_good to_integer = store_plain_good g x.p3 Integer (Some false)
  agg_step_good to_real = store_plain_good g x.p3 Float (Some false)
  agg_step_good to_sum = copy_to_good g x.p2 x.p3 summed summed_sorted
  agg_step_good to_other_row = copy_to_good g x.p2 x.p3 from_other_row from_other_row_sorted
  agg_step_good to_operand = copy_to_good g x.p2 x.p3 (λ v. v) unchanged

  agg_final_good : (a : Aggregate) → Kept (Good limit) (agg_final_arm limit x m a)
  agg_final_good to_integer = store_plain_good g x.p1 Integer (Some false)
  agg_final_good to_real = store_plain_good g x.p3 Float (Some false)
  agg_final_good to_sum = value g
  agg_final_good to_other_row = copy_to_good g x.p2 x.p3 from_other_row from_other_row_sorted
  agg_final_good to_operand = value g

module _ (meaning : Meaning) (q : GoodMeaning meaning) (x : Row) (m : MemoryState) (g : Good meaning.cell_limit m) where
  pub register_good : (o : RegisterOperation) → Kept (Good meaning.cell_limit) (register_arm meaning x m o)
  unfolding register_arm register_cells
  register_good op_make_record =
      anything (count_of x.p2) >> λ n _.
      read_columns_good g n x.p1 >> λ cs s.
      store_register_good g x.p3 _ (dense_good meaning.cell_limit q.limit cs s)
  register_good op_variable = store_plain_good g x.p2 Null (Some true)
  register_good op_halt_if_null = update_register_good g x.p3 to_not_null to_not_null_no_larger
  register_good op_function = anything (text_of x.p4) >> λ text _. function_good meaning.cell_limit x m g (meaning.function_for text)
  register_good op_agg_step = anything (text_of x.p4) >> λ text _. agg_step_good meaning.cell_limit x m g (aggregate_of text)
  register_good op_agg_final = anything (text_of x.p4) >> λ text _. agg_final_good meaning.cell_limit x m g (aggregate_of text)
  register_good op_cast = update_register_good g x.p1 _ (cast_to_no_larger (affinity_to_type (low_byte x.p2)))
  register_good op_copy_one = copy_to_good g x.p1 x.p2 (λ v. v) unchanged
  register_good op_copy = copy_many_good meaning.cell_limit (turns (suc_ℤ x.p3)) x.p1 x.p2 g
  register_good op_move = move_many_good meaning.cell_limit (turns x.p3) x.p1 x.p2 g
  register_good op_integer = store_register_good g x.p2 (Int x.p1) (λ h. (int_good x.p1).sorted)
  register_good op_null = null_many_good meaning.cell_limit (null_turns x) x.p2 g
  register_good op_arithmetic =
      read_register_good g x.p1 >> λ a _. read_register_good g x.p2 >> λ b _.
      store_register_good g x.p3 (operands a b) (λ h. operands_sorted a b)
  register_good (op_constant d) = store_plain_good g x.p2 d (Some false)
