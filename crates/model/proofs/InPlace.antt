-- The changes that are made in place, to a register or a table, make it no larger and keep it good: replacing whatever stands there by a plain
-- column or a number, and setting `nullable` or `is_empty`. Assumes nothing.
use mathlib.Core.Bool.{Bool, true, false}
use Rattle.std.specs.Prelude.{Option, None, Some}
use Prim.Native.Nat.{ℕ, ◌≤◌}
use native.Mathlib.Omega.{arith}
use lib.IntN.{ℤ}
use Rattle.type_info.specs.declared.DataType.{DataType}
use Rattle.type_info.specs.declared.DataType.TheVariants.{Null, Integer}
use Rattle.model.specs.State.{Single, Record, RegDataType, Column, Int, TableDataType, to_not_null, map_to_nullable}
use Rattle.model.specs.Cells.{column_cells, register_cells, table_cells, column_depth, register_depth}
use Rattle.model.specs.Good.{SortedColumn, GoodRegister, GoodTable}
use Rattle.model.specs.Cursor.{set_empty, null_table, null_record}
use Rattle.model.specs.JumpArms.{to_default}
use Rattle.model.specs.IfPosArm.{count_down, forget}
use Rattle.model.specs.RegisterArms.{cast_to}
use Rattle.model.proofs.Sorted.{column_one, all_nullable_cells, all_nullable_depth, all_nullable_sorted}

-- a value that replaces another: no larger, and good if that was
pub record NoLarger {A : Type 0} (size : A → ℕ) (P : A → Type 0) (old new : A) : Type 0 where
  pub smaller : size new ≤ size old
  pub good : P old → P new

-- a change that does so with every value
abbrev pub NeverLarger : {A : Type 0} → (A → ℕ) → (A → Type 0) → (A → A) → Type 0
NeverLarger {A} size P g = (v : A) → NoLarger size P v (g v)

abbrev RegisterNeverLarger : (RegDataType → RegDataType) → Type 0
RegisterNeverLarger g = NeverLarger register_cells GoodRegister g

pub plain_good : (d : DataType) (n : Option Bool) → GoodRegister (Column (Single d n))
unfolding SortedColumn column_depth register_depth
plain_good d n = record { depth = omega arith; sorted = tt }

pub int_good : (i : ℤ) → GoodRegister (Int i)
unfolding SortedColumn register_depth
int_good i = record { depth = omega arith; sorted = tt }

register_one : (v : RegDataType) → 1 ≤ register_cells v
unfolding register_cells
register_one (Column c) = column_one c
register_one (Int i) = omega arith

to_same : {A : Type 0} {size : A → ℕ} {P : A → Type 0} {v : A} → NoLarger size P v v
to_same = record { smaller = omega arith; good = λ p. p }

to_plain : (d : DataType) (n : Option Bool) (v : RegDataType) → NoLarger register_cells GoodRegister v (Column (Single d n))
unfolding column_cells register_cells
to_plain d n v = record { smaller = register_one v; good = λ p. plain_good d n }

pub to_int : (i : ℤ) → RegisterNeverLarger (λ v. Int i)
unfolding register_cells
to_int i v = record { smaller = register_one v; good = λ p. int_good i }

pub to_default_no_larger : RegisterNeverLarger to_default
to_default_no_larger v = to_plain Null None v

pub cast_to_no_larger : (d : DataType) → RegisterNeverLarger (cast_to d)
cast_to_no_larger d v = to_plain d (map_to_nullable v) v

pub to_not_null_no_larger : RegisterNeverLarger to_not_null
to_not_null_no_larger (Column (Single d n)) = to_plain d (Some false) (Column (Single d n))
to_not_null_no_larger (Column (Record cs)) = to_same
to_not_null_no_larger (Int i) = to_same

pub count_down_no_larger : RegisterNeverLarger count_down
count_down_no_larger (Column c) = to_same
count_down_no_larger (Int i) = to_int _ (Int i)

pub forget_no_larger : RegisterNeverLarger forget
forget_no_larger (Column c) = to_same
forget_no_larger (Int i) = to_plain Integer (Some false) (Int i)

pub null_record_no_larger : RegisterNeverLarger null_record
unfolding column_cells register_cells column_depth register_depth SortedColumn
null_record_no_larger (Column (Single d n)) = to_same
null_record_no_larger (Column (Record cs)) =
    record {
      smaller = omega (arith, all_nullable_cells (Some true) cs);
      good = λ p. record {
        depth = omega (arith, all_nullable_depth (Some true) cs, p.depth);
        sorted = all_nullable_sorted (Some true) cs 0 p.sorted;
      };
    }
null_record_no_larger (Int i) = to_same

-- any emptiness that a table is given
pub set_empty_no_larger : (e : TableDataType → Option Bool) → NeverLarger table_cells GoodTable (λ t. set_empty (e t) t)
unfolding table_cells
set_empty_no_larger e t = record { smaller = omega arith; good = λ p. record { depth = p.depth; sorted = p.sorted } }

pub null_table_no_larger : NeverLarger table_cells GoodTable null_table
unfolding table_cells
null_table_no_larger t =
    record {
      smaller = omega (arith, all_nullable_cells (Some true) t.cols);
      good = λ p. record {
        depth = omega (arith, all_nullable_depth (Some true) t.cols, p.depth);
        sorted = all_nullable_sorted (Some true) t.cols 0 p.sorted;
      };
    }
