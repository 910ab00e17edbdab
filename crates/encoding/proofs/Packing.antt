-- Kinds and nullables have small codes and are told by them; a run's key is the one that it was made with. Assumes nothing.
use mathlib.Core.Path.{◌≡◌, refl, sym, ap, ◌∙◌}
use mathlib.Core.Bool.{Bool, true, false}
use Rattle.std.specs.Prelude.{Option, None, Some}
use Prim.Native.Nat.{ℕ, ◌<◌}
use native.Mathlib.Omega.{arith}
use lib.ListN.{get_or}
use Rattle.type_info.specs.declared.DataType.{DataType}
use Rattle.type_info.specs.declared.DataType.TheVariants.{Null, Integer, Float, Text, Blob, Numeric, Bool as Boolean, Int4, Date, Time, Datetime}
use Rattle.model.specs.State.{ColumnType, Single, Record, RegDataType, Column, Int, CursorDataType, Normal, Pseudo, TableDataType, datatype_code}
use Rattle.intmap.specs.Entries.{key_run}
use Rattle.intmap.proofs.PackLaws.{head-key}
use Rattle.encoding.specs.Decode.{datatypes, nullables}
use Rattle.encoding.specs.Encode.{nullable_code, run_column, run_register, run_cursor, run_table}

pub code_small : (d : DataType) → datatype_code d < 256
code_small Null = omega arith
code_small Integer = omega arith
code_small Float = omega arith
code_small Text = omega arith
code_small Blob = omega arith
code_small Numeric = omega arith
code_small Boolean = omega arith
code_small Int4 = omega arith
code_small Date = omega arith
code_small Time = omega arith
code_small Datetime = omega arith

pub nullable_small : (n : Option Bool) → nullable_code n < 256
nullable_small None = omega arith
nullable_small (Some false) = omega arith
nullable_small (Some true) = omega arith

-- a code gives back what it stands for
pub datatype_coded : (d : DataType) → get_or datatypes (datatype_code d) Null ≡ d
datatype_coded Null = refl
datatype_coded Integer = refl
datatype_coded Float = refl
datatype_coded Text = refl
datatype_coded Blob = refl
datatype_coded Numeric = refl
datatype_coded Boolean = refl
datatype_coded Int4 = refl
datatype_coded Date = refl
datatype_coded Time = refl
datatype_coded Datetime = refl

pub nullable_coded : (n : Option Bool) → get_or nullables (nullable_code n) None ≡ n
nullable_coded None = refl
nullable_coded (Some false) = refl
nullable_coded (Some true) = refl

pub nullable_injective : (a b : Option Bool) → nullable_code a ≡ nullable_code b → a ≡ b
nullable_injective a b e = sym (nullable_coded a) ∙ ap (λ c. get_or nullables c None) e ∙ nullable_coded b

-- the key of a run
pub column_key : (key : ℕ) (c : ColumnType) → key_run (run_column key c) ≡ key
unfolding run_column key_run
column_key key (Single d n) = head-key 1 (datatype_code d) (nullable_code n) key (omega arith) (code_small d) (nullable_small n)
column_key key (Record cs) = omega arith

pub register_key : (key : ℕ) (v : RegDataType) → key_run (run_register key v) ≡ key
unfolding run_register key_run
register_key key (Column c) = column_key key c
register_key key (Int i) = omega arith

pub cursor-key : (key : ℕ) (v : CursorDataType) → key_run (run_cursor key v) ≡ key
unfolding run_cursor key_run
cursor-key key (Normal row) = omega arith
cursor-key key (Pseudo i) = omega arith

pub table-key : (key : ℕ) (v : TableDataType) → key_run (run_table key v) ≡ key
unfolding run_table key_run
table-key key t = omega (arith, nullable_small t.is_empty)
