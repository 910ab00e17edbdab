-- When two states are the same, as tests: `PartialEq` of the types of explain.rs and of `IntMap`, "Row included" (01, "The walk").
-- Assumes nothing.
use Rattle.std.specs.Prelude.{◌≡◌, Bool, true, false, ◌&&◌, List, [], ◌∷◌, eqb, ℤ, pos, negsuc, Option, None, Some}
use Rattle.std.specs.Bool.{beq}
use Rattle.type_info.specs.declared.DataType.{DataType}
use Rattle.model.specs.IntMap.{Entry}
use Rattle.model.specs.State.{ColumnType, Single, Record, Columns, end, entry, RegDataType, Column, Int, CursorDataType, Normal, Pseudo, TableDataType, MemoryState, datatype_code}

abbrev pub eq_datatype : DataType → DataType → Bool
eq_datatype a b = eqb (datatype_code a) (datatype_code b)

abbrev pub eq_nullable : Option Bool → Option Bool → Bool
eq_nullable None None = true
eq_nullable None (Some b) = false
eq_nullable (Some a) None = false
eq_nullable (Some a) (Some b) = beq a b

abbrev pub eq_int : ℤ → ℤ → Bool
eq_int (pos a) (pos b) = eqb a b
eq_int (pos a) (negsuc b) = false
eq_int (negsuc a) (pos b) = false
eq_int (negsuc a) (negsuc b) = eqb a b

abbrev pub is_zero_int : ℤ → Bool
is_zero_int i = eq_int i (pos 0)

unfoldable mutual
  pub eq_column : ColumnType → ColumnType → Bool
  eq_column (Single a m) (Single b n) = eq_datatype a b && eq_nullable m n
  eq_column (Single a m) (Record y) = false
  eq_column (Record x) (Single b n) = false
  eq_column (Record x) (Record y) = eq_columns x y

  pub eq_columns : Columns → Columns → Bool
  eq_columns end end = true
  eq_columns end (entry j d ds) = false
  eq_columns (entry k c cs) end = false
  eq_columns (entry k c cs) (entry j d ds) = eqb k j && (eq_column c d && eq_columns cs ds)

unfoldable pub eq_register : RegDataType → RegDataType → Bool
eq_register (Column a) (Column b) = eq_column a b
eq_register (Column a) (Int b) = false
eq_register (Int a) (Column b) = false
eq_register (Int a) (Int b) = eq_int a b

unfoldable pub eq_cursor : CursorDataType → CursorDataType → Bool
eq_cursor (Normal a) (Normal b) = eqb a b
eq_cursor (Normal a) (Pseudo b) = false
eq_cursor (Pseudo a) (Normal b) = false
eq_cursor (Pseudo a) (Pseudo b) = eq_int a b

unfoldable pub eq_table : TableDataType → TableDataType → Bool
eq_table a b = eq_columns a.cols b.cols && eq_nullable a.is_empty b.is_empty

-- of maps, with a test for the values
unfoldable pub eq_map : {A : Type 0} → (A → A → Bool) → List (Entry A) → List (Entry A) → Bool
eq_map eq [] [] = true
eq_map eq [] (y ∷ ys) = false
eq_map eq (x ∷ xs) [] = false
eq_map eq (x ∷ xs) (y ∷ ys) = eqb x.key y.key && (eq x.value y.value && eq_map eq xs ys)

unfoldable pub eq_state : MemoryState → MemoryState → Bool
eq_state a b =
    eq_int a.program_i b.program_i && (eq_map eq_register a.r b.r && (eq_map eq_cursor a.p b.p && eq_map eq_table a.t b.t))

-- a test is true exactly for equal values
pub record Decides {A : Type 0} (eq : A → A → Bool) : Type 0 where
  pub sound : (a b : A) → eq a b ≡ true → a ≡ b
  pub reflexive : (a : A) → eq a a ≡ true
