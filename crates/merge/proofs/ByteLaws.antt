-- The byte of a column: the byte that the code makes of a register's cell is that of its column, and bytes merge as the columns do.
-- Assumes nothing.
use mathlib.Core.Path.{◌≡◌, refl, sym, ap, ap₂, ◌∙◌}
use mathlib.Core.Bool.{Bool, true, false}
use Rattle.std.specs.Prelude.{Option, None, Some}
use mathlib.Core.List.{List, [], ◌∷◌}
use Prim.Native.Nat.{ℕ, zero, suc, ◌+◌, ◌*◌, ◌/◌, ◌%◌, ◌<◌, max}
use native.Mathlib.Omega.{arith}
use lib.Dec.{eqb}
use lib.ListN.{length, get_or, replicate}
use borrow.Author.Tests.{eq-eqb, ne_eqb, eqb-true, eqb-false}
use Rattle.type_info.specs.declared.DataType.{DataType}
use Rattle.type_info.specs.declared.DataType.TheVariants.{Null, Integer, Float, Text, Blob, Numeric, Bool as Boolean, Int4, Date, Time, Datetime}
use Rattle.model.specs.State.{Single, Record, RegDataType, Column, Int, datatype_code, is_zero, first_if, either_nullable, map_to_columntype}
use Rattle.model.specs.Results.{ResultColumn, result_column, merge_column, merge}
use Rattle.area.specs.Cells.{cell}
use Rattle.area.specs.declared.Cell.{Cell}
use Rattle.intmap.specs.Pack.{head, tag_of, kind_of, nullable_of}
use Rattle.intmap.specs.Pick.{pick}
use Rattle.intmap.proofs.PackLaws.{head_tag, head_kind, head_nullable}
use Rattle.encoding.specs.Encode.{nullable_code, run_column, run_register}
use Rattle.encoding.proofs.Packing.{code_small, nullable_small}
use Rattle.merge.specs.Columns.{unsaid, column_byte, HasColumns}
use Rattle.merge.specs.Entries.{cell_byte, merge_byte, head_run}

-- ---- the byte of a cell

module _ (c : Cell) where
  pub cell_single : (t k n : ℕ) → t ≡ tag_of c → t ≡ 1 → k ≡ kind_of c → n ≡ nullable_of c → k % 64 * 4 + n % 4 ≡ cell_byte c
  unfolding cell_byte
  cell_single t k n e one f g =
      ap₂ (λ x y. x % 64 * 4 + y % 4) f g
      ∙ sym (ap (λ b. pick b (kind_of c % 64 * 4 + nullable_of c % 4) (pick (eqb (tag_of c) 3) 5 0)) (eq-eqb (tag_of c) 1 (sym e ∙ one)))

  pub cell_other : (t : ℕ) (b : Bool) → t ≡ tag_of c → (t ≡ 1 → ⊥) → eqb t 3 ≡ b → pick b 5 0 ≡ cell_byte c
  unfolding cell_byte
  cell_other t b e one three =
      ap (λ x. pick x 5 0) (sym three ∙ ap (λ x. eqb x 3) e)
      ∙ sym (ap (λ x. pick x (kind_of c % 64 * 4 + nullable_of c % 4) (pick (eqb (tag_of c) 3) 5 0)) (ne_eqb (tag_of c) 1 (λ p. one (e ∙ p))))

  pub cell_int : (t : ℕ) → t ≡ tag_of c → (t ≡ 1 → ⊥) → t ≡ 3 → 5 ≡ cell_byte c
  cell_int t e one three = cell_other t true e one (eq-eqb t 3 three)

  pub cell_record : (t : ℕ) → t ≡ tag_of c → (t ≡ 1 → ⊥) → (t ≡ 3 → ⊥) → 0 ≡ cell_byte c
  cell_record t e one three = cell_other t false e one (ne_eqb t 3 three)

-- ---- two bytes merged

module _ (new old : ℕ) where
  pub merge_older : (r : ℕ) → r ≡ max (new % 4) (old % 4) → new / 4 ≡ 0 → old / 4 * 4 + r ≡ merge_byte new old
  unfolding merge_byte
  merge_older r e h = ap₂ (λ x y. x * 4 + y) (sym (ap (λ b. pick b (old / 4) (new / 4)) (eq-eqb (new / 4) 0 h))) e

  pub merge_newer : (r : ℕ) → r ≡ max (new % 4) (old % 4) → (new / 4 ≡ 0 → ⊥) → new / 4 * 4 + r ≡ merge_byte new old
  unfolding merge_byte
  merge_newer r e h = ap₂ (λ x y. x * 4 + y) (sym (ap (λ b. pick b (old / 4) (new / 4)) (ne_eqb (new / 4) 0 h))) e

-- a column of which nothing is known changes nothing
pub merge-nothing : (old : ℕ) → merge_byte 0 old ≡ old
merge-nothing old = sym (merge_older 0 old (old % 4) (omega arith) (omega arith)) ∙ omega arith

pub merge_into_nothing : (new : ℕ) → merge_byte new 0 ≡ new
merge_into_nothing new = go (eqb (new / 4) 0) refl
  where
    go : (b : Bool) → eqb (new / 4) 0 ≡ b → merge_byte new 0 ≡ new
    go true e = sym (merge_older new 0 (new % 4) (omega arith) (eqb-true (new / 4) 0 e)) ∙ omega (arith, eqb-true (new / 4) 0 e)
    go false e = sym (merge_newer new 0 (new % 4) (omega arith) (eqb-false (new / 4) 0 e)) ∙ omega arith

-- ---- columns and their bytes

code_few : (d : DataType) → datatype_code d < 64
code_few Null = omega arith
code_few Integer = omega arith
code_few Float = omega arith
code_few Text = omega arith
code_few Blob = omega arith
code_few Numeric = omega arith
code_few Boolean = omega arith
code_few Int4 = omega arith
code_few Date = omega arith
code_few Time = omega arith
code_few Datetime = omega arith

nullable_few : (n : Option Bool) → nullable_code n < 4
nullable_few None = omega arith
nullable_few (Some false) = omega arith
nullable_few (Some true) = omega arith

-- the codes in a column's byte
pub byte_kind : (c : ResultColumn) → column_byte c / 4 ≡ datatype_code c.datatype
unfolding column_byte
byte_kind c = omega (arith, nullable_few c.nullable)

pub byte_nullable : (c : ResultColumn) → column_byte c % 4 ≡ nullable_code c.nullable
unfolding column_byte
byte_nullable c = omega (arith, nullable_few c.nullable)

-- the byte of a register's first cell is that of its column
pub register_byte_lem : (key : ℕ) (v : RegDataType) → cell_byte (head_run (run_register key v)) ≡ column_byte (result_column (map_to_columntype v))
unfolding run_register run_column column_byte
register_byte_lem key (Column (Single d n)) =
    let a = datatype_code d in
    let b = nullable_code n in
    let kind : head 1 a b key / 256 % 256 ≡ a = head_kind 1 a b key (omega arith) (code_small d) in
    let nullable : head 1 a b key / 65536 % 256 ≡ b = head_nullable 1 a b key (omega arith) (code_small d) (nullable_small n) in
    sym (cell_single (cell (head 1 a b key) 0) 1 a b (omega (arith, head_tag 1 a b key (omega arith))) refl (sym kind) (sym nullable))
    ∙ omega (arith, code_few d, nullable_few n)
register_byte_lem key (Column (Record cs)) = sym (cell_record _ 2 (omega arith) (omega arith) (omega arith))
register_byte_lem key (Int i) = sym (cell_int _ 3 (omega arith) (omega arith) (omega arith))

-- the kind and the nullable that the definition merges, as codes
first_code : (k : ℕ) (a b : DataType) → datatype_code (first_if (is_zero k) a b) ≡ pick (eqb k 0) (datatype_code b) (datatype_code a)
first_code zero a b = refl
first_code (suc k) a b = ap (λ t. pick t (datatype_code b) (datatype_code a)) (sym (ne_eqb (suc k) 0 (omega arith)))

either-code : (a b : Option Bool) → nullable_code (either_nullable a b) ≡ max (nullable_code a) (nullable_code b)
either-code None None = refl
either-code None (Some false) = refl
either-code None (Some true) = refl
either-code (Some false) None = refl
either-code (Some false) (Some false) = refl
either-code (Some false) (Some true) = refl
either-code (Some true) None = refl
either-code (Some true) (Some false) = refl
either-code (Some true) (Some true) = refl

pub byte_merged : (new old : ResultColumn) → column_byte (merge_column new old) ≡ merge_byte (column_byte new) (column_byte old)
byte_merged new old =
    merged
    ∙ ap₂ (λ x y. pick (eqb x 0) y x * 4 + max (nullable_code new.nullable) (nullable_code old.nullable)) (sym (byte_kind new)) (sym (byte_kind old))
    ∙ ap₂ (λ x y. pick (eqb (column_byte new / 4) 0) (column_byte old / 4) (column_byte new / 4) * 4 + max x y) (sym (byte_nullable new)) (sym (byte_nullable old))
    ∙ opened
  where
    merged : column_byte (merge_column new old) ≡ pick (eqb (datatype_code new.datatype) 0) (datatype_code old.datatype) (datatype_code new.datatype) * 4 + max (nullable_code new.nullable) (nullable_code old.nullable)
    merged = unfold column_byte in (ap₂ (λ x y. x * 4 + y) (first_code (datatype_code new.datatype) new.datatype old.datatype) (either-code new.nullable old.nullable))

    opened : pick (eqb (column_byte new / 4) 0) (column_byte old / 4) (column_byte new / 4) * 4 + max (column_byte new % 4) (column_byte old % 4) ≡ merge_byte (column_byte new) (column_byte old)
    opened = unfold merge_byte in refl

-- two rows, column by column
pub merged_at : (a b : List ResultColumn) (j : ℕ) → column_byte (get_or (merge a b) j unsaid) ≡ merge_byte (column_byte (get_or a j unsaid)) (column_byte (get_or b j unsaid))
unfolding merge column_byte
merged_at [] [] j = byte_merged unsaid unsaid
merged_at [] (y ∷ ys) j = sym (merge-nothing (column_byte (get_or (y ∷ ys) j unsaid)))
merged_at (x ∷ xs) [] j = sym (merge_into_nothing (column_byte (get_or (x ∷ xs) j unsaid)))
merged_at (x ∷ xs) (y ∷ ys) zero = byte_merged x y
merged_at (x ∷ xs) (y ∷ ys) (suc j) = merged_at xs ys j

pub merged_length : (a b : List ResultColumn) → length (merge a b) ≡ max (length b) (length a)
unfolding merge
merged_length [] [] = refl
merged_length [] (y ∷ ys) = omega arith
merged_length (x ∷ xs) [] = omega arith
merged_length (x ∷ xs) (y ∷ ys) = omega (arith, merged_length xs ys)

-- zeros are no columns
zeros : (n j : ℕ) → get_or (replicate n 0) j 0 ≡ column_byte unsaid
unfolding column_byte
zeros zero j = refl
zeros (suc n) zero = refl
zeros (suc n) (suc j) = zeros n j

pub no_columns : (n : ℕ) → HasColumns (replicate n 0) 0 []
no_columns n = record { wide = refl; stand = zeros n }
