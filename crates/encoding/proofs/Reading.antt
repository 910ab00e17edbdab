-- What the first cell of a run tells: by its tag which value it is, and of a value of one cell the whole value. Assumes nothing.
use mathlib.Core.Path.{◌≡◌, refl, sym, ap, ap₂, ◌∙◌}
use mathlib.Core.Bool.{Bool}
use Rattle.std.specs.Prelude.{Option, None}
use mathlib.Core.List.{List, [], ◌∷◌}
use Prim.Native.Nat.{ℕ, ◌/◌, ◌%◌, ◌≤◌}
use native.Mathlib.Omega.{arith}
use lib.ListN.{get_or}
use Rattle.type_info.specs.declared.DataType.{DataType}
use Rattle.type_info.specs.declared.DataType.TheVariants.{Null}
use Rattle.model.specs.State.{ColumnType, Single, Record, Columns, RegDataType, Column, Int, CursorDataType, Normal, Pseudo, TableDataType, datatype_code}
use Rattle.model.specs.Cursor.{null_record}
use Rattle.area.specs.Cells.{cell}
use Rattle.area.specs.declared.Cell.{Cell}
use Rattle.intmap.specs.Pack.{tag_of}
use Rattle.intmap.specs.Signed.{offset, int_of}
use Rattle.encoding.specs.Encode.{nullable_code, count, single, run_column, run_columns, run_register, run_cursor, run_table}
use Rattle.encoding.specs.Decode.{datatypes, nullables, datatype_in, nullable_in, column_in}
use Rattle.encoding.specs.Holds.{SmallRegister, SmallCursor}
use Rattle.intmap.proofs.SignedLaws.{int_word}
use Rattle.intmap.proofs.PackLaws.{head_kind, head_nullable}
use Rattle.encoding.proofs.Packing.{code_small, nullable_small, datatype_coded, nullable_coded}
use Rattle.encoding.proofs.Injective.{first-is}

-- a single column's cell
pub single_datatype : (d : DataType) (n : Option Bool) (key : ℕ) → datatype_in (single (datatype_code d) (nullable_code n) key) ≡ d
single_datatype d n key = ap (λ k. get_or datatypes k Null) (head_kind 1 (datatype_code d) (nullable_code n) key (omega arith) (code_small d)) ∙ datatype_coded d

pub single_nullable_lem : (d : DataType) (n : Option Bool) (key : ℕ) → nullable_in (single (datatype_code d) (nullable_code n) key) ≡ n
single_nullable_lem d n key = ap (λ k. get_or nullables k None) (head_nullable 1 (datatype_code d) (nullable_code n) key (omega arith) (code_small d) (nullable_small n)) ∙ nullable_coded n

single_column : (d : DataType) (n : Option Bool) (key : ℕ) → column_in (single (datatype_code d) (nullable_code n) key) ≡ Single d n
single_column d n key = ap₂ Single (single_datatype d n key) (single_nullable_lem d n key)

-- the columns of a record, seen by its head c and what follows it
pub record Headed (c : Cell) (rest : List Cell) (x : Columns) : Type 0 where
  pub number : c.payload ≡ count x
  pub columns : rest ≡ run_columns x

-- c is the first cell of a run, and the rest follow it
module _ (c : Cell) (rest : List Cell) (key : ℕ) where
  -- a column
  pub column_single : (v : ColumnType) → c ∷ rest ≡ run_column key v → tag_of c ≡ 1 → v ≡ column_in c
  unfolding run_column
  column_single (Single d n) e t = sym (single_column d n key) ∙ ap (λ h. column_in (cell h 0)) (sym (first-is c _ rest [] e).0)
  column_single (Record x) e t = absurd (omega (arith, (first-is c _ rest (run_columns x) e).0))

  pub column_record : (v : ColumnType) → c ∷ rest ≡ run_column key v → tag_of c ≡ 2 → (x : Columns) × (v ≡ Record x) × Headed c rest x
  unfolding run_column
  column_record (Single d n) e t = absurd (omega (arith, (first-is c _ rest [] e).0))
  column_record (Record x) e t = let f = first-is c _ rest (run_columns x) e in (x, refl, record { number = f.1; columns = f.2 })

  pub column_tag : (v : ColumnType) → c ∷ rest ≡ run_column key v → (tag_of c ≡ 1 → ⊥) → tag_of c ≡ 2
  unfolding run_column
  column_tag (Single d n) e t = absurd (t (omega (arith, (first-is c _ rest [] e).0)))
  column_tag (Record x) e t = omega (arith, (first-is c _ rest (run_columns x) e).0)

  -- a register
  pub register_column_lem : (v : RegDataType) → c ∷ rest ≡ run_register key v → (tag_of c ≡ 3 → ⊥) → (w : ColumnType) × (v ≡ Column w) × (c ∷ rest ≡ run_column key w)
  unfolding run_register
  register_column_lem (Column w) e t = (w, refl, e)
  register_column_lem (Int i) e t = absurd (t (omega (arith, (first-is c _ rest [] e).0)))

  pub register_record : (v : RegDataType) → c ∷ rest ≡ run_register key v → tag_of c ≡ 2 → (x : Columns) × (v ≡ Column (Record x)) × Headed c rest x
  register_record v e t =
      let f = register_column_lem v e (omega arith) in
      let g = column_record f.0 f.2 t in
      (g.0, f.1 ∙ ap Column g.1, g.2)

  -- which NullRow leaves as it is
  pub register_plain : (v : RegDataType) → c ∷ rest ≡ run_register key v → (tag_of c ≡ 2 → ⊥) → null_record v ≡ v
  unfolding run_register run_column
  register_plain (Column (Single d n)) e t = refl
  register_plain (Column (Record x)) e t = absurd (t (omega (arith, (first-is c _ rest (run_columns x) e).0)))
  register_plain (Int i) e t = refl

  pub register_int : (bound : ℕ) → bound ≤ offset → (v : RegDataType) → SmallRegister bound v → c ∷ rest ≡ run_register key v → tag_of c ≡ 3 → v ≡ Int (int_of c.payload)
  unfolding run_register run_column
  register_int bound h (Column (Single d n)) s e t = absurd (omega (arith, (first-is c _ rest [] e).0))
  register_int bound h (Column (Record x)) s e t = absurd (omega (arith, (first-is c _ rest (run_columns x) e).0))
  register_int bound h (Int i) s e t = ap Int (sym (int_word bound i h s) ∙ ap int_of (sym (first-is c _ rest [] e).1))

  -- a cursor
  pub cursor_normal : (v : CursorDataType) → c ∷ rest ≡ run_cursor key v → tag_of c ≡ 4 → v ≡ Normal c.payload
  unfolding run_cursor
  cursor_normal (Normal row) e t = ap Normal (sym (first-is c _ rest [] e).1)
  cursor_normal (Pseudo i) e t = absurd (omega (arith, (first-is c _ rest [] e).0))

  pub cursor_pseudo : (bound : ℕ) → bound ≤ offset → (v : CursorDataType) → SmallCursor bound v → c ∷ rest ≡ run_cursor key v → (tag_of c ≡ 4 → ⊥) → v ≡ Pseudo (int_of c.payload)
  unfolding run_cursor
  cursor_pseudo bound h (Normal row) s e t = absurd (t (omega (arith, (first-is c _ rest [] e).0)))
  cursor_pseudo bound h (Pseudo i) s e t = ap Pseudo (sym (int_word bound i h s) ∙ ap int_of (sym (first-is c _ rest [] e).1))

  -- a table
  pub table_columns_lem : (v : TableDataType) → c ∷ rest ≡ run_table key v → Headed c rest v.cols
  unfolding run_table
  table_columns_lem v e = let f = first-is c _ rest (run_columns v.cols) e in record { number = f.1; columns = f.2 }

  pub table_is_empty_lem : (v : TableDataType) → c ∷ rest ≡ run_table key v → v.is_empty ≡ nullable_in c
  unfolding run_table
  table_is_empty_lem v e =
      let n = nullable_code v.is_empty in
      let f = (first-is c _ rest (run_columns v.cols) e).0 in
      sym (nullable_coded v.is_empty)
      ∙ ap (λ k. get_or nullables k None) (sym (head_nullable 2 0 n key (omega arith) (omega arith) (nullable_small v.is_empty)) ∙ ap (λ h. h / 65536 % 256) (sym f))
