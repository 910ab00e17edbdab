-- The three lines of a column, and the lines of all columns, one column behind another. Assumes nothing.
use Rattle.std.proofs.Common.{◌≡◌, ℕ, zero, suc, ◌+◌, ◌≤◌, ◌<◌, List, [], ◌∷◌, ◌++◌, length, get_or, drop, refl, sym, ap, ap₂, ◌∙◌, arith, add-one, length-append, drop-cons}
use Rattle.std.specs.Prelude.{Option, None, Some, Bool, true, false}
use mathlib.Core.List.{flatten, map}
use lib.ListN.{length-map, drop_of_length-le, get_or-map}
use lib.Seq.{ext_get_or}
use Rattle.type_info.specs.Ascii.{ascii}
use Rattle.type_info.specs.Names.{name_of}
use Rattle.type_info.specs.declared.DataType.{DataType}
use Rattle.type_info.specs.declared.DataType.TheVariants.{Null, Integer, Float, Text, Blob, Numeric, Bool as Boolean, Int4, Date, Time, Datetime}
use Rattle.model.specs.Results.{ResultColumn}
use Rattle.model.specs.Numbers.{print_natural}
use Rattle.model.specs.Fields.{print_field, print_items}
use Rattle.model.specs.AnswerText.{print_nullable, print_column}
use Rattle.encoding.specs.Decode.{datatypes, nullables}
use Rattle.encoding.proofs.Packing.{datatype_coded, nullable_coded}
use Rattle.merge.specs.Columns.{unsaid, column_byte, HasColumns}
use Rattle.merge.proofs.ByteLaws.{byte_kind, byte_nullable}
use Rattle.answer.specs.Writing.{Room, Put, Sized}
use Rattle.answer.specs.Text.{column_in, columns_text}
use Rattle.answer.specs.declared.Writer.{Writer}
use Rattle.answer.proofs.PatchLaws.{patch_nil}
use Rattle.answer.proofs.FieldLaws.{two_first, two_rest, two_put, field-length, flat_length}

-- ---- one column

pub name_short : (d : DataType) → length (name_of d) ≤ 8
unfolding name_of ascii
name_short Null = omega arith
name_short Integer = omega arith
name_short Float = omega arith
name_short Text = omega arith
name_short Blob = omega arith
name_short Numeric = omega arith
name_short Boolean = omega arith
name_short Int4 = omega arith
name_short Date = omega arith
name_short Time = omega arith
name_short Datetime = omega arith

pub nullable_short : (n : Option Bool) → length (print_nullable n) ≤ 8
unfolding print_nullable ascii
nullable_short None = omega arith
nullable_short (Some false) = omega arith
nullable_short (Some true) = omega arith

-- what no code is of a nullable says nothing
pub nullable_unknown : (k : ℕ) → (k ≡ 1 → ⊥) → (k ≡ 2 → ⊥) → get_or nullables k None ≡ None
nullable_unknown zero a b = refl
nullable_unknown (suc zero) a b = absurd (a refl)
nullable_unknown (suc (suc zero)) a b = absurd (b refl)
nullable_unknown (suc (suc (suc k))) a b = refl

column_length : (k : ℕ) (c : ResultColumn) → length (print_column k c) ≡ length (print_natural k) + length (name_of c.datatype) + length (print_nullable c.nullable) + 17
unfolding print_column ascii
column_length k c =
    let f = print_field (ascii "col=") (print_natural k) in
    let g = print_field (ascii "type=") (name_of c.datatype) in
    let h = print_field (ascii "null=") (print_nullable c.nullable) in
    let l₁ : length f ≡ 4 + length (print_natural k) + 1 = field-length (ascii "col=") (print_natural k) in
    let l₂ : length g ≡ 5 + length (name_of c.datatype) + 1 = field-length (ascii "type=") (name_of c.datatype) in
    let l₃ : length h ≡ 5 + length (print_nullable c.nullable) + 1 = field-length (ascii "null=") (print_nullable c.nullable) in
    omega (arith, flat_length f (g ∷ h ∷ []), flat_length g (h ∷ []), flat_length h [], none_left)
  where
    none_left : length (flatten {A = ℕ} []) ≡ 0
    none_left = unfold flatten in refl

pub column_sized : (k : ℕ) (c : ResultColumn) {d m n : ℕ} → Sized (print_natural k) 10 d → m ≡ length (name_of c.datatype) → n ≡ length (print_nullable c.nullable) → Sized (print_column k c) 64 (d + m + n + 17)
column_sized k c s e f = record {
  is = omega (arith, s.is, column_length k c);
  small = omega (arith, s.small, name_short c.datatype, nullable_short c.nullable);
}

-- ---- all columns

module _ (columns : List ℕ) (i : ℕ) where
  pub columns_turn : i < length columns → columns_text i (drop i columns) ≡ print_column i (column_in (get_or columns i 0)) ++ columns_text (i + 1) (drop (i + 1) columns)
  unfolding columns_text print_items
  columns_turn h = rw (drop-cons columns i 0 h, add-one)

  pub columns_end : length columns ≤ i → columns_text i (drop i columns) ≡ []
  unfolding columns_text print_items
  columns_end h = rw (drop_of_length-le columns h)

  pub columns_longer : i < length columns → length (columns_text i (drop i columns)) ≡ length (print_column i (column_in (get_or columns i 0))) + length (columns_text (i + 1) (drop (i + 1) columns))
  columns_longer h = ap length (columns_turn h) ∙ length-append (print_column i (column_in (get_or columns i 0))) (columns_text (i + 1) (drop (i + 1) columns))

  pub columns_empty : length columns ≤ i → length (columns_text i (drop i columns)) ≡ 0
  columns_empty h = ap length (columns_end h)

-- the lines from the i-th column on have room, and where they are written all are
pub record Remaining (w : Writer) (columns : List ℕ) (i : ℕ) (v : Writer) : Type 0 where
  pub room : Room v (columns_text i (drop i columns))
  pub then : (u : Writer) → Put v u (columns_text i (drop i columns)) → Put w u (columns_text 0 columns)

module _ {w v : Writer} {columns : List ℕ} {i : ℕ} (c : Remaining w columns i v) where
  module _ (h : i < length columns) where
    abbrev next : List ℕ
    next = print_column i (column_in (get_or columns i 0))

    abbrev rest : List ℕ
    rest = columns_text (i + 1) (drop (i + 1) columns)

    pub columns_room : Room v (print_column i (column_in (get_or columns i 0)))
    columns_room = two_first next rest (rw (columns_turn columns i h) at c.room)

    pub columns_put : {u : Writer} → Put v u (print_column i (column_in (get_or columns i 0))) → Remaining w columns (i + 1) u
    columns_put {u} p =
        let room : Room v (next ++ rest) = rw (columns_turn columns i h) at c.room in
        record { room = two_rest next rest room p; then = λ t q. c.then t (rw (columns_turn columns i h) (two_put next rest room p q)) }

  pub columns_done : length columns ≤ i → Put w v (columns_text 0 columns)
  columns_done h = c.then v (rw (columns_end columns i h) (record { same_buffer = refl; is = sym (patch_nil v.out.now v.at); next = omega arith }))

-- ---- the columns that bytes stand for

column_back : (c : ResultColumn) → column_in (column_byte c) ≡ c
column_back c =
    ap₂ (λ d n. record { datatype = d; nullable = n })
    (ap (λ x. get_or datatypes x Null) (byte_kind c) ∙ datatype_coded c.datatype)
    (ap (λ x. get_or nullables x None) (byte_nullable c) ∙ nullable_coded c.nullable)

pub columns_back : (bytes : List ℕ) (columns : List ResultColumn) → HasColumns bytes (length bytes) columns → map column_in bytes ≡ columns
columns_back bytes columns has = ext_get_or unsaid (map column_in bytes) columns (length-map bytes column_in ∙ sym has.wide) each
  where
    each : (j : ℕ) → j < length (map column_in bytes) → get_or (map column_in bytes) j unsaid ≡ get_or columns j unsaid
    each j lt = get_or-map column_in bytes j 0 ∙ ap column_in (has.stand j) ∙ column_back (get_or columns j unsaid)
