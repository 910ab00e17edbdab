-- The test of equality on states is true exactly for equal states; and so is each test that it is made of. Assumes nothing.
use mathlib.Core.Path.{◌≡◌, refl, sym, ap, ap₂, ◌∙◌}
use mathlib.Core.Bool.{Bool, true, false, ◌&&◌, beq, false≢true}
use Rattle.std.specs.Prelude.{Option, None, Some}
use mathlib.Core.List.{List, [], ◌∷◌}
use borrow.Author.Tests.{eqb-true, eq-eqb}
use lib.Dec.{eqb}
use lib.IntN.{ℤ, pos, negsuc}
use lib.ListN.{get_or}
use Rattle.std.specs.Cmp.Derive.{both_true}
use Rattle.type_info.specs.declared.DataType.{DataType}
use Rattle.type_info.specs.declared.DataType.TheVariants.{Null, Integer, Float, Text, Blob, Numeric, Bool as Boolean, Int4, Date, Time, Datetime}
use Rattle.model.specs.IntMap.{Entry}
use Rattle.model.specs.State.{ColumnType, Single, Record, Columns, end, entry, RegDataType, Column, Int, CursorDataType, Normal, Pseudo, TableDataType, MemoryState, datatype_code}
use Rattle.model.specs.Equality.{Decides, eq_datatype, eq_nullable, eq_int, eq_column, eq_columns, eq_register, eq_cursor, eq_table, eq_map, eq_state}

-- two tests in a row
split : (a b : Bool) → a && b ≡ true → (a ≡ true) × (b ≡ true)
split true b e = (refl, e)
split false b e = absurd (false≢true e)

nat_decides : Decides eqb
nat_decides = record { sound = eqb-true; reflexive = λ a. eq-eqb a a refl }

datatypes : List DataType
datatypes = Null ∷ Integer ∷ Float ∷ Text ∷ Blob ∷ Numeric ∷ Boolean ∷ Int4 ∷ Date ∷ Time ∷ Datetime ∷ []

coded : (d : DataType) → get_or datatypes (datatype_code d) Null ≡ d
unfolding datatypes
coded Null = refl
coded Integer = refl
coded Float = refl
coded Text = refl
coded Blob = refl
coded Numeric = refl
coded Boolean = refl
coded Int4 = refl
coded Date = refl
coded Time = refl
coded Datetime = refl

pub code-injective : (a b : DataType) → datatype_code a ≡ datatype_code b → a ≡ b
code-injective a b e = sym (coded a) ∙ ap (λ c. get_or datatypes c Null) e ∙ coded b

pub datatype_decides : Decides eq_datatype
datatype_decides =
    record {
      sound = λ a b e. code-injective a b (eqb-true (datatype_code a) (datatype_code b) e);
      reflexive = λ a. nat_decides.reflexive (datatype_code a);
    }

bool_sound : (a b : Bool) → beq a b ≡ true → a ≡ b
bool_sound true true e = refl
bool_sound true false e = sym e
bool_sound false true e = e
bool_sound false false e = refl

bool_reflexive : (a : Bool) → beq a a ≡ true
bool_reflexive true = refl
bool_reflexive false = refl

nullable_sound : (a b : Option Bool) → eq_nullable a b ≡ true → a ≡ b
nullable_sound None None e = refl
nullable_sound None (Some b) e = absurd (false≢true e)
nullable_sound (Some a) None e = absurd (false≢true e)
nullable_sound (Some a) (Some b) e = ap {B = Option Bool} Some (bool_sound a b e)

nullable_reflexive : (a : Option Bool) → eq_nullable a a ≡ true
nullable_reflexive None = refl
nullable_reflexive (Some a) = bool_reflexive a

pub nullable_decides : Decides eq_nullable
nullable_decides = record { sound = nullable_sound; reflexive = nullable_reflexive }

int_sound : (a b : ℤ) → eq_int a b ≡ true → a ≡ b
int_sound (pos a) (pos b) e = ap pos (eqb-true a b e)
int_sound (pos a) (negsuc b) e = absurd (false≢true e)
int_sound (negsuc a) (pos b) e = absurd (false≢true e)
int_sound (negsuc a) (negsuc b) e = ap negsuc (eqb-true a b e)

int_reflexive : (a : ℤ) → eq_int a a ≡ true
int_reflexive (pos a) = nat_decides.reflexive a
int_reflexive (negsuc a) = nat_decides.reflexive a

pub int_decides : Decides eq_int
int_decides = record { sound = int_sound; reflexive = int_reflexive }

mutual
  unfolding eq_column

  column_sound : (a b : ColumnType) → eq_column a b ≡ true → a ≡ b
  column_sound (Single a m) (Single b n) e =
      let h = split (eq_datatype a b) (eq_nullable m n) e in ap₂ Single (datatype_decides.sound a b h.0) (nullable_sound m n h.1)
  column_sound (Single a m) (Record y) e = absurd (false≢true e)
  column_sound (Record x) (Single b n) e = absurd (false≢true e)
  column_sound (Record x) (Record y) e = ap Record (columns_sound x y e)

  columns_sound : (a b : Columns) → eq_columns a b ≡ true → a ≡ b
  columns_sound end end e = refl
  columns_sound end (entry j d ds) e = absurd (false≢true e)
  columns_sound (entry k c cs) end e = absurd (false≢true e)
  columns_sound (entry k c cs) (entry j d ds) e =
      let h = split (eqb k j) (eq_column c d && eq_columns cs ds) e in
      let i = split (eq_column c d) (eq_columns cs ds) h.1 in
      let p = eqb-true k j h.0 in
      let q = column_sound c d i.0 in
      let r = columns_sound cs ds i.1 in
      λ x. entry (p x) (q x) (r x)

mutual
  unfolding eq_column

  column_reflexive : (a : ColumnType) → eq_column a a ≡ true
  column_reflexive (Single a m) = both_true (datatype_decides.reflexive a) (nullable_reflexive m)
  column_reflexive (Record x) = columns_reflexive x

  columns_reflexive : (a : Columns) → eq_columns a a ≡ true
  columns_reflexive end = refl
  columns_reflexive (entry k c cs) = both_true (nat_decides.reflexive k) (both_true (column_reflexive c) (columns_reflexive cs))

register_sound : (a b : RegDataType) → eq_register a b ≡ true → a ≡ b
unfolding eq_register
register_sound (Column a) (Column b) e = ap Column (column_sound a b e)
register_sound (Column a) (Int b) e = absurd (false≢true e)
register_sound (Int a) (Column b) e = absurd (false≢true e)
register_sound (Int a) (Int b) e = ap Int (int_sound a b e)

register_reflexive : (a : RegDataType) → eq_register a a ≡ true
unfolding eq_register
register_reflexive (Column a) = column_reflexive a
register_reflexive (Int a) = int_reflexive a

cursor-sound : (a b : CursorDataType) → eq_cursor a b ≡ true → a ≡ b
unfolding eq_cursor
cursor-sound (Normal a) (Normal b) e = ap Normal (eqb-true a b e)
cursor-sound (Normal a) (Pseudo b) e = absurd (false≢true e)
cursor-sound (Pseudo a) (Normal b) e = absurd (false≢true e)
cursor-sound (Pseudo a) (Pseudo b) e = ap Pseudo (int_sound a b e)

cursor_reflexive : (a : CursorDataType) → eq_cursor a a ≡ true
unfolding eq_cursor
cursor_reflexive (Normal a) = nat_decides.reflexive a
cursor_reflexive (Pseudo a) = int_reflexive a

table-sound : (a b : TableDataType) → eq_table a b ≡ true → a ≡ b
unfolding eq_table
table-sound a b e =
    let h = split (eq_columns a.cols b.cols) (eq_nullable a.is_empty b.is_empty) e in
    let p = columns_sound a.cols b.cols h.0 in
    let q = nullable_sound a.is_empty b.is_empty h.1 in
    λ i. record { cols = p i; is_empty = q i }

table_reflexive : (a : TableDataType) → eq_table a a ≡ true
unfolding eq_table
table_reflexive a = both_true (columns_reflexive a.cols) (nullable_reflexive a.is_empty)

module _ {A : Type 0} (eq : A → A → Bool) (d : Decides eq) where
  map_sound : (xs ys : List (Entry A)) → eq_map eq xs ys ≡ true → xs ≡ ys
  unfolding eq_map
  map_sound [] [] e = refl
  map_sound [] (y ∷ ys) e = absurd (false≢true e)
  map_sound (x ∷ xs) [] e = absurd (false≢true e)
  map_sound (x ∷ xs) (y ∷ ys) e =
      let h = split (eqb x.key y.key) (eq x.value y.value && eq_map eq xs ys) e in
      let g = split (eq x.value y.value) (eq_map eq xs ys) h.1 in
      let p = eqb-true x.key y.key h.0 in
      let q = d.sound x.value y.value g.0 in
      let r = map_sound xs ys g.1 in
      λ i. record { key = p i; value = q i } ∷ r i

  map_reflexive : (xs : List (Entry A)) → eq_map eq xs xs ≡ true
  unfolding eq_map
  map_reflexive [] = refl
  map_reflexive (x ∷ xs) = both_true (nat_decides.reflexive x.key) (both_true (d.reflexive x.value) (map_reflexive xs))

  pub map_decides : Decides (eq_map eq)
  map_decides = record { sound = map_sound; reflexive = map_reflexive }

pub registers_decide : Decides (eq_map eq_register)
registers_decide = map_decides eq_register (record { sound = register_sound; reflexive = register_reflexive })

pub cursors_decide : Decides (eq_map eq_cursor)
cursors_decide = map_decides eq_cursor (record { sound = cursor-sound; reflexive = cursor_reflexive })

pub tables_decide : Decides (eq_map eq_table)
tables_decide = map_decides eq_table (record { sound = table-sound; reflexive = table_reflexive })

state_sound : (a b : MemoryState) → eq_state a b ≡ true → a ≡ b
unfolding eq_state
state_sound a b e =
    let h = split (eq_int a.program_i b.program_i) _ e in
    let g = split (eq_map eq_register a.r b.r) _ h.1 in
    let f = split (eq_map eq_cursor a.p b.p) _ g.1 in
    let i = int_sound a.program_i b.program_i h.0 in
    let r = registers_decide.sound a.r b.r g.0 in
    let p = cursors_decide.sound a.p b.p f.0 in
    let t = tables_decide.sound a.t b.t f.1 in
    λ x. record { program_i = i x; r = r x; p = p x; t = t x }

state_reflexive : (a : MemoryState) → eq_state a a ≡ true
unfolding eq_state
state_reflexive a =
    both_true (int_reflexive a.program_i) (both_true (registers_decide.reflexive a.r) (both_true (cursors_decide.reflexive a.p) (tables_decide.reflexive a.t)))

pub state_decides : Decides eq_state
state_decides = record { sound = state_sound; reflexive = state_reflexive }
