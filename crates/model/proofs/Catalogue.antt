-- The catalogue's columns for a database and a page: sorted if the records' column numbers are indexes, plain, and each the one of the last
-- record for it. Assumes nothing.
use mathlib.Core.Path.{◌≡◌, refl, ap, ◌∙◌}
use mathlib.Core.Bool.{Bool, true, false}
use Rattle.std.specs.Prelude.{Some}
use mathlib.Core.List.{List, [], ◌∷◌}
use Prim.Native.Nat.{ℕ, suc, ◌≤◌}
use native.Mathlib.Omega.{arith}
use lib.IntN.{ℤ}
use Rattle.model.specs.IntMap.{Entry, get, insert, Rising}
use Rattle.model.specs.State.{ColumnType, as_columns}
use Rattle.model.specs.Cells.{column_depth, columns_depth}
use Rattle.model.specs.Catalogue.{CatalogueRecord, record_column, is_for, add_if, columns_after, columns_at}
use Rattle.model.specs.Meaning.{standard}
use Rattle.model.specs.Good.{SortedColumn, SortedColumns, GoodMeaning, Each}
use Rattle.model.proofs.IntMap.{rising_insert, get_insert_same, get_insert_other}
use Rattle.model.proofs.Sorted.{SortedAt, sorted_as_columns}

-- a property of every record's column is one of the columns made
module _ (P : ℕ → ColumnType → Type 0) (db page : ℤ) where
  after_rising : (es : List (Entry ColumnType)) → Rising P 0 es → (xs : List CatalogueRecord) → Each (λ x. P x.col (record_column x)) xs → Rising P 0 (columns_after es db page xs)
  unfolding columns_after
  after_rising es s [] h = s
  after_rising es s (x ∷ xs) h = after_rising (add_if (is_for db page x) x es) (by (is_for db page x)) xs h.1
    where
      by : (b : Bool) → Rising P 0 (add_if b x es)
      by true = rising_insert P x.col (record_column x) h.0 0 (omega arith) es s
      by false = s

each : {A : Type 0} (P Q : A → Type 0) → ((a : A) → P a → Q a) → (xs : List A) → Each P xs → Each Q xs
each P Q f [] h = tt
each P Q f (x ∷ xs) h = (f x h.0, each P Q f xs h.1)

always : {A : Type 0} (Q : A → Type 0) → ((a : A) → Q a) → (xs : List A) → Each Q xs
always Q f [] = tt
always Q f (x ∷ xs) = (f x, always Q f xs)

-- 01's bound on `col=`
abbrev pub SmallColumn : CatalogueRecord → Type 0
SmallColumn x = x.col ≤ 65535

pub columns_at_sorted : (xs : List CatalogueRecord) → Each SmallColumn xs → (db page : ℤ) → SortedColumns (columns_at xs db page) 0
unfolding columns_at record_column SortedColumn
columns_at_sorted xs h db page =
    sorted_as_columns _ 0 (after_rising SortedAt db page [] tt xs (each SmallColumn (λ x. SortedAt x.col (record_column x)) (λ x small. (small, tt)) xs h))

pub standard_good : (xs : List CatalogueRecord) → Each SmallColumn xs → GoodMeaning (standard xs)
standard_good xs h = record { columns = columns_at_sorted xs h; limit = omega arith }

-- no column is a record
Flat : ℕ → ColumnType → Type 0
Flat k c = column_depth c ≡ 0

flat_as_columns : (es : List (Entry ColumnType)) (low : ℕ) → Rising Flat low es → columns_depth (as_columns es) ≡ 0
unfolding as_columns column_depth Flat
flat_as_columns [] low s = refl
flat_as_columns (e ∷ es) low s = omega (arith, s.1, flat_as_columns es (suc e.key) s.2)

pub columns_at_flat : (xs : List CatalogueRecord) (db page : ℤ) → columns_depth (columns_at xs db page) ≡ 0
unfolding columns_at column_depth record_column Flat
columns_at_flat xs db page =
    flat_as_columns (columns_after [] db page xs) 0 (after_rising Flat db page [] tt xs (always (λ x. Flat x.col (record_column x)) (λ x. refl) xs))

-- "the later record holds": one for a column is found if no later one is for it
module _ (db page : ℤ) (k : ℕ) where
  -- the record is for this database, page and column
  abbrev pub IsFor : CatalogueRecord → Type 0
  IsFor x = (is_for db page x ≡ true) × (x.col ≡ k)

  add_other : (b : Bool) (x : CatalogueRecord) (es : List (Entry ColumnType)) → ((b ≡ true) × (x.col ≡ k) → ⊥) → get k (add_if b x es) ≡ get k es
  add_other true x es other = get_insert_other x.col (record_column x) k (λ p. other (refl, p)) es
  add_other false x es other = refl

  after_others : (es : List (Entry ColumnType)) (xs : List CatalogueRecord) → Each (λ x. IsFor x → ⊥) xs → get k (columns_after es db page xs) ≡ get k es
  unfolding columns_after
  after_others es [] h = refl
  after_others es (x ∷ xs) h = after_others (add_if (is_for db page x) x es) xs h.1 ∙ add_other (is_for db page x) x es h.0

  pub later_holds : (es : List (Entry ColumnType)) (x : CatalogueRecord) (xs : List CatalogueRecord) → IsFor x → Each (λ y. IsFor y → ⊥) xs → get k (columns_after es db page (x ∷ xs)) ≡ Some (record_column x)
  unfolding columns_after
  later_holds es x xs h later =
      after_others (add_if (is_for db page x) x es) xs later
      ∙ ap (λ b. get k (add_if b x es)) h.0
      ∙ ap (λ j. get k (insert j (record_column x) es)) h.1
      ∙ get_insert_same k (record_column x) es
