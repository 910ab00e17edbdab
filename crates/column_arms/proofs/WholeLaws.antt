-- Cells that are more than the columns that they say they have: no run that begins there is longer than they are, however deep. The cells of a
-- column's run are so. Assumes nothing.
use mathlib.Core.Path.{◌≡◌, refl, ap}
use mathlib.Core.Bool.{Bool, true, false}
use mathlib.Core.List.{List, [], ◌∷◌, ◌++◌, flatten}
use Prim.Native.Nat.{ℕ, zero, suc, ◌+◌, ◌-◌, ◌<◌, ◌≤◌}
use native.Mathlib.Omega.{arith}
use lib.Dec.{eqb, ltb}
use lib.ListN.{length, get_or, length-append}
use borrow.Author.Tests.{eq-eqb, ne_eqb, ltb-true, ltb-false}
use Rattle.model.specs.State.{ColumnType, Single, Record, Columns, end, entry, datatype_code}
use Rattle.area.specs.Cells.{blank, cell}
use Rattle.area.specs.declared.Cell.{Cell}
use Rattle.intmap.specs.Entries.{span}
use Rattle.intmap.specs.Pack.{tag_of, head}
use Rattle.intmap.specs.Pick.{pick}
use Rattle.intmap.specs.Runs.{size, sizes, whole}
use Rattle.encoding.specs.Encode.{nullable_code, single, count, run_column, run_columns}
use Rattle.column_arms.specs.Columns.{columns_in, counted}

-- ---- cells by place

module _ (cs : List Cell) where
  pub counted_parts : (a b p : ℕ) → counted (span cs p (a + b)) ≡ counted (span cs p a) + counted (span cs (p + a) b)
  unfolding counted span
  counted_parts zero b p =
      let x : 0 + b ≡ b = omega arith in
      let y : p + 0 ≡ p = omega arith in
      omega (arith, ap (λ n. counted (span cs p n)) x, ap (λ q. counted (span cs q b)) y)
  counted_parts (suc a) b p =
      let x : suc a + b ≡ suc (a + b) = omega arith in
      let y : p + suc a ≡ p + 1 + a = omega arith in
      omega (arith, counted_parts a b (p + 1), ap (λ n. counted (span cs p n)) x, ap (λ q. counted (span cs q b)) y)

  pub counted_one : (p : ℕ) → counted (span cs p 1) ≡ columns_in (get_or cs p blank)
  unfolding counted span
  counted_one p = omega arith

  -- a run has no more cells than its columns, and one
  module _ (f : ℕ → ℕ) (least : (p : ℕ) → f p ≤ 1 + counted (span cs p (f p))) where
    sizes_least : (n p : ℕ) → sizes f n p ≤ n + counted (span cs p (sizes f n p))
    unfolding sizes
    sizes_least zero p = omega arith
    sizes_least (suc n) p = omega (arith, least p, sizes_least n (p + f p), counted_parts (f p) (sizes f n (p + f p)) p)

    whole_least : (b : Bool) (p : ℕ) → eqb (tag_of (get_or cs p blank)) 2 ≡ b → whole f b (get_or cs p blank).payload p ≤ 1 + counted (span cs p (whole f b (get_or cs p blank).payload p))
    unfolding whole
    whole_least true p e =
        let n = (get_or cs p blank).payload in
        omega (arith, sizes_least n (p + 1), counted_parts 1 (sizes f n (p + 1)) p, counted_one p, ap (λ t. pick t n 0) e)
    whole_least false p e = omega arith

    -- where it goes on, its first n cells say that they have n columns at least
    module _ (more : (p n : ℕ) → n < f p → n ≤ counted (span cs p n)) where
      sizes_more : (k p n : ℕ) → n < sizes f k p → n < k + counted (span cs p n)
      unfolding sizes
      sizes_more zero p n lt = absurd (omega arith)
      sizes_more (suc k) p n lt = go (ltb n (f p)) refl (sizes_more k (p + f p) (n - f p))
        where
          go : (t : Bool) → ltb n (f p) ≡ t → (n - f p < sizes f k (p + f p) → n - f p < k + counted (span cs (p + f p) (n - f p))) → n < suc k + counted (span cs p n)
          go true e rest = omega (arith, more p n (ltb-true n (f p) e))
          go false e rest =
              let le = ltb-false n (f p) e in
              let z : f p + (n - f p) ≡ n = omega arith in
              omega (arith, rest (omega arith), counted_parts (f p) (n - f p) p, ap (λ y. counted (span cs p y)) z, least p)

      whole_more : (b : Bool) (p n : ℕ) → eqb (tag_of (get_or cs p blank)) 2 ≡ b → n < whole f b (get_or cs p blank).payload p → n ≤ counted (span cs p n)
      unfolding whole counted span
      whole_more true p zero e lt = omega arith
      whole_more true p (suc n) e lt = omega (arith, sizes_more (get_or cs p blank).payload (p + 1) n (omega arith), ap (λ t. pick t (get_or cs p blank).payload 0) e)
      whole_more false p n e lt = omega arith

  size_least : (d p : ℕ) → size cs d p ≤ 1 + counted (span cs p (size cs d p))
  unfolding size
  size_least zero p = omega arith
  size_least (suc d) p = whole_least (size cs d) (size_least d) (eqb (tag_of (get_or cs p blank)) 2) p refl

  size_more : (d p n : ℕ) → n < size cs d p → n ≤ counted (span cs p n)
  unfolding size
  size_more zero p n lt = omega arith
  size_more (suc d) p n lt = whole_more (size cs d) (size_least d) (size_more d) (eqb (tag_of (get_or cs p blank)) 2) p n refl lt

  pub whole_size : (d p n : ℕ) → counted (span cs p n) < n → size cs d p ≤ n
  whole_size d p n lt = go (ltb n (size cs d p)) refl
    where
      go : (t : Bool) → ltb n (size cs d p) ≡ t → size cs d p ≤ n
      go true e = absurd (omega (arith, size_more d p n (ltb-true n (size cs d p) e)))
      go false e = ltb-false n (size cs d p) e

-- ---- a column's cells

counted_append : (a b : List Cell) → counted (a ++ b) ≡ counted a + counted b
unfolding counted
counted_append [] b = omega arith
counted_append (c ∷ a) b = omega (arith, counted_append a b)

mutual
  unfolding run_column counted flatten

  pub counted_column : (c : ColumnType) (key : ℕ) → counted (run_column key c) + 1 ≡ length (run_column key c)
  counted_column (Single d n) key = let c = single (datatype_code d) (nullable_code n) key in omega (arith, ap (λ t. pick {A = ℕ} t 0 0) (ne_eqb (tag_of c) 2 (omega arith)))
  counted_column (Record x) key = let c = cell (head 2 0 0 key) (count x) in omega (arith, counted_columns x, ap (λ t. pick t (count x) 0) (eq-eqb (tag_of c) 2 (omega arith)))

  counted_columns : (x : Columns) → counted (run_columns x) + count x ≡ length (run_columns x)
  counted_columns end = refl
  counted_columns (entry k c xs) = omega (arith, counted_append (run_column k c) (run_columns xs), length-append (run_column k c) (run_columns xs), counted_column c k, counted_columns xs)
