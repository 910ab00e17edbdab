-- Where a column's run stands, `nesting` by place is the column's depth; a table's head is one level more than its columns. Assumes nothing.
use mathlib.Core.Path.{◌≡◌, refl, sym, ap₂, ◌∙◌}
use mathlib.Core.List.{List, [], ◌∷◌, flatten}
use Prim.Native.Nat.{ℕ, suc, ◌+◌, ◌-◌, ◌%◌, ◌<◌, ◌≤◌, max}
use native.Mathlib.Omega.{arith}
use lib.ListN.{length}
use Rattle.model.specs.State.{ColumnType, Single, Record, Columns, end, entry, RegDataType, Column, Int, TableDataType, datatype_code}
use Rattle.model.specs.Cells.{column_depth, columns_depth, register_depth}
use Rattle.area.specs.Cells.{cell}
use Rattle.area.specs.declared.Cell.{Cell}
use Rattle.intmap.specs.Pack.{head}
use Rattle.intmap.specs.Runs.{size}
use Rattle.intmap.specs.Depth.{nesting, nestings}
use Rattle.intmap.proofs.DepthLaws.{nesting-single, nesting_record, nestings_end, nestings-turn}
use Rattle.intmap.specs.Signed.{word_of}
use Rattle.encoding.specs.Encode.{nullable_code, count, single, run_column, run_columns, run_register, run_table}
use Rattle.encoding.specs.Holds.{Stands}
use Rattle.encoding.proofs.Standing.{stands_first, stands_second, stands_head, stands_rest, column_whole}

module _ (cs : List Cell) (d : ℕ) where
  nestings_none : (p : ℕ) → nestings cs d 0 p ≡ 0
  nestings_none p = omega (arith, nestings_end cs d 0 p 0 (max 0 (nestings cs d 0 p)) (omega arith) refl)

  nestings_more : (n p : ℕ) → nestings cs d (suc n) p ≡ max (nesting cs d p) (nestings cs d n (p + size cs d p))
  nestings_more n p =
      let z : p + 0 ≡ p = omega arith in
      let y : suc n - 1 ≡ n = omega arith in
      let x : p + (0 + size cs d p) ≡ p + size cs d p = omega arith in
      let t = nestings-turn cs d (suc n) p 0 (size cs d p) 0 (nesting cs d p) (nesting cs d p) (nestings cs d (suc n) p) (omega arith) (rw z) (rw z) (omega arith) (rw z (omega arith)) in
      sym (rw (y, x) at t)

-- a run of one cell, and a head with its columns after it
one-nesting : (c : Cell) (cs : List Cell) (p d : ℕ) → (c.head % 256 ≡ 2 → ⊥) → Stands cs p (c ∷ []) → nesting cs d p ≡ 0
one-nesting c cs p d tag e = sym (nesting-single cs d p c (sym (stands_head cs p c [] e)) tag)

headed-nesting : (h : ℕ) (x : Columns) (cs : List Cell) (p d : ℕ) → h % 256 ≡ 2 → 0 < d → Stands cs p (cell h (count x) ∷ run_columns x)
    → (Stands cs (p + 1) (run_columns x) → nestings cs (d - 1) (count x) (p + 1) ≡ columns_depth x) → nesting cs d p ≡ suc (columns_depth x)
headed-nesting h x cs p d tag deep e columns =
    sym (nesting_record cs d p (cell h (count x)) (sym (stands_head cs p (cell h (count x)) (run_columns x) e)) deep tag)
    ∙ omega (arith, columns (stands_rest cs p (cell h (count x)) (run_columns x) e))

mutual
  unfolding run_column column_depth flatten

  pub column_nesting : (c : ColumnType) (cs : List Cell) (p d key : ℕ) → column_depth c ≤ d → Stands cs p (run_column key c) → nesting cs d p ≡ column_depth c
  column_nesting (Single k n) cs p d key h e = one-nesting (single (datatype_code k) (nullable_code n) key) cs p d (omega arith) e
  column_nesting (Record x) cs p d key h e = headed-nesting (head 2 0 0 key) x cs p d (omega arith) (omega arith) e (λ g. columns_nesting x cs (p + 1) (d - 1) (omega arith) g)

  pub columns_nesting : (x : Columns) (cs : List Cell) (p d : ℕ) → columns_depth x ≤ d → Stands cs p (run_columns x) → nestings cs d (count x) p ≡ columns_depth x
  columns_nesting end cs p d h e = nestings_none cs d p
  columns_nesting (entry k c xs) cs p d h e =
      let a = stands_first cs p (run_column k c) (run_columns xs) e in
      let s : size cs d p ≡ length (run_column k c) = column_whole c d k (omega arith) cs p a in
      nestings_more cs d (count xs) p
      ∙ ap₂ max (column_nesting c cs p d k (omega arith) a)
      (rw s (columns_nesting xs cs (p + length (run_column k c)) d (omega arith) (stands_second cs p (run_column k c) (run_columns xs) e)))

pub register_nesting : (v : RegDataType) (cs : List Cell) (p d key : ℕ) → register_depth v ≤ d → Stands cs p (run_register key v) → nesting cs d p ≡ register_depth v
unfolding run_register register_depth
register_nesting (Column c) cs p d key h e = column_nesting c cs p d key h e
register_nesting (Int i) cs p d key h e = one-nesting (cell (head 3 0 0 key) (word_of i)) cs p d (omega arith) e

pub table-nesting : (t : TableDataType) (cs : List Cell) (p d key : ℕ) → columns_depth t.cols < d → Stands cs p (run_table key t) → nesting cs d p ≡ suc (columns_depth t.cols)
unfolding run_table
table-nesting t cs p d key h e =
    headed-nesting (head 2 0 (nullable_code t.is_empty) key) t.cols cs p d (omega arith) (omega arith) e (columns_nesting t.cols cs (p + 1) (d - 1) (omega arith))
