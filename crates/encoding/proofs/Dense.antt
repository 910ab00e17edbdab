-- The runs of records that are made of columns: of `from_dense_record` the columns' runs under the keys 0, 1, 2, ..., of `from_elem` as many
-- single columns; a run under another key is the run of the same value; and a register's run as a column's, a table's as a record's.
-- Assumes nothing.
use mathlib.Core.Path.{◌≡◌, refl, sym, ap, ap₂, ◌∙◌}
use mathlib.Core.List.{List, [], ◌∷◌, ◌++◌, flatten, map}
use mathlib.Core.Bool.{Bool, false}
use Rattle.std.specs.Prelude.{Option, None, Some}
use Prim.Native.Nat.{ℕ, zero, suc, ◌+◌, ◌%◌}
use native.Mathlib.Omega.{arith}
use lib.ListN.{length, replicate}
use borrow.Author.Tests.{eq-eqb, ne_eqb}
use Rattle.type_info.specs.declared.DataType.{DataType}
use Rattle.type_info.specs.declared.DataType.TheVariants.{Integer}
use Rattle.model.specs.IntMap.{numbered}
use Rattle.model.specs.State.{ColumnType, Single, Record, Columns, map_to_columntype, as_columns, from_dense_record, from_elem, RegDataType, Column, Int, CursorDataType, Normal, Pseudo, TableDataType, datatype_code}
use Rattle.area.specs.Cells.{cell}
use Rattle.area.specs.declared.Cell.{Cell}
use Rattle.intmap.specs.Pick.{pick}
use Rattle.intmap.specs.Pack.{head, tag_of}
use Rattle.intmap.specs.Signed.{word_of}
use Rattle.encoding.specs.Encode.{nullable_code, count, single, run_column, column_runs, run_columns, run_register, run_cursor, run_table}
use Rattle.intmap.specs.Change.{on_head, rekey, rekeyed, elems}
use Rattle.encoding.specs.Heads.{as_column}
use Rattle.encoding.proofs.Packing.{code_small, nullable_small}

no_number : (c : Cell) → (tag_of c ≡ 3 → ⊥) → as_column c ≡ c
no_number c h = ap (λ b. pick b (cell (head 1 1 1 0) 0) c) (ne_eqb (tag_of c) 3 h)

-- ---- under another key

pub column_rekey : (c : ColumnType) (j key : ℕ) → rekey key (run_column j c) ≡ run_column key c
unfolding run_column
column_rekey (Single d n) j key = ap (λ h. cell h 0 ∷ []) (omega (arith, code_small d, nullable_small n))
column_rekey (Record x) j key = ap (λ h. cell h (count x) ∷ run_columns x) (omega arith)

pub register_rekey : (v : RegDataType) (j key : ℕ) → rekey key (run_register j v) ≡ run_register key v
unfolding run_register
register_rekey (Column c) j key = column_rekey c j key
register_rekey (Int i) j key = ap (λ h. cell h (word_of i) ∷ []) (omega arith)

pub cursor-rekey : (v : CursorDataType) (j key : ℕ) → rekey key (run_cursor j v) ≡ run_cursor key v
unfolding run_cursor
cursor-rekey (Normal row) j key = ap (λ h. cell h row ∷ []) (omega arith)
cursor-rekey (Pseudo i) j key = ap (λ h. cell h (word_of i) ∷ []) (omega arith)

pub table-rekey : (v : TableDataType) (j key : ℕ) → rekey key (run_table j v) ≡ run_table key v
unfolding run_table
table-rekey t j key = ap (λ h. cell h (count t.cols) ∷ run_columns t.cols) (omega (arith, nullable_small t.is_empty))

-- ---- as another value

-- a register as a column of a record
pub register_as_column : (v : RegDataType) (j key : ℕ) → rekey key (on_head as_column (run_register j v)) ≡ run_column key (map_to_columntype v)
unfolding run_register run_column
register_as_column (Column (Single d n)) j key =
    ap (λ c. rekey key (c ∷ [])) (no_number (single (datatype_code d) (nullable_code n) j) (omega arith)) ∙ column_rekey (Single d n) j key
register_as_column (Column (Record x)) j key =
    ap (λ c. rekey key (c ∷ run_columns x)) (no_number (cell (head 2 0 0 j) (count x)) (omega arith)) ∙ column_rekey (Record x) j key
register_as_column (Int i) j key =
    ap (λ b. rekey key (pick b (cell (head 1 1 1 0) 0) (cell (head 3 0 0 j) (word_of i)) ∷ [])) (eq-eqb (head 3 0 0 j % 256) 3 (omega arith)) ∙ column_rekey (Single Integer (Some false)) 0 key

-- a table of which it is not known whether it is empty has the run of a record
pub table_record : (x : Columns) (key : ℕ) → run_table key (record { cols = x; is_empty = None }) ≡ run_column key (Record x)
unfolding run_table run_column
table_record x key = refl

-- ---- columns under the keys from k on

pub numbered-runs : (k j : ℕ) (cs : List ColumnType) → column_runs (as_columns (numbered k cs)) ≡ rekeyed k (map (run_column j) cs)
unfolding column_runs as_columns numbered rekeyed
numbered-runs k j [] = refl
numbered-runs k j (c ∷ cs) = ap₂ (λ x y. x ∷ y) (sym (column_rekey c j k)) (numbered-runs (suc k) j cs)

pub dense_runs : (j : ℕ) (cs : List ColumnType) → column_runs (from_dense_record cs) ≡ rekeyed 0 (map (run_column j) cs)
dense_runs j cs = numbered-runs 0 j cs

-- one more at the end
pub numbered_more : (k : ℕ) (cs : List ColumnType) (c : ColumnType) → column_runs (as_columns (numbered k (cs ++ (c ∷ [])))) ≡ column_runs (as_columns (numbered k cs)) ++ (run_column (k + length cs) c ∷ [])
unfolding column_runs as_columns numbered
numbered_more k [] c = ap (λ j. run_column j c ∷ []) (omega arith)
numbered_more k (b ∷ cs) c =
    let e : suc k + length cs ≡ k + suc (length cs) = omega arith in
    ap (λ l. run_column k b ∷ l) (numbered_more (suc k) cs c ∙ ap (λ j. column_runs (as_columns (numbered (suc k) cs)) ++ (run_column j c ∷ [])) e)

pub numbered-count : (k : ℕ) (cs : List ColumnType) → count (as_columns (numbered k cs)) ≡ length cs
unfolding as_columns numbered
numbered-count k [] = refl
numbered-count k (c ∷ cs) = ap suc (numbered-count (suc k) cs)

-- ---- one column, n times

module _ (d : DataType) (nullable : Option Bool) (j : ℕ) where
  abbrev its : Cell
  its = single (datatype_code d) (nullable_code nullable) j

  elems_from : (k n : ℕ) → run_columns (as_columns (numbered k (replicate n (Single d nullable)))) ≡ elems its k n
  unfolding column_runs as_columns numbered flatten elems
  elems_from k zero = refl
  elems_from k (suc n) = ap₂ ◌++◌ (sym (column_rekey (Single d nullable) j k)) (elems_from (suc k) n)

  pub elem_run : (n : ℕ) → run_columns (from_elem (Single d nullable) n) ≡ elems (single (datatype_code d) (nullable_code nullable) j) 0 n
  elem_run n = elems_from 0 n
