-- Changes of a value in place, on its run: `set_nullable` and `to_not_null` change the nullable field of a single column's head, `set_empty` that
-- of a table's head, `set_all_nullable` those of the single columns at the top level; so in a state, and by place. Assumes nothing.
use mathlib.Core.Path.{◌≡◌, refl, sym, ap, ap₂, ◌∙◌}
use mathlib.Core.List.{List, [], ◌∷◌, flatten, map}
use mathlib.Core.Bool.{Bool, true, false}
use Rattle.std.specs.Prelude.{Option, Some}
use Prim.Native.Nat.{ℕ, suc, ◌+◌, ◌≤◌}
use native.Mathlib.Omega.{arith}
use lib.ListN.{length, get_or}
use borrow.Author.Tests.{eq-eqb, ne_eqb}
use Rattle.model.specs.IntMap.{get, update}
use Rattle.model.specs.State.{ColumnType, Single, Record, Columns, end, entry, RegDataType, Column, Int, TableDataType, MemoryState, datatype_code, set_nullable, to_not_null, set_all_nullable}
use Rattle.model.specs.Cells.{columns_depth}
use Rattle.model.specs.Access.{with_registers, with_tables}
use Rattle.model.specs.Cursor.{set_empty, null_table, null_record}
use Rattle.model.specs.Good.{Good}
use Rattle.area.specs.Cells.{cell, blank}
use Rattle.area.specs.declared.Cell.{Cell}
use Rattle.intmap.specs.Pick.{pick}
use Rattle.intmap.specs.Pack.{head, class_key, with_nullable, tag_of}
use Rattle.intmap.specs.Entries.{span}
use Rattle.intmap.specs.Signed.{word_of}
use Rattle.encoding.specs.Encode.{nullable_code, count, single, run_column, column_runs, run_columns, run_register, run_table, runs_of}
use Rattle.intmap.specs.Swap.{swap}
use Rattle.intmap.specs.Change.{on_head}
use Rattle.encoding.specs.Heads.{single_nullable, on_heads}
use Rattle.encoding.specs.Holds.{Stands}
use Rattle.intmap.proofs.PackLaws.{head_with_nullable}
use Rattle.encoding.proofs.Packing.{code_small, nullable_small}
use Rattle.encoding.proofs.StateRuns.{update_register_lem, update_table_lem}
use Rattle.encoding.proofs.Lengths.{length-flatten, count_runs}
use Rattle.encoding.proofs.Standing.{stands_head, stands_rest, columns_whole}
use Rattle.encoding.proofs.Heads.{heads_below, heads_stand}

one_nullable : (n : ℕ) (c : Cell) → tag_of c ≡ 1 → single_nullable n c ≡ with_nullable n c
one_nullable n c t = ap (λ b. pick b (with_nullable n c) c) (eq-eqb (tag_of c) 1 t)

no_nullable : (n : ℕ) (c : Cell) → (tag_of c ≡ 1 → ⊥) → single_nullable n c ≡ c
no_nullable n c t = ap (λ b. pick b (with_nullable n c) c) (ne_eqb (tag_of c) 1 t)

module _ (n : Option Bool) where
  pub column_nullable : (c : ColumnType) (key : ℕ) → on_head (single_nullable (nullable_code n)) (run_column key c) ≡ run_column key (set_nullable n c)
  unfolding run_column
  column_nullable (Single d old) key =
      ap (λ c. c ∷ []) (one_nullable (nullable_code n) (single (datatype_code d) (nullable_code old) key) (omega arith)
      ∙ head_with_nullable 1 (datatype_code d) (nullable_code old) key (omega arith) (code_small d) (nullable_small old) 0 (nullable_code n))
  column_nullable (Record x) key = ap (λ c. c ∷ run_columns x) (no_nullable (nullable_code n) (cell (head 2 0 0 key) (count x)) (omega arith))

  pub columns_nullable : (x : Columns) → map (on_head (single_nullable (nullable_code n))) (column_runs x) ≡ column_runs (set_all_nullable n x)
  unfolding column_runs set_all_nullable
  columns_nullable end = refl
  columns_nullable (entry k c cs) = ap₂ (λ x y. x ∷ y) (column_nullable c k) (columns_nullable cs)

  pub count_nullable : (x : Columns) → count (set_all_nullable n x) ≡ count x
  unfolding set_all_nullable
  count_nullable end = refl
  count_nullable (entry k c cs) = ap suc (count_nullable cs)

  pub table_empty : (t : TableDataType) (key : ℕ) → on_head (with_nullable (nullable_code n)) (run_table key t) ≡ run_table key (set_empty n t)
  unfolding run_table
  table_empty t key = ap (λ c. c ∷ run_columns t.cols) (head_with_nullable 2 0 (nullable_code t.is_empty) key (omega arith) (omega arith) (nullable_small t.is_empty) (count t.cols) (nullable_code n))

pub register_not_null : (v : RegDataType) (key : ℕ) → on_head (single_nullable 1) (run_register key v) ≡ run_register key (to_not_null v)
unfolding run_register
register_not_null (Column c) key = column_nullable (Some false) c key
register_not_null (Int i) key = ap (λ c. c ∷ []) (no_nullable 1 (cell (head 3 0 0 key) (word_of i)) (omega arith))

-- ---- in a state: a register made not null, a table's emptiness set

module _ (limit : ℕ) (m : MemoryState) (good : Good limit m) (k : ℕ) where
  pub not_null_state : (v : RegDataType) → k ≤ 65535 → get k m.r ≡ Some v → swap (class_key 0 k) (on_head (single_nullable 1) (run_register (class_key 0 k) v) ∷ []) (runs_of m) ≡ runs_of (with_registers (update k to_not_null m.r) m)
  not_null_state v h g = ap (λ r. swap (class_key 0 k) (r ∷ []) (runs_of m)) (register_not_null v (class_key 0 k)) ∙ update_register_lem limit m good k h to_not_null v g

  pub empty_state : (n : Option Bool) (t : TableDataType) → get k m.t ≡ Some t → swap (class_key 2 k) (on_head (with_nullable (nullable_code n)) (run_table (class_key 2 k) t) ∷ []) (runs_of m) ≡ runs_of (with_tables (update k (set_empty n) m.t) m)
  empty_state n t g = ap (λ r. swap (class_key 2 k) (r ∷ []) (runs_of m)) (table_empty n t (class_key 2 k)) ∙ update_table_lem limit m good k (set_empty n) t g

-- ---- by place: the nullable of a record's or table's single columns set, where its run stands

module _ (n : Option Bool) (cs : List Cell) (p h d : ℕ) (x : Columns) where
  abbrev after : List Cell
  after = on_heads (single_nullable (nullable_code n)) d cs (count x) (p + 1)

  headed_nullable : columns_depth x ≤ d → p + 1 + length (run_columns x) ≤ length cs → Stands cs p (cell h (count x) ∷ run_columns x) → Stands after p (cell h (count (set_all_nullable n x)) ∷ run_columns (set_all_nullable n x))
  unfolding span
  headed_nullable deep fits e =
      let f = single_nullable (nullable_code n) in
      let c = cell h (count x) in
      let first : get_or after p blank ≡ cell h (count (set_all_nullable n x)) = heads_below f d (count x) cs (p + 1) p (omega arith) ∙ stands_head cs p c (run_columns x) e ∙ ap (cell h) (sym (count_nullable n x)) in
      let body : Stands (on_heads f d cs (length (column_runs x)) (p + 1)) (p + 1) (flatten (map (on_head f) (column_runs x))) = heads_stand f d (column_runs x) (columns_whole x d deep) cs (p + 1) (omega (arith, length-flatten (column_runs x))) (stands_rest cs p c (run_columns x) e) in
      let rest : Stands after (p + 1) (run_columns (set_all_nullable n x)) = rw (← columns_nullable n x, ← count_runs x) body in
      ap₂ (λ y l. y ∷ l) first rest

-- NullRow, on a table and on a register that holds a record
module _ (cs : List Cell) (p key : ℕ) where
  pub table_null : (t : TableDataType) → columns_depth t.cols ≤ 8 → p + length (run_table key t) ≤ length cs → Stands cs p (run_table key t) → Stands (on_heads (single_nullable 2) 8 cs (count t.cols) (p + 1)) p (run_table key (null_table t))
  unfolding run_table
  table_null t deep fits e = headed_nullable (Some true) cs p (head 2 0 (nullable_code t.is_empty) key) 8 t.cols deep (omega arith) e

  pub record_null : (x : Columns) → columns_depth x ≤ 8 → p + length (run_register key (Column (Record x))) ≤ length cs → Stands cs p (run_register key (Column (Record x))) → Stands (on_heads (single_nullable 2) 8 cs (count x) (p + 1)) p (run_register key (null_record (Column (Record x))))
  unfolding run_register run_column
  record_null x deep fits e = headed_nullable (Some true) cs p (head 2 0 0 key) 8 x deep (omega arith) e
