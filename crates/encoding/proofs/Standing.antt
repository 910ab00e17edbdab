-- Where runs stand: two, one after the other, stand each by itself; of good values, `size` by place is a run's length, and `entries` by place
-- are the runs that stand there, for the columns of a record and for a whole state. Assumes nothing.
use mathlib.Core.Path.{◌≡◌, refl, sym, ap, ap₂, ◌∙◌}
use mathlib.Core.List.{List, [], ◌∷◌, ◌++◌, flatten}
use Prim.Native.Nat.{ℕ, zero, suc, ◌+◌, ◌-◌, ◌%◌, ◌<◌, ◌≤◌}
use native.Mathlib.Omega.{arith}
use lib.ListN.{length, get_or, take, drop, length-append}
use lib.Seq.{take-append_seam, drop-append_seam}
use Rattle.model.specs.IntMap.{Entry, Rising}
use Rattle.model.specs.State.{ColumnType, Single, Record, Columns, end, entry, RegDataType, Column, Int, CursorDataType, Normal, Pseudo, TableDataType, MemoryState, datatype_code}
use Rattle.model.specs.Cells.{column_depth, columns_depth, register_depth}
use Rattle.model.specs.Good.{Each, GoodRegister, GoodCursor, GoodTable, Good}
use Rattle.area.specs.Cells.{cell, blank}
use Rattle.area.specs.declared.Cell.{Cell}
use Rattle.intmap.specs.Pack.{head}
use Rattle.intmap.specs.Runs.{size, sizes}
use Rattle.intmap.proofs.RunLaws.{size-single, size_record}
use Rattle.intmap.specs.Entries.{span, entries, total, Runs}
use Rattle.intmap.proofs.EntryLaws.{total-sizes, length-span}
use Rattle.intmap.specs.Signed.{word_of}
use Rattle.encoding.specs.Encode.{nullable_code, count, single, run_column, column_runs, run_columns, run_register, run_cursor, run_table, run_map, runs_of}
use Rattle.encoding.specs.Holds.{Stands}
use Rattle.encoding.proofs.Lengths.{length-flatten, count_runs}

span_append : (cs : List Cell) (p a b : ℕ) → span cs p (a + b) ≡ span cs p a ++ span cs (p + a) b
unfolding span
span_append cs p zero b = let x : 0 + b ≡ b = omega arith in let y : p + 0 ≡ p = omega arith in rw (x, y)
span_append cs p (suc a) b =
    let x : suc a + b ≡ suc (a + b) = omega arith in
    let y : p + suc a ≡ p + 1 + a = omega arith in
    rw (x, y) (ap (λ l. get_or cs p blank ∷ l) (span_append cs (p + 1) a b))

-- two runs, one after the other
module _ (cs : List Cell) (p : ℕ) (a b : List Cell) where
  two : Stands cs p (a ++ b) → span cs p (length a) ++ span cs (p + length a) (length b) ≡ a ++ b
  two e = sym (span_append cs p (length a) (length b)) ∙ ap (span cs p) (sym (length-append a b)) ∙ e

  pub stands_first : Stands cs p (a ++ b) → Stands cs p a
  stands_first e =
      sym (take-append_seam (span cs p (length a)) (span cs (p + length a) (length b)))
      ∙ ap₂ take (length-span cs p (length a)) (two e)
      ∙ take-append_seam a b

  pub stands_second : Stands cs p (a ++ b) → Stands cs (p + length a) b
  stands_second e =
      sym (drop-append_seam (span cs p (length a)) (span cs (p + length a) (length b)))
      ∙ ap₂ drop (length-span cs p (length a)) (two e)
      ∙ drop-append_seam a b

  pub stands_both : Stands cs p a → Stands cs (p + length a) b → Stands cs p (a ++ b)
  stands_both e f = ap (span cs p) (length-append a b) ∙ span_append cs p (length a) (length b) ∙ ap₂ ◌++◌ e f

-- a cell and what follows it
module _ (cs : List Cell) (p : ℕ) (c : Cell) (r : List Cell) where
  pub stands_head : Stands cs p (c ∷ r) → get_or cs p blank ≡ c
  unfolding span
  stands_head e = cc

  pub stands_rest : Stands cs p (c ∷ r) → Stands cs (p + 1) r
  unfolding span
  stands_rest e = cc

-- runs that are seen as long as they are, wherever they stand
abbrev pub Whole : ℕ → List Cell → Type 0
Whole d r = (cs : List Cell) (p : ℕ) → Stands cs p r → size cs d p ≡ length r

pub entries_stand : (d : ℕ) (rs : Runs) → Each (Whole d) rs → (cs : List Cell) (p : ℕ) → Stands cs p (flatten rs) → entries cs d (length rs) p ≡ rs
unfolding entries flatten
entries_stand d [] w cs p e = refl
entries_stand d (r ∷ rs) w cs p e =
    let f = stands_first cs p r (flatten rs) e in
    let s : size cs d p ≡ length r = w.0 cs p f in
    rw s (ap₂ (λ x y. x ∷ y) f (entries_stand d rs w.1 cs (p + length r) (stands_second cs p r (flatten rs) e)))

-- and the other way round
pub entries_flat : (cs : List Cell) (d n p : ℕ) → flatten (entries cs d n p) ≡ span cs p (sizes (size cs d) n p)
unfolding entries flatten sizes span
entries_flat cs d zero p = refl
entries_flat cs d (suc n) p = ap (λ l. span cs p (size cs d p) ++ l) (entries_flat cs d n (p + size cs d p)) ∙ sym (span_append cs p (size cs d p) (sizes (size cs d) n (p + size cs d p)))

pub stand_entries : (cs : List Cell) (d n p : ℕ) (rs : Runs) → entries cs d n p ≡ rs → Stands cs p (flatten rs)
stand_entries cs d n p rs e = ap (span cs p) (length-flatten rs ∙ ap total (sym e) ∙ sym (total-sizes cs d n p)) ∙ sym (entries_flat cs d n p) ∙ ap flatten e

-- the columns of a record or table from p on
module _ (d : ℕ) (x : Columns) (w : Each (Whole d) (column_runs x)) (cs : List Cell) (p : ℕ) (e : Stands cs p (run_columns x)) where
  entries_columns : entries cs d (count x) p ≡ column_runs x
  entries_columns = ap (λ n. entries cs d n p) (sym (count_runs x)) ∙ entries_stand d (column_runs x) w cs p e

  sizes_columns : sizes (size cs d) (count x) p ≡ length (run_columns x)
  sizes_columns = total-sizes cs d (count x) p ∙ ap total entries_columns ∙ sym (length-flatten (column_runs x))

-- a record's or table's head, with its columns after it
headed-whole : (h d : ℕ) (x : Columns) → h % 256 ≡ 2 → 0 < d → Each (Whole (d - 1)) (column_runs x) → Whole d (cell h (count x) ∷ run_columns x)
headed-whole h d x tag deep w cs p e =
    let a = stands_head cs p (cell h (count x)) (run_columns x) e in
    let b = stands_rest cs p (cell h (count x)) (run_columns x) e in
    sym (size_record cs d p (cell h (count x)) (sym a) deep tag) ∙ omega (arith, sizes_columns (d - 1) x w cs (p + 1) b)

-- a run of one cell
one-whole : (d : ℕ) (c : Cell) → (c.head % 256 ≡ 2 → ⊥) → Whole d (c ∷ [])
one-whole d c tag cs p e = sym (size-single cs d p c (sym (stands_head cs p c [] e)) tag)

mutual
  unfolding run_column column_depth

  pub column_whole : (c : ColumnType) (d key : ℕ) → column_depth c ≤ d → Whole d (run_column key c)
  column_whole (Single k n) d key h = one-whole d (single (datatype_code k) (nullable_code n) key) (omega arith)
  column_whole (Record x) d key h = headed-whole (head 2 0 0 key) d x (omega arith) (omega arith) (columns_whole x (d - 1) (omega arith))

  pub columns_whole : (x : Columns) (d : ℕ) → columns_depth x ≤ d → Each (Whole d) (column_runs x)
  columns_whole end d h = tt
  columns_whole (entry k c cs) d h = (column_whole c d k (omega arith), columns_whole cs d (omega arith))

pub register_whole : (v : RegDataType) (key : ℕ) → register_depth v ≤ 8 → Whole 9 (run_register key v)
unfolding run_register register_depth
register_whole (Column c) key h = column_whole c 9 key (omega arith)
register_whole (Int i) key h = one-whole 9 (cell (head 3 0 0 key) (word_of i)) (omega arith)

pub cursor-whole : (v : CursorDataType) (key : ℕ) → Whole 9 (run_cursor key v)
unfolding run_cursor
cursor-whole (Normal row) key = one-whole 9 (cell (head 4 0 0 key) row) (omega arith)
cursor-whole (Pseudo i) key = one-whole 9 (cell (head 5 0 0 key) (word_of i)) (omega arith)

pub table-whole : (v : TableDataType) (key : ℕ) → columns_depth v.cols ≤ 8 → Whole 9 (run_table key v)
unfolding run_table
table-whole t key h = headed-whole (head 2 0 (nullable_code t.is_empty) key) 9 t.cols (omega arith) (omega arith) (columns_whole t.cols 8 h)

map_whole : {A : Type 0} (run : ℕ → A → List Cell) (Q : A → Type 0) → ((v : A) (key : ℕ) → Q v → Whole 9 (run key v)) → (class low : ℕ) (es : List (Entry A)) → Rising (λ k v. (k ≤ 65535) × Q v) low es → Each (Whole 9) (run_map run class es)
unfolding run_map
map_whole run Q each class low [] s = tt
map_whole run Q each class low (e ∷ es) s = (each e.value _ s.1.1, map_whole run Q each class (suc e.key) es s.2)

pub each_append : {A : Type 0} (P : A → Type 0) (a b : List A) → Each P a → Each P b → Each P (a ++ b)
each_append P [] b f g = g
each_append P (x ∷ a) b f g = (f.0, each_append P a b f.1 g)

pub runs-whole : (limit : ℕ) (m : MemoryState) → Good limit m → Each (Whole 9) (runs_of m)
unfolding runs_of
runs-whole limit m good =
    each_append (Whole 9) (run_map run_register 0 m.r) _ (map_whole run_register GoodRegister (λ v key g. register_whole v key g.depth) 0 0 m.r good.registers)
    (each_append (Whole 9) (run_map run_cursor 1 m.p) _ (map_whole run_cursor GoodCursor (λ v key g. cursor-whole v key) 1 0 m.p good.cursors)
    (map_whole run_table GoodTable (λ v key g. table-whole v key g.depth) 2 0 m.t good.tables))
