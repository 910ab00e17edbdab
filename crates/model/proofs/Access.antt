-- Every access to a good state leaves a good state, and what it reads is good. Assumes nothing.
use mathlib.Core.Path.{◌≡◌, refl}
use mathlib.Core.Bool.{Bool, true, false}
use Rattle.std.specs.Prelude.{Option, None, Some}
use mathlib.Core.List.{List}
use Prim.Native.Nat.{ℕ, zero, suc, ◌≤◌}
use native.Mathlib.Omega.{arith}
use borrow.Author.Tests.{leb-true}
use lib.Dec.{leb}
use lib.IntN.{ℤ, pos, negsuc, suc_ℤ}
use Rattle.model.specs.IntMap.{Entry, get, insert, remove, update}
use Rattle.model.specs.State.{RegDataType, CursorDataType, Normal, Pseudo, TableDataType, MemoryState, map_to_columntype}
use Rattle.model.specs.Cells.{register_cells, table_cells, cells, register_depth, columns_depth}
use Rattle.model.specs.Access.{index_if, index, depth_if, judge_depth, cells_if, judge_cells, go_to, next, read_register, read_cursor, register_column, read_columns, store_register, store_cursor, store_table, update_register, update_table, remove_register}
use Rattle.model.specs.Cursor.{update_cursor_table}
use Rattle.model.specs.Good.{SortedColumn, SortedColumns, GoodRegister, GoodTable, GoodCursor, GoodMap, Good, Each, OnSome}
use Rattle.model.proofs.Tried.{Kept, refusal, value, ◌>>◌}
use Rattle.model.proofs.IntMap.{rising_insert, rising_remove, rising_update, rising_get, total_insert, total_remove, total_update}
use Rattle.model.proofs.InPlace.{NeverLarger}

-- a test that passes gives the order
tested : (P : Bool → Type 0) (a b : ℕ) → (a ≤ b → P true) → P false → P (leb a b)
tested P a b passes fails = by (leb a b) refl
  where
    by : (t : Bool) → leb a b ≡ t → P t
    by true e = passes (leb-true a b e)
    by false e = fails

pub index_small : (i : ℤ) → Kept (λ k. k ≤ 65535) (index i)
unfolding index
index_small (pos k) = tested (λ t. Kept (λ k. k ≤ 65535) (index_if t k)) k 65535 (λ h. value h) refusal
index_small (negsuc k) = refusal

depth_judged : {A : Type 0} (P : A → Type 0) (d : ℕ) (v : A) → (d ≤ 8 → P v) → Kept P (judge_depth d v)
unfolding judge_depth
depth_judged P d v h = tested (λ t. Kept P (depth_if t v)) d 8 (λ l. value (h l)) refusal

cells-judged : (limit : ℕ) (m : MemoryState) → (cells m ≤ limit → Good limit m) → Kept (Good limit) (judge_cells limit m)
unfolding judge_cells
cells-judged limit m h = tested (λ t. Kept (Good limit) (cells_if t m)) (cells m) limit (λ l. value (h l)) refusal

-- maps of good values
module _ {A : Type 0} (P : A → Type 0) (es : List (Entry A)) (s : GoodMap P es) (k : ℕ) where
  get_good : OnSome P (get k es)
  get_good = second (get k es) (rising_get (λ j v. (j ≤ 65535) × P v) k 0 es s)
    where
      second : (o : Option A) → OnSome (λ v. (k ≤ 65535) × P v) o → OnSome P o
      second None h = tt
      second (Some v) h = h.1

  insert_good : k ≤ 65535 → (v : A) → P v → GoodMap P (insert k v es)
  insert_good h v p = rising_insert (λ j v. (j ≤ 65535) × P v) k v (h, p) 0 (omega arith) es s

  remove_good : GoodMap P (remove k es)
  remove_good = rising_remove (λ j v. (j ≤ 65535) × P v) k 0 es s

  update_good : (size : A → ℕ) (g : A → A) → NeverLarger size P g → GoodMap P (update k g es)
  update_good size g no_larger = rising_update (λ j v. (j ≤ 65535) × P v) k g (λ j v h. (h.0, (no_larger v).good h.1)) 0 es s

module _ {limit : ℕ} {m : MemoryState} (g : Good limit m) where
  pub go_to_good : (i : ℤ) → Good limit (go_to i m)
  unfolding cells
  go_to_good i = record { registers = g.registers; cursors = g.cursors; tables = g.tables; fits = g.fits }

  pub next_good : Good limit (next m)
  next_good = go_to_good (suc_ℤ m.program_i)

  -- reads
  pub read_register_good : (i : ℤ) → Kept (OnSome GoodRegister) (read_register i m)
  unfolding read_register
  read_register_good i = index_small i >> λ k h. value (get_good GoodRegister m.r g.registers k)

  pub read_cursor_good : (i : ℤ) → Kept (OnSome GoodCursor) (read_cursor i m)
  unfolding read_cursor
  read_cursor_good i = index_small i >> λ k h. value (get_good GoodCursor m.p g.cursors k)

  -- a table that is there stands under an index
  pub table_good : (row : ℕ) → OnSome (λ t. (row ≤ 65535) × GoodTable t) (get row m.t)
  table_good row = rising_get (λ j t. (j ≤ 65535) × GoodTable t) row 0 m.t g.tables

  pub read_columns_good : (n : ℕ) (i : ℤ) → Kept (Each SortedColumn) (read_columns n i m)
  unfolding read_columns SortedColumn
  read_columns_good zero i = value tt
  read_columns_good (suc n) i = read_register_good i >> λ v h. read_columns_good n (suc_ℤ i) >> λ cs s. value (of v h, s)
    where
      of : (v : Option RegDataType) → OnSome GoodRegister v → SortedColumn (register_column v)
      of None h = tt
      of (Some v) h = h.sorted

  -- stores: depth and cells are judged, so that only the order is asked for, of a value within the limit
  pub store_register_good : (i : ℤ) (v : RegDataType) → (register_cells v ≤ limit → SortedColumn (map_to_columntype v)) → Kept (Good limit) (store_register limit i v m)
  unfolding store_register cells
  store_register_good i v s =
      index_small i >> λ k small.
      depth_judged (λ w. (register_depth w ≤ 8) × (register_cells w ≤ limit → SortedColumn (map_to_columntype w))) (register_depth v) v (λ d. (d, s)) >> λ w h.
      cells-judged limit _ (λ fits. record {
        registers =
            insert_good GoodRegister m.r g.registers k small w
            (record { depth = h.0; sorted = h.1 (omega (arith, fits, total_insert register_cells k w m.r)) });
        cursors = g.cursors;
        tables = g.tables;
        fits = fits;
      })

  pub store_cursor_good : (i : ℤ) (c : CursorDataType) → GoodCursor c → Kept (Good limit) (store_cursor limit i c m)
  unfolding store_cursor cells
  store_cursor_good i c p =
      index_small i >> λ k small.
      cells-judged limit _ (λ fits. record {
        registers = g.registers;
        cursors = insert_good GoodCursor m.p g.cursors k small c p;
        tables = g.tables;
        fits = fits;
      })

  pub store_table_good : (row : ℕ) → row ≤ 65535 → (t : TableDataType) → (table_cells t ≤ limit → SortedColumns t.cols 0) → Kept (Good limit) (store_table limit row t m)
  unfolding store_table cells
  store_table_good row small t s =
      depth_judged (λ u. (columns_depth u.cols ≤ 8) × (table_cells u ≤ limit → SortedColumns u.cols 0)) (columns_depth t.cols) t (λ d. (d, s)) >> λ u h.
      cells-judged limit _ (λ fits. record {
        registers = g.registers;
        cursors = g.cursors;
        tables =
            insert_good GoodTable m.t g.tables row small u
            (record { depth = h.0; sorted = h.1 (omega (arith, fits, total_insert table_cells row u m.t)) });
        fits = fits;
      })

  -- changes in place
  pub update_register_good : (i : ℤ) (f : RegDataType → RegDataType) → NeverLarger register_cells GoodRegister f → Kept (Good limit) (update_register i f m)
  unfolding update_register cells
  update_register_good i f no_larger =
      index_small i >> λ k small. value (record {
        registers = update_good GoodRegister m.r g.registers k register_cells f no_larger;
        cursors = g.cursors;
        tables = g.tables;
        fits = omega (arith, g.fits, total_update register_cells k f (λ v. (no_larger v).smaller) m.r);
      })

  pub update_table_good : (row : ℕ) (f : TableDataType → TableDataType) → NeverLarger table_cells GoodTable f → Good limit (update_table row f m)
  unfolding update_table cells
  update_table_good row f no_larger =
      record {
        registers = g.registers;
        cursors = g.cursors;
        tables = update_good GoodTable m.t g.tables row table_cells f no_larger;
        fits = omega (arith, g.fits, total_update table_cells row f (λ v. (no_larger v).smaller) m.t);
      }

  -- of the table that a cursor stands for
  pub update_cursor_table_good : (f : TableDataType → TableDataType) → NeverLarger table_cells GoodTable f → (c : Option CursorDataType) → Good limit (update_cursor_table f c m)
  unfolding update_cursor_table
  update_cursor_table_good f no_larger None = g
  update_cursor_table_good f no_larger (Some (Normal row)) = update_table_good row f no_larger
  update_cursor_table_good f no_larger (Some (Pseudo i)) = g

  pub remove_register_good : (i : ℤ) → Kept (Good limit) (remove_register i m)
  unfolding remove_register cells
  remove_register_good i =
      index_small i >> λ k small. value (record {
        registers = remove_good GoodRegister m.r g.registers k;
        cursors = g.cursors;
        tables = g.tables;
        fits = omega (arith, g.fits, total_remove register_cells k m.r);
      })
