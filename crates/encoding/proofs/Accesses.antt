-- An access to the runs of a good state is the definition's access to the state, with the same refusals: what is read is the run of what is
-- read there, and what is left are the runs of what is left there. From `StateRuns`, by key, and `Lengths`. Assumes nothing.
use mathlib.Core.Path.{◌≡◌, refl, sym, ap, ◌∙◌}
use mathlib.Core.Bool.{Bool, true, false}
use Rattle.std.specs.Prelude.{Option, None, Some, option_map}
use mathlib.Core.List.{List, [], ◌∷◌}
use Prim.Native.Nat.{ℕ, ◌≤◌}
use lib.Dec.{leb}
use lib.IntN.{ℤ, pos, negsuc}
use Rattle.model.specs.Walk.{Tried, refused, done}
use Rattle.model.specs.IntMap.{Entry, get, insert, remove, update}
use Rattle.model.specs.State.{RegDataType, CursorDataType, TableDataType, MemoryState, to_not_null}
use Rattle.model.specs.Cells.{columns_depth, register_depth, cells}
use Rattle.model.specs.Offer.{turns}
use Rattle.model.specs.Access.{◌>>=◌, index_if, index, depth_if, judge_depth, cells_if, judge_cells, with_registers, with_cursors, with_tables, read_register, read_cursor, store_register, store_cursor, store_table, update_register, update_table, remove_register}
use Rattle.model.specs.Cursor.{set_empty}
use Rattle.model.specs.Good.{Good}
use Rattle.model.proofs.Tried.{Kept, refusal, value}
use Rattle.model.proofs.Access.{index_small}
use Rattle.area.specs.declared.Cell.{Cell}
use Rattle.intmap.specs.Pick.{pick}
use Rattle.intmap.specs.Pack.{class_key, with_nullable}
use Rattle.intmap.specs.Get.{read_runs}
use Rattle.intmap.specs.Entries.{Runs, key_run}
use Rattle.intmap.specs.Swap.{swap, lookup}
use Rattle.intmap.specs.Change.{on_head, rekey}
use Rattle.intmap.specs.Store.{put, judge_runs, store_at, store_runs, remove_runs}
use Rattle.encoding.specs.Encode.{nullable_code, run_register, run_cursor, run_table, runs_of}
use Rattle.encoding.specs.Heads.{single_nullable}
use Rattle.encoding.specs.Answers.{map_tried}
use Rattle.encoding.specs.Changes.{change_if, change_at, change_runs}
use Rattle.encoding.proofs.Packing.{register_key, cursor-key, table-key}
use Rattle.encoding.proofs.Lengths.{total_runs}
use Rattle.encoding.proofs.Dense.{register_rekey, cursor-rekey, table-rekey}
use Rattle.encoding.proofs.MapRuns.{update_absent}
use Rattle.encoding.proofs.StateRuns as state
use Rattle.encoding.proofs.InPlace.{register_not_null, table_empty}

-- ---- the same refusals

pub map_bind : {A B C : Type 0} (f : B → C) (t : Tried A) (g : A → Tried B) → map_tried f (t >>= g) ≡ (t >>= λ a. map_tried f (g a))
map_bind f (refused n) g = refl
map_bind f (done a) g = refl

-- after a judged index
by_index : {A : Type 0} (i : ℤ) (f g : ℕ → Tried A) → ((k : ℕ) → k ≤ 65535 → f k ≡ g k) → (index i >>= f) ≡ (index i >>= g)
by_index {A} i f g same = go (index_small i)
  where
    go : {t : Tried ℕ} → Kept (λ k. k ≤ 65535) t → (t >>= f) ≡ (t >>= g)
    go refusal = refl
    go (value {a = k} h) = same k h

-- two values judged on one depth
by_depth : {A B C : Type 0} (d : ℕ) (a : A) (b : B) (f : A → Tried C) (g : B → Tried C) → f a ≡ g b → (judge_depth d a >>= f) ≡ (judge_depth d b >>= g)
unfolding judge_depth
by_depth d a b f g e = go (leb d 8)
  where
    go : (t : Bool) → (depth_if t a >>= f) ≡ (depth_if t b >>= g)
    go true = e
    go false = refl

pub judge-runs : (limit : ℕ) (m : MemoryState) → judge_runs limit (runs_of m) ≡ map_tried runs_of (judge_cells limit m)
unfolding judge_cells
judge-runs limit m = ap (λ n. pick (leb n limit) (done (runs_of m)) (refused 8)) (total_runs m) ∙ go (leb (cells m) limit)
  where
    go : (t : Bool) → pick t (done (runs_of m)) (refused 8) ≡ map_tried runs_of (cells_if t m)
    go true = refl
    go false = refl

-- ---- a value's run stored under its key

module _ {A : Type 0} (limit key depth : ℕ) (given run : List Cell) (v : A) (m : MemoryState) (after : A → MemoryState)
    (keyed : rekey key given ≡ run)
    (own : key_run run ≡ key)
    (same : swap key (run ∷ []) (runs_of m) ≡ runs_of (after v))
  where
    put_run : put (rekey key given) (runs_of m) ≡ runs_of (after v)
    put_run = ap (λ r. put r (runs_of m)) keyed ∙ ap (λ k. swap k (run ∷ []) (runs_of m)) own ∙ same

    store_at_lem : store_at limit key depth given (runs_of m) ≡ map_tried runs_of (judge_depth depth v >>= λ w. judge_cells limit (after w))
    unfolding store_at
    store_at_lem =
        by_depth depth given v (λ r. judge_runs limit (put (rekey key r) (runs_of m))) (λ w. map_tried runs_of (judge_cells limit (after w)))
        (ap (judge_runs limit) put_run ∙ judge-runs limit (after v))
        ∙ sym (map_bind runs_of (judge_depth depth v) (λ w. judge_cells limit (after w)))

-- ---- a value's run read: the key is that of the index

pub index-turns : (i : ℤ) → Kept (λ k. k ≡ turns i) (index i)
unfolding index
index-turns (pos k) = go (leb k 65535)
  where
    go : (t : Bool) → Kept (λ j. j ≡ k) (index_if t k)
    go true = value refl
    go false = refusal
index-turns (negsuc k) = refusal

module _ {A : Type 0} (class : ℕ) (i : ℤ) (run : ℕ → A → List Cell) (es : Runs) (map : List (Entry A))
    (same : (k : ℕ) → k ≤ 65535 → lookup (class_key class k) es ≡ option_map (run (class_key class k)) (get k map))
  where
    read_class : read_runs class i es ≡ (index i >>= λ k. done (option_map (run (class_key class k)) (get k map)))
    unfolding read_runs
    read_class = by_index i (λ k. done (lookup (class_key class k) es)) _ (λ k h. ap done (same k h))

    read_map : read_runs class i es ≡ map_tried (option_map (run (class_key class (turns i)))) (index i >>= λ k. done (get k map))
    read_map = read_class ∙ go (index-turns i)
      where
        go : {t : Tried ℕ} → Kept (λ k. k ≡ turns i) t
            → (t >>= λ k. done (option_map (run (class_key class k)) (get k map))) ≡ map_tried (option_map (run (class_key class (turns i)))) (t >>= λ k. done (get k map))
        go refusal = refl
        go (value {a = k} h) = ap (λ j. done (option_map (run (class_key class j)) (get k map))) h

-- ---- a value's run changed, if there is one

module _ {A : Type 0} (key : ℕ) (run : A → List Cell) (f : A → A) (h : List Cell → List Cell) (m n : MemoryState) (o : Option A)
    (heads : (v : A) → h (run v) ≡ run (f v))
    (found : lookup key (runs_of m) ≡ option_map run o)
    (absent : o ≡ None → m ≡ n)
    (present : (v : A) → o ≡ Some v → swap key (run (f v) ∷ []) (runs_of m) ≡ runs_of n)
  where
    change_at_lem : change_at key h (runs_of m) ≡ runs_of n
    unfolding change_at
    change_at_lem = ap (λ l. change_if l key h (runs_of m)) found ∙ go o refl
      where
        go : (p : Option A) → o ≡ p → change_if (option_map run p) key h (runs_of m) ≡ runs_of n
        go None e = ap runs_of (absent e)
        go (Some v) e = ap (λ r. swap key (r ∷ []) (runs_of m)) (heads v) ∙ present v e

module _ (limit : ℕ) (m : MemoryState) (good : Good limit m) where
  -- ---- reads
  module _ (i : ℤ) where
    pub read_register_lem : read_runs 0 i (runs_of m) ≡ (index i >>= λ k. done (option_map (run_register (class_key 0 k)) (get k m.r)))
    read_register_lem = read_class 0 i run_register (runs_of m) m.r (state.get_register limit m good)

    pub read_cursor_lem : read_runs 1 i (runs_of m) ≡ (index i >>= λ k. done (option_map (run_cursor (class_key 1 k)) (get k m.p)))
    read_cursor_lem = read_class 1 i run_cursor (runs_of m) m.p (state.get_cursor limit m good)

    -- as the definition's reads
    pub register_read : read_runs 0 i (runs_of m) ≡ map_tried (option_map (run_register (class_key 0 (turns i)))) (read_register i m)
    unfolding read_register
    register_read = read_map 0 i run_register (runs_of m) m.r (state.get_register limit m good)

    pub cursor_read : read_runs 1 i (runs_of m) ≡ map_tried (option_map (run_cursor (class_key 1 (turns i)))) (read_cursor i m)
    unfolding read_cursor
    cursor_read = read_map 1 i run_cursor (runs_of m) m.p (state.get_cursor limit m good)

    -- ---- stores: the key that the run is given with does not matter
    pub store_register_lem : (key : ℕ) (v : RegDataType) → store_runs limit 0 i (register_depth v) (run_register key v) (runs_of m) ≡ map_tried runs_of (store_register limit i v m)
    unfolding store_runs store_register
    store_register_lem key v =
        by_index i _ (λ k. map_tried runs_of (judge_depth (register_depth v) v >>= λ w. judge_cells limit (with_registers (insert k w m.r) m))) (λ k h.
        store_at_lem limit (class_key 0 k) (register_depth v) (run_register key v) (run_register (class_key 0 k) v) v m (λ w. with_registers (insert k w m.r) m)
        (register_rekey v key (class_key 0 k))
        (register_key (class_key 0 k) v)
        (state.insert_register limit m good k h v))
        ∙ sym (map_bind runs_of (index i) _)

    pub store_cursor_lem : (key : ℕ) (v : CursorDataType) → store_runs limit 1 i 0 (run_cursor key v) (runs_of m) ≡ map_tried runs_of (store_cursor limit i v m)
    unfolding store_runs store_cursor judge_depth
    store_cursor_lem key v =
        by_index i _ (λ k. map_tried runs_of (judge_cells limit (with_cursors (insert k v m.p) m))) (λ k h.
        store_at_lem limit (class_key 1 k) 0 (run_cursor key v) (run_cursor (class_key 1 k) v) v m (λ w. with_cursors (insert k w m.p) m)
        (cursor-rekey v key (class_key 1 k))
        (cursor-key (class_key 1 k) v)
        (state.insert_cursor limit m good k h v))
        ∙ sym (map_bind runs_of (index i) _)

    -- ---- a removal
    pub remove_register_lem : remove_runs 0 i (runs_of m) ≡ map_tried runs_of (remove_register i m)
    unfolding remove_runs remove_register
    remove_register_lem =
        by_index i _ (λ k. done (runs_of (with_registers (remove k m.r) m))) (λ k h. ap done (state.remove_register_lem limit m good k h))
        ∙ sym (map_bind runs_of (index i) _)

    -- ---- a change in place, by a change of each run
    pub update_register_lem : (f : RegDataType → RegDataType) (h : List Cell → List Cell) → ((v : RegDataType) (key : ℕ) → h (run_register key v) ≡ run_register key (f v)) → change_runs 0 i h (runs_of m) ≡ map_tried runs_of (update_register i f m)
    unfolding change_runs update_register
    update_register_lem f h heads =
        by_index i _ (λ k. done (runs_of (with_registers (update k f m.r) m))) (λ k small. ap done
        (change_at_lem (class_key 0 k) (run_register (class_key 0 k)) f h m (with_registers (update k f m.r) m) (get k m.r)
        (λ v. heads v (class_key 0 k))
        (state.get_register limit m good k small)
        (λ e. ap (λ r. with_registers r m) (sym (update_absent (λ _ _. Unit {0}) k f m.r e)))
        (state.update_register_lem limit m good k small f)))
        ∙ sym (map_bind runs_of (index i) _)

    pub not_null_register : change_runs 0 i (on_head (single_nullable 1)) (runs_of m) ≡ map_tried runs_of (update_register i to_not_null m)
    not_null_register = update_register_lem to_not_null (on_head (single_nullable 1)) register_not_null

  -- ---- tables, by row
  module _ (row : ℕ) where
    pub read_table : lookup (class_key 2 row) (runs_of m) ≡ option_map (run_table (class_key 2 row)) (get row m.t)
    read_table = state.get_table limit m good row

    pub store_table_lem : (key : ℕ) (t : TableDataType) → store_at limit (class_key 2 row) (columns_depth t.cols) (run_table key t) (runs_of m) ≡ map_tried runs_of (store_table limit row t m)
    unfolding store_table
    store_table_lem key t =
        store_at_lem limit (class_key 2 row) (columns_depth t.cols) (run_table key t) (run_table (class_key 2 row) t) t m (λ u. with_tables (insert row u m.t) m)
        (table-rekey t key (class_key 2 row))
        (table-key (class_key 2 row) t)
        (state.insert_table limit m good row t)

    pub update_table_lem : (f : TableDataType → TableDataType) (h : List Cell → List Cell) → ((t : TableDataType) (key : ℕ) → h (run_table key t) ≡ run_table key (f t)) → change_at (class_key 2 row) h (runs_of m) ≡ runs_of (update_table row f m)
    unfolding update_table
    update_table_lem f h heads =
        change_at_lem (class_key 2 row) (run_table (class_key 2 row)) f h m (with_tables (update row f m.t) m) (get row m.t)
        (λ t. heads t (class_key 2 row))
        (state.get_table limit m good row)
        (λ e. ap (λ t. with_tables t m) (sym (update_absent (λ _ _. Unit {0}) row f m.t e)))
        (state.update_table_lem limit m good row f)

    pub empty_table_lem : (n : Option Bool) → change_at (class_key 2 row) (on_head (with_nullable (nullable_code n))) (runs_of m) ≡ runs_of (update_table row (set_empty n) m)
    empty_table_lem n = update_table_lem (set_empty n) (on_head (with_nullable (nullable_code n))) (table_empty n)
