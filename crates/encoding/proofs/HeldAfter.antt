-- What is held after an access: if an access to runs is one of the definition, then cells with the runs that it answers hold the state that the
-- definition answers, and what is refused is refused there, with the same number. From `Accesses`, with the laws of the definition for good
-- states and `Numbers`. Assumes nothing.
use mathlib.Core.Path.{◌≡◌, refl, sym, ap, subst, ◌∙◌}
use mathlib.Core.Bool.{Bool, true, false}
use Rattle.std.specs.Prelude.{Some}
use mathlib.Core.List.{List}
use Prim.Native.Nat.{ℕ, ◌≤◌}
use lib.Dec.{leb}
use lib.IntN.{ℤ}
use Rattle.model.specs.Walk.{Tried, refused, done}
use Rattle.model.specs.State.{RegDataType, CursorDataType, TableDataType, MemoryState, map_to_columntype}
use Rattle.model.specs.Cells.{register_cells, table_cells, cells, columns_depth, register_depth}
use Rattle.model.specs.Access.{depth_if, judge_depth, cells_if, judge_cells, read_register, store_register, store_cursor, store_table, update_register, update_table, remove_register}
use Rattle.model.specs.Good.{SortedColumn, SortedColumns, GoodRegister, GoodTable, GoodCursor, Good}
use Rattle.model.proofs.Tried.{Kept, refusal, value, ◌>>◌, kept}
use Rattle.model.proofs.InPlace.{NeverLarger}
use Rattle.model.proofs.Access.{index_small, read_register_good, store_register_good, store_cursor_good, store_table_good, update_register_good, update_table_good, remove_register_good}
use Rattle.area.specs.declared.Cell.{Cell}
use Rattle.intmap.specs.Pack.{class_key}
use Rattle.intmap.specs.Runs.{size, sizes}
use Rattle.intmap.specs.Store.{store_at, store_runs, remove_runs}
use Rattle.intmap.specs.Entries.{Runs, entries}
use Rattle.encoding.specs.Encode.{run_register, run_cursor, run_table, runs_of}
use Rattle.encoding.specs.Answers.{map_tried}
use Rattle.encoding.specs.Changes.{change_at, change_runs}
use Rattle.encoding.specs.Holds.{largest, SmallRegister, SmallCursor, SmallNumbers, Holds, HeldNext}
use Rattle.encoding.proofs.Numbers.{numbers_insert, numbers_insert_cursor, numbers_remove, numbers_tables, numbers_update}
use Rattle.encoding.proofs.Updates.{update_stored}
use Rattle.encoding.proofs.Accesses.{store_register_lem, store_cursor_lem, store_table_lem, remove_register_lem, update_register_lem, update_table_lem}

-- an access to the runs of m is the definition's t, whose state, if there is one, is good and has small numbers
pub record Follows (limit bound : ℕ) (access : Runs → Tried Runs) (m : MemoryState) (t : Tried MemoryState) : Type 0 where
  pub same : access (runs_of m) ≡ map_tried runs_of t
  pub good : Kept (Good limit) t
  pub small : Kept (SmallNumbers bound) t

-- cells with the runs of an answer hold the definition's answer t, and a refusal is t's
pub record Carried (limit bound : ℕ) (answer : Tried Runs) (t : Tried MemoryState) : Type 0 where
  pub next : (ds : List Cell) (base len used : ℕ) (es : Runs) → answer ≡ done es → entries ds 9 len base ≡ es → used ≡ sizes (size ds 9) len base → HeldNext limit bound ds base len used t
  pub refuses : (n : ℕ) → answer ≡ refused n → t ≡ refused n

-- a change of a register that makes it no larger, and its number no larger than `more`
pub record SmallChange (bound more : ℕ) (f : RegDataType → RegDataType) : Type 0 where
  pub rises : bound ≤ more
  pub most : more ≤ largest
  pub no_larger : NeverLarger register_cells GoodRegister f
  pub keeps : (v : RegDataType) → SmallRegister bound v → SmallRegister more (f v)

-- ---- any access

module _ (limit bound : ℕ) (t : Tried MemoryState) (good : Kept (Good limit) t) (small : Kept (SmallNumbers bound) t) where
  answer_carried : (u : Tried Runs) → u ≡ map_tried runs_of t → Carried limit bound u t
  answer_carried u same = record { next = λ ds base len used es e f s. stay ds base len used es f s t (sym same ∙ e) good small; refuses = λ n e. refuse n t (sym same ∙ e) }
    where
      stay : (ds : List Cell) (base len used : ℕ) (es : Runs) → entries ds 9 len base ≡ es → used ≡ sizes (size ds 9) len base → (t : Tried MemoryState) → map_tried runs_of t ≡ done es → Kept (Good limit) t → Kept (SmallNumbers bound) t → HeldNext limit bound ds base len used t
      stay ds base len used es f s (refused n) q g w = cc
      stay ds base len used es f s (done m) q (value g) (value w) = record { state = m; answer = refl; holds = record { runs = f ∙ sym cc; takes = s; good = g; small = w } }

      refuse : (n : ℕ) (t : Tried MemoryState) → map_tried runs_of t ≡ refused n → t ≡ refused n
      refuse n (refused k) q = cc
      refuse n (done m) q = cc

pub carried : {limit bound old : ℕ} {access : Runs → Tried Runs} {m : MemoryState} {t : Tried MemoryState} {cs : List Cell} {base len used : ℕ} → Follows limit bound access m t → Holds limit old cs base len used m → Carried limit bound (access (entries cs 9 len base)) t
carried {limit} {bound} {access = access} {t = t} follows holds = answer_carried limit bound t follows.good follows.small _ (ap access holds.runs ∙ follows.same)

-- ---- the accesses of a row

depth_kept : {A : Type 0} (P : A → Type 0) (d : ℕ) (v : A) → P v → Kept P (judge_depth d v)
unfolding judge_depth
depth_kept P d v p = go (leb d 8)
  where
    go : (t : Bool) → Kept P (depth_if t v)
    go true = value p
    go false = refusal

cells-kept : (P : MemoryState → Type 0) (limit : ℕ) (m : MemoryState) → P m → Kept P (judge_cells limit m)
unfolding judge_cells
cells-kept P limit m p = go (leb (cells m) limit)
  where
    go : (t : Bool) → Kept P (cells_if t m)
    go true = value p
    go false = refusal

module _ (limit bound : ℕ) (m : MemoryState) (good : Good limit m) (small : SmallNumbers bound m) where
  module _ (i : ℤ) where
    pub register_follows : (key : ℕ) (v : RegDataType) → (register_cells v ≤ limit → SortedColumn (map_to_columntype v)) → SmallRegister bound v → Follows limit bound (store_runs limit 0 i (register_depth v) (run_register key v)) m (store_register limit i v m)
    unfolding store_register
    register_follows key v sorted s =
        record {
          same = store_register_lem limit m good i key v;
          good = store_register_good good i v sorted;
          small =
              index_small i >> λ k _.
              depth_kept (SmallRegister bound) (register_depth v) v s >> λ w x.
              cells-kept (SmallNumbers bound) limit _ (numbers_insert bound m small k w x);
        }

    pub cursor_follows : (key : ℕ) (v : CursorDataType) → GoodCursor v → SmallCursor bound v → Follows limit bound (store_runs limit 1 i 0 (run_cursor key v)) m (store_cursor limit i v m)
    unfolding store_cursor
    cursor_follows key v g s =
        record {
          same = store_cursor_lem limit m good i key v;
          good = store_cursor_good good i v g;
          small = index_small i >> λ k _. cells-kept (SmallNumbers bound) limit _ (numbers_insert_cursor bound m small k v s);
        }

    pub removal_follows : Follows limit bound (remove_runs 0 i) m (remove_register i m)
    unfolding remove_register
    removal_follows =
        record {
          same = remove_register_lem limit m good i;
          good = remove_register_good good i;
          small = index_small i >> λ k _. value (numbers_remove bound m small k);
        }

    pub change_follows : (more : ℕ) (f : RegDataType → RegDataType) (h : List Cell → List Cell) → SmallChange bound more f → ((v : RegDataType) (key : ℕ) → h (run_register key v) ≡ run_register key (f v)) → Follows limit more (change_runs 0 i h) m (update_register i f m)
    unfolding update_register
    change_follows more f h change heads =
        record {
          same = update_register_lem limit m good i f h heads;
          good = update_register_good good i f change.no_larger;
          small = index_small i >> λ k _. value (numbers_update bound more change.rises change.most m small k f change.keeps);
        }

  module _ (row : ℕ) where
    pub table_follows : row ≤ 65535 → (key : ℕ) (t : TableDataType) → (table_cells t ≤ limit → SortedColumns t.cols 0) → Follows limit bound (store_at limit (class_key 2 row) (columns_depth t.cols) (run_table key t)) m (store_table limit row t m)
    unfolding store_table
    table_follows h key t sorted =
        record {
          same = store_table_lem limit m good row key t;
          good = store_table_good good row h t sorted;
          small = depth_kept (λ _. Unit {0}) (columns_depth t.cols) t tt >> λ u _. cells-kept (SmallNumbers bound) limit _ (numbers_tables bound m small _);
        }

    pub table_change_follows : (f : TableDataType → TableDataType) (h : List Cell → List Cell) → ((t : TableDataType) (key : ℕ) → h (run_table key t) ≡ run_table key (f t)) → NeverLarger table_cells GoodTable f → Follows limit bound (λ es. done (change_at (class_key 2 row) h es)) m (done (update_table row f m))
    unfolding update_table
    table_change_follows f h heads no_larger =
        record {
          same = ap done (update_table_lem limit m good row f h heads);
          good = value (update_table_good good row f no_larger);
          small = value (numbers_tables bound m small _);
        }

-- ---- and what is held then

module _ {limit bound : ℕ} {cs : List Cell} {base len used : ℕ} {m : MemoryState} (holds : Holds limit bound cs base len used m) where
  module _ (i : ℤ) where
    pub held_register : (key : ℕ) (v : RegDataType) → (register_cells v ≤ limit → SortedColumn (map_to_columntype v)) → SmallRegister bound v → Carried limit bound (store_runs limit 0 i (register_depth v) (run_register key v) (entries cs 9 len base)) (store_register limit i v m)
    held_register key v sorted s = carried (register_follows limit bound m holds.good holds.small i key v sorted s) holds

    pub held_cursor : (key : ℕ) (v : CursorDataType) → GoodCursor v → SmallCursor bound v → Carried limit bound (store_runs limit 1 i 0 (run_cursor key v) (entries cs 9 len base)) (store_cursor limit i v m)
    held_cursor key v g s = carried (cursor_follows limit bound m holds.good holds.small i key v g s) holds

    pub held_removal : Carried limit bound (remove_runs 0 i (entries cs 9 len base)) (remove_register i m)
    held_removal = carried (removal_follows limit bound m holds.good holds.small i) holds

  pub held_table : (row : ℕ) → row ≤ 65535 → (key : ℕ) (t : TableDataType) → (table_cells t ≤ limit → SortedColumns t.cols 0) → Carried limit bound (store_at limit (class_key 2 row) (columns_depth t.cols) (run_table key t) (entries cs 9 len base)) (store_table limit row t m)
  held_table row h key t sorted = carried (table_follows limit bound m holds.good holds.small row h key t sorted) holds

  -- a value that is there, changed by a store
  pub held_update : (i : ℤ) (key : ℕ) (f : RegDataType → RegDataType) (v : RegDataType) → read_register i m ≡ done (Some v) → NeverLarger register_cells GoodRegister f → SmallRegister bound (f v) → Carried limit bound (store_runs limit 0 i (register_depth (f v)) (run_register key (f v)) (entries cs 9 len base)) (update_register i f m)
  held_update i key f v present no_larger s =
      subst (Carried limit bound _) (sym (update_stored holds.good i f v present no_larger))
      (held_register i key (f v) (λ _. ((no_larger v).good (kept (read_register_good holds.good i) present)).sorted) s)
