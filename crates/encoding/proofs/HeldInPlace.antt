-- A value changed in place, where its run stands: the cells then hold the changed state. So for a register made not null, a table's emptiness,
-- and NullRow. From `Replaced`, with the changed runs of `InPlace`. Assumes nothing.
use mathlib.Core.Path.{◌≡◌, refl, sym, ap, subst, ◌∙◌}
use mathlib.Core.Bool.{Bool, true, false}
use Rattle.std.specs.Prelude.{Option, Some, option_map}
use Rattle.std.proofs.lemmas.Option.{none-some, same_Some}
use mathlib.Core.List.{List, [], ◌∷◌}
use Prim.Native.Nat.{ℕ, ◌+◌, ◌%◌, ◌≤◌}
use native.Mathlib.Omega.{arith}
use lib.ListN.{length, get_or, set}
use lib.IntN.{ℤ}
use Rattle.model.specs.Walk.{done}
use Rattle.model.specs.IntMap.{get, update}
use Rattle.model.specs.State.{Single, Record, Columns, RegDataType, Column, Int, TableDataType, MemoryState, to_not_null}
use Rattle.model.specs.Cells.{column_cells, register_cells, table_cells, column_depth, columns_depth, register_depth}
use Rattle.model.specs.Access.{◌>>=◌, index, with_registers, update_register, update_table}
use Rattle.model.specs.Cursor.{set_empty, null_table, null_record}
use Rattle.model.specs.Good.{GoodRegister, GoodTable, Good, OnSome}
use Rattle.model.proofs.Tried.{kept}
use Rattle.model.proofs.InPlace.{NeverLarger, to_not_null_no_larger, set_empty_no_larger, null_table_no_larger, null_record_no_larger}
use Rattle.model.proofs.Access.{index_small, table_good, update_register_good, update_table_good}
use Rattle.model.proofs.IntMap.{rising_get}
use Rattle.model.proofs.Sorted.{all_nullable_cells}
use Rattle.area.specs.Cells.{cell, blank}
use Rattle.area.specs.declared.Cell.{Cell}
use Rattle.intmap.specs.Pack.{head, class_key, with_nullable}
use Rattle.intmap.specs.Runs.{size}
use Rattle.intmap.specs.Entries.{span, entries}
use Rattle.intmap.specs.Find.{seek_place, seek_found}
use Rattle.intmap.specs.Swap.{swap, lookup}
use Rattle.intmap.specs.Change.{on_head}
use Rattle.intmap.proofs.FindLaws.{seek_from, seek_whole}
use Rattle.intmap.proofs.EntryLaws.{length-span}
use Rattle.intmap.proofs.Swapped.{seek_some, seek_none}
use Rattle.encoding.specs.Encode.{nullable_code, count, run_column, run_columns, run_register, run_table, runs_of}
use Rattle.encoding.specs.Heads.{single_nullable, on_heads}
use Rattle.encoding.specs.Holds.{Stands, largest, SmallRegister, SmallNumbers, Holds, HeldNext}
use Rattle.encoding.proofs.Standing.{Whole, register_whole, table-whole}
use Rattle.encoding.proofs.Lengths.{register_length, table-length}
use Rattle.encoding.proofs.Numbers.{numbers_update, numbers_tables}
use Rattle.encoding.proofs.InPlace.{register_not_null, table_empty, table_null, record_null}
use Rattle.encoding.proofs.Replaced.{Replaced, replaced_entries, replaced_sizes, head_replaced, heads_replaced}
use Rattle.encoding.proofs.HeldAfter.{SmallChange}
use Rattle.encoding.proofs.StateRuns.{get_register, get_table, update_register_lem, update_table_lem}

-- ---- an entry of a held state, where it stands, and replaced

module _ {limit bound : ℕ} {cs : List Cell} {base len used : ℕ} {m : MemoryState} (holds : Holds limit bound cs base len used m)
    (key : ℕ) (run : List Cell) (there : lookup key (runs_of m) ≡ Some run)
  where
    abbrev place : ℕ
    place = (seek_place cs 9 key len base).at

    looked : lookup key (entries cs 9 len base) ≡ Some run
    looked = ap (lookup key) holds.runs ∙ there

    pub found_present : seek_found cs 9 key len base ≡ true
    found_present = go (seek_found cs 9 key len base) refl
      where
        go : (b : Bool) → seek_found cs 9 key len base ≡ b → seek_found cs 9 key len base ≡ true
        go true e = e
        go false e = absurd (none-some run (sym (seek_none cs 9 key len base e) ∙ looked))

    found_run : span cs place (size cs 9 place) ≡ run
    found_run = same_Some _ _ (sym (seek_some cs 9 key len base found_present) ∙ looked)

    pub found_long : size cs 9 (seek_place cs 9 key len base).at ≡ length run
    found_long = sym (length-span cs place (size cs 9 place)) ∙ ap length found_run

    pub found_stands : Stands cs (seek_place cs 9 key len base).at run
    found_stands = ap (span cs place) (sym found_long) ∙ found_run

    pub found_inside : (base ≤ (seek_place cs 9 key len base).at) × ((seek_place cs 9 key len base).at + length run ≤ base + used)
    found_inside = (seek_from cs 9 key len base, omega (arith, seek_whole cs 9 key len base found_present, found_long, holds.takes))

    pub held_replaced : (more : ℕ) (ds new : List Cell) (n : MemoryState) → Whole 9 new → Replaced cs ds (seek_place cs 9 key len base).at new → swap key (new ∷ []) (runs_of m) ≡ runs_of n → Good limit n → SmallNumbers more n → Holds limit more ds base len used n
    held_replaced more ds new n whole r same good small =
        record {
          runs = replaced_entries cs ds key len base new found_present whole r ∙ ap (swap key (new ∷ [])) holds.runs ∙ same;
          takes = holds.takes ∙ sym (replaced_sizes cs ds key len base new found_present whole r);
          good = good;
          small = small;
        }

    -- its head changed
    pub found_head : (g : Cell → Cell) (ds new : List Cell) → base + used ≤ length cs → ds ≡ set cs (seek_place cs 9 key len base).at (g (get_or cs (seek_place cs 9 key len base).at blank)) → on_head g run ≡ new → Replaced cs ds (seek_place cs 9 key len base).at new
    found_head g ds new room e f = rw (e, ← f) (head_replaced g cs place run found_stands found_long (omega (arith, found_inside.1)))

    -- the heads of its columns changed
    pub found_heads : (g : Cell → Cell) (h : ℕ) (x : Columns) (ds new : List Cell) → run ≡ cell h (count x) ∷ run_columns x → h % 256 ≡ 2 → length new ≡ length run → ds ≡ on_heads g 8 cs (count x) ((seek_place cs 9 key len base).at + 1) → Stands ds (seek_place cs 9 key len base).at new → Replaced cs ds (seek_place cs 9 key len base).at new
    found_heads g h x ds new is tag long e stands =
        subst (λ l. Replaced cs l place new) (sym e)
        (heads_replaced g cs place h x tag (subst (Stands cs place) is found_stands) new (long ∙ sym found_long) (subst (λ l. Stands l place new) e stands))

-- ---- as many cells

record_cells : (x : Columns) → register_cells (null_record (Column (Record x))) ≡ register_cells (Column (Record x))
unfolding register_cells column_cells
record_cells x = ap (λ n. 1 + n) (all_nullable_cells (Some true) x)

table-cells : (t : TableDataType) → table_cells (null_table t) ≡ table_cells t
unfolding table_cells
table-cells t = ap (λ n. 1 + n) (all_nullable_cells (Some true) t.cols)

-- ---- a register changed

module _ (bound : ℕ) (most : bound ≤ largest) where
  pub not_null_change : SmallChange bound bound to_not_null
  not_null_change = record { rises = omega arith; most = most; no_larger = to_not_null_no_larger; keeps = keeps }
    where
      keeps : (v : RegDataType) → SmallRegister bound v → SmallRegister bound (to_not_null v)
      keeps (Column c) s = tt
      keeps (Int i) s = s

  pub null_change : SmallChange bound bound null_record
  null_change = record { rises = omega arith; most = most; no_larger = null_record_no_larger; keeps = keeps }
    where
      keeps : (v : RegDataType) → SmallRegister bound v → SmallRegister bound (null_record v)
      keeps (Column (Single d n)) s = tt
      keeps (Column (Record x)) s = tt
      keeps (Int i) s = s

module _ {limit bound : ℕ} {cs : List Cell} {base len used : ℕ} {m : MemoryState} (holds : Holds limit bound cs base len used m) (i : ℤ) (k : ℕ) (at : index i ≡ done k) where
  abbrev its : ℕ
  its = class_key 0 k

  within : k ≤ 65535
  within = kept (index_small i) at

  updated : (f : RegDataType → RegDataType) → update_register i f m ≡ done (with_registers (update k f m.r) m)
  unfolding update_register
  updated f = ap (λ t. t >>= λ k. done (with_registers (update k f m.r) m)) at

  module _ (v : RegDataType) (there : get k m.r ≡ Some v) where
    pub register_found : lookup (class_key 0 k) (runs_of m) ≡ Some (run_register (class_key 0 k) v)
    register_found = get_register limit m holds.good k within ∙ ap (option_map (run_register its)) there

    good_there : GoodRegister v
    good_there = (subst (OnSome (λ v. (k ≤ 65535) × GoodRegister v)) there (rising_get (λ j v. (j ≤ 65535) × GoodRegister v) k 0 m.r holds.good.registers)).1

    pub held_register_changed : (more : ℕ) (f : RegDataType → RegDataType) → SmallChange bound more f → (ds : List Cell) → Replaced cs ds (seek_place cs 9 (class_key 0 k) len base).at (run_register (class_key 0 k) (f v)) → HeldNext limit more ds base len used (update_register i f m)
    held_register_changed more f change ds r =
        record {
          state = with_registers (update k f m.r) m;
          answer = updated f;
          holds =
              held_replaced holds its (run_register its v) register_found more ds (run_register its (f v)) _
              (register_whole (f v) its ((change.no_larger v).good good_there).depth)
              r
              (update_register_lem limit m holds.good k within f v there)
              (kept (update_register_good holds.good i f change.no_larger) (updated f))
              (numbers_update bound more change.rises change.most m holds.small k f change.keeps);
        }

    pub held_register_head : (more : ℕ) (f : RegDataType → RegDataType) (g : Cell → Cell) → SmallChange bound more f → ((v : RegDataType) (key : ℕ) → on_head g (run_register key v) ≡ run_register key (f v)) → (ds : List Cell) → base + used ≤ length cs → ds ≡ set cs (seek_place cs 9 (class_key 0 k) len base).at (g (get_or cs (seek_place cs 9 (class_key 0 k) len base).at blank)) → HeldNext limit more ds base len used (update_register i f m)
    held_register_head more f g change heads ds room e = held_register_changed more f change ds (found_head holds its (run_register its v) register_found g ds _ room e (heads v its))

    -- made not null
    pub held_not_null : (ds : List Cell) → base + used ≤ length cs → ds ≡ set cs (seek_place cs 9 (class_key 0 k) len base).at (single_nullable 1 (get_or cs (seek_place cs 9 (class_key 0 k) len base).at blank)) → HeldNext limit bound ds base len used (update_register i to_not_null m)
    held_not_null ds room e = held_register_head bound to_not_null (single_nullable 1) (not_null_change bound holds.small.bounded) register_not_null ds room e

  -- NullRow, on a register that holds a record
  pub held_record_null : (x : Columns) → get k m.r ≡ Some (Column (Record x)) → (ds : List Cell) → base + used ≤ length cs → ds ≡ on_heads (single_nullable 2) 8 cs (count x) ((seek_place cs 9 (class_key 0 k) len base).at + 1) → HeldNext limit bound ds base len used (update_register i null_record m)
  unfolding run_register run_column register_depth column_depth
  held_record_null x there ds room e =
      let v = Column (Record x) in
      let p = (seek_place cs 9 its len base).at in
      let found = register_found v there in
      let deep : columns_depth x ≤ 8 = omega (arith, (good_there v there).depth) in
      let stands = record_null cs p its x deep (omega (arith, (found_inside holds its (run_register its v) found).1)) (found_stands holds its (run_register its v) found) in
      held_register_changed v there bound null_record (null_change bound holds.small.bounded) ds
      (found_heads holds its (run_register its v) found (single_nullable 2) (head 2 0 0 its) x ds (run_register its (null_record v)) refl (omega arith)
      (register_length (null_record v) its ∙ record_cells x ∙ sym (register_length v its))
      e
      (subst (λ l. Stands l p (run_register its (null_record v))) (sym e) stands))

-- ---- a table changed

module _ {limit bound : ℕ} {cs : List Cell} {base len used : ℕ} {m : MemoryState} (holds : Holds limit bound cs base len used m) (row : ℕ) where
  abbrev own : ℕ
  own = class_key 2 row

  module _ (t : TableDataType) (there : get row m.t ≡ Some t) where
    pub table_found : lookup (class_key 2 row) (runs_of m) ≡ Some (run_table (class_key 2 row) t)
    table_found = get_table limit m holds.good row ∙ ap (option_map (run_table own)) there

    table_deep : GoodTable t
    table_deep = (subst (OnSome (λ t. (row ≤ 65535) × GoodTable t)) there (table_good holds.good row)).1

    pub held_table_changed : (f : TableDataType → TableDataType) → NeverLarger table_cells GoodTable f → (ds : List Cell) → Replaced cs ds (seek_place cs 9 (class_key 2 row) len base).at (run_table (class_key 2 row) (f t)) → Holds limit bound ds base len used (update_table row f m)
    unfolding update_table
    held_table_changed f no_larger ds r =
        held_replaced holds own (run_table own t) table_found bound ds (run_table own (f t)) _
        (table-whole (f t) own ((no_larger t).good table_deep).depth)
        r
        (update_table_lem limit m holds.good row f t there)
        (update_table_good holds.good row f no_larger)
        (numbers_tables bound m holds.small _)

    -- its emptiness set, to what depends on the table
    pub held_empty : (e : TableDataType → Option Bool) (ds : List Cell) → base + used ≤ length cs → ds ≡ set cs (seek_place cs 9 (class_key 2 row) len base).at (with_nullable (nullable_code (e t)) (get_or cs (seek_place cs 9 (class_key 2 row) len base).at blank)) → Holds limit bound ds base len used (update_table row (λ t. set_empty (e t) t) m)
    held_empty e ds room is =
        held_table_changed (λ t. set_empty (e t) t) (set_empty_no_larger e) ds (found_head holds own (run_table own t) table_found (with_nullable (nullable_code (e t))) ds _ room is (table_empty (e t) t own))

    -- NullRow
    pub held_table_null : (ds : List Cell) → base + used ≤ length cs → ds ≡ on_heads (single_nullable 2) 8 cs (count t.cols) ((seek_place cs 9 (class_key 2 row) len base).at + 1) → Holds limit bound ds base len used (update_table row null_table m)
    unfolding run_table
    held_table_null ds room e =
        let p = (seek_place cs 9 own len base).at in
        let stands = table_null cs p own t table_deep.depth (omega (arith, (found_inside holds own (run_table own t) table_found).1)) (found_stands holds own (run_table own t) table_found) in
        held_table_changed null_table null_table_no_larger ds
        (found_heads holds own (run_table own t) table_found (single_nullable 2) (head 2 0 (nullable_code t.is_empty) own) t.cols ds (run_table own (null_table t)) refl (omega arith)
        (table-length (null_table t) own ∙ table-cells t ∙ sym (table-length t own))
        e
        (subst (λ l. Stands l p (run_table own (null_table t))) (sym e) stands))
