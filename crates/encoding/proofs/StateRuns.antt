-- The accesses of a row to a state, on its runs: what `lookup` finds is the run of what `get` finds, and `swap` with a value's run is `insert`,
-- with none `remove`, with the changed value's run `update`, for registers, cursors and tables; and `get` of a record's columns. Assumes nothing.
use mathlib.Core.Path.{◌≡◌, refl, sym, ap, ◌∙◌}
use Rattle.std.specs.Prelude.{Some, option_map}
use mathlib.Core.List.{[], ◌∷◌, ◌++◌}
use Prim.Native.Nat.{ℕ, ◌+◌, ◌≤◌}
use native.Mathlib.Omega.{arith}
use Rattle.model.specs.IntMap.{get, insert, remove, update}
use Rattle.model.specs.State.{Columns, end, entry, entries, RegDataType, CursorDataType, TableDataType, MemoryState}
use Rattle.model.specs.Access.{with_registers, with_cursors, with_tables}
use Rattle.model.specs.Good.{SortedColumns, GoodRegister, GoodCursor, Good}
use Rattle.model.proofs.Sorted.{SortedAt, sorted_entries}
use Rattle.intmap.specs.Pack.{class_key}
use Rattle.intmap.specs.Entries.{Runs}
use Rattle.encoding.specs.Encode.{run_column, column_runs, run_register, run_cursor, run_table, run_map, runs_of}
use Rattle.intmap.specs.Swap.{swap, lookup}
use Rattle.encoding.proofs.Packing.{column_key, register_key, cursor-key, table-key}
use Rattle.intmap.proofs.SwapLaws.{From, Under, from_append, swap_under, lookup_under, swap_before, lookup_before}
use Rattle.encoding.proofs.MapRuns.{runs_by, lookup_by, from_map, under_map, lookup_map, insert_map, remove_map, update_map}

module _ (limit : ℕ) (m : MemoryState) (good : Good limit m) where
  abbrev registers : Runs
  registers = run_map run_register 0 m.r

  abbrev cursors : Runs
  cursors = run_map run_cursor 1 m.p

  abbrev tables : Runs
  tables = run_map run_table 2 m.t

  pub registers_under : (key : ℕ) → 131072 ≤ key → Under key registers
  registers_under key h = under_map run_register register_key 0 GoodRegister key 0 m.r h good.registers

  pub cursors_under : (key : ℕ) → 196608 ≤ key → Under key cursors
  cursors_under key h = under_map run_cursor cursor-key 1 GoodCursor key 0 m.p h good.cursors

  pub tables_from : (low : ℕ) → low ≤ 196608 → From low tables
  tables_from low h = from_map run_table table-key 2 low m.t h

  pub cursors_from : (low : ℕ) → low ≤ 131072 → From low (cursors ++ tables)
  cursors_from low h = from_append low cursors tables (from_map run_cursor cursor-key 1 low m.p h) (tables_from low (omega arith))

  module _ (k : ℕ) where
    -- a key of a class concerns its map alone
    module _ (within : k ≤ 65535) where
      swap_registers : (new : Runs) → swap (class_key 0 k) new (runs_of m) ≡ swap (class_key 0 k) new registers ++ (cursors ++ tables)
      unfolding runs_of
      swap_registers new = swap_before (class_key 0 k) (cursors ++ tables) (cursors_from (class_key 0 k + 1) (omega arith)) new registers

      swap_cursors : (new : Runs) → swap (class_key 1 k) new (runs_of m) ≡ registers ++ (swap (class_key 1 k) new cursors ++ tables)
      unfolding runs_of
      swap_cursors new =
          swap_under (class_key 1 k) new registers (cursors ++ tables) (registers_under (class_key 1 k) (omega arith))
          ∙ ap (λ l. registers ++ l) (swap_before (class_key 1 k) tables (tables_from (class_key 1 k + 1) (omega arith)) new cursors)

    swap_tables : (new : Runs) → swap (class_key 2 k) new (runs_of m) ≡ registers ++ (cursors ++ swap (class_key 2 k) new tables)
    unfolding runs_of
    swap_tables new =
        swap_under (class_key 2 k) new registers (cursors ++ tables) (registers_under (class_key 2 k) (omega arith))
        ∙ ap (λ l. registers ++ l) (swap_under (class_key 2 k) new cursors tables (cursors_under (class_key 2 k) (omega arith)))

    -- registers
    module _ (within : k ≤ 65535) where
      pub get_register : lookup (class_key 0 k) (runs_of m) ≡ option_map (run_register (class_key 0 k)) (get k m.r)
      unfolding runs_of
      get_register =
          lookup_before (class_key 0 k) (cursors ++ tables) (cursors_from (class_key 0 k + 1) (omega arith)) registers
          ∙ lookup_map run_register register_key 0 k _ 0 m.r good.registers

      pub insert_register : (v : RegDataType) → swap (class_key 0 k) (run_register (class_key 0 k) v ∷ []) (runs_of m) ≡ runs_of (with_registers (insert k v m.r) m)
      unfolding runs_of
      insert_register v = swap_registers within _ ∙ ap (λ l. l ++ (cursors ++ tables)) (insert_map run_register register_key 0 k v m.r)

      pub remove_register_lem : swap (class_key 0 k) [] (runs_of m) ≡ runs_of (with_registers (remove k m.r) m)
      unfolding runs_of
      remove_register_lem = swap_registers within _ ∙ ap (λ l. l ++ (cursors ++ tables)) (remove_map run_register register_key 0 k _ 0 m.r good.registers)

      pub update_register_lem : (f : RegDataType → RegDataType) (v : RegDataType) → get k m.r ≡ Some v → swap (class_key 0 k) (run_register (class_key 0 k) (f v) ∷ []) (runs_of m) ≡ runs_of (with_registers (update k f m.r) m)
      unfolding runs_of
      update_register_lem f v g = swap_registers within _ ∙ ap (λ l. l ++ (cursors ++ tables)) (update_map run_register register_key 0 k _ f v 0 m.r good.registers g)

      -- cursors
      pub get_cursor : lookup (class_key 1 k) (runs_of m) ≡ option_map (run_cursor (class_key 1 k)) (get k m.p)
      unfolding runs_of
      get_cursor =
          lookup_under (class_key 1 k) registers (cursors ++ tables) (registers_under (class_key 1 k) (omega arith))
          ∙ lookup_before (class_key 1 k) tables (tables_from (class_key 1 k + 1) (omega arith)) cursors
          ∙ lookup_map run_cursor cursor-key 1 k _ 0 m.p good.cursors

      pub insert_cursor : (v : CursorDataType) → swap (class_key 1 k) (run_cursor (class_key 1 k) v ∷ []) (runs_of m) ≡ runs_of (with_cursors (insert k v m.p) m)
      unfolding runs_of
      insert_cursor v = swap_cursors within _ ∙ ap (λ l. registers ++ (l ++ tables)) (insert_map run_cursor cursor-key 1 k v m.p)

      pub remove_cursor : swap (class_key 1 k) [] (runs_of m) ≡ runs_of (with_cursors (remove k m.p) m)
      unfolding runs_of
      remove_cursor = swap_cursors within _ ∙ ap (λ l. registers ++ (l ++ tables)) (remove_map run_cursor cursor-key 1 k _ 0 m.p good.cursors)

      pub update_cursor : (f : CursorDataType → CursorDataType) (v : CursorDataType) → get k m.p ≡ Some v → swap (class_key 1 k) (run_cursor (class_key 1 k) (f v) ∷ []) (runs_of m) ≡ runs_of (with_cursors (update k f m.p) m)
      unfolding runs_of
      update_cursor f v g = swap_cursors within _ ∙ ap (λ l. registers ++ (l ++ tables)) (update_map run_cursor cursor-key 1 k _ f v 0 m.p good.cursors g)

    -- tables
    pub get_table : lookup (class_key 2 k) (runs_of m) ≡ option_map (run_table (class_key 2 k)) (get k m.t)
    unfolding runs_of
    get_table =
        lookup_under (class_key 2 k) registers (cursors ++ tables) (registers_under (class_key 2 k) (omega arith))
        ∙ lookup_under (class_key 2 k) cursors tables (cursors_under (class_key 2 k) (omega arith))
        ∙ lookup_map run_table table-key 2 k _ 0 m.t good.tables

    pub insert_table : (v : TableDataType) → swap (class_key 2 k) (run_table (class_key 2 k) v ∷ []) (runs_of m) ≡ runs_of (with_tables (insert k v m.t) m)
    unfolding runs_of
    insert_table v = swap_tables _ ∙ ap (λ l. registers ++ (cursors ++ l)) (insert_map run_table table-key 2 k v m.t)

    pub remove_table : swap (class_key 2 k) [] (runs_of m) ≡ runs_of (with_tables (remove k m.t) m)
    unfolding runs_of
    remove_table = swap_tables _ ∙ ap (λ l. registers ++ (cursors ++ l)) (remove_map run_table table-key 2 k _ 0 m.t good.tables)

    pub update_table_lem : (f : TableDataType → TableDataType) (v : TableDataType) → get k m.t ≡ Some v → swap (class_key 2 k) (run_table (class_key 2 k) (f v) ∷ []) (runs_of m) ≡ runs_of (with_tables (update k f m.t) m)
    unfolding runs_of
    update_table_lem f v g = swap_tables _ ∙ ap (λ l. registers ++ (cursors ++ l)) (update_map run_table table-key 2 k _ f v 0 m.t good.tables g)

-- the columns of a record or table, whose keys are their numbers
columns-map : (x : Columns) → runs_by run_column column_key (λ k. k) (entries x) ≡ column_runs x
unfolding entries column_runs
columns-map end = refl
columns-map (entry k c cs) = ap (λ l. run_column k c ∷ l) (columns-map cs)

pub get_column : (x : Columns) (low k : ℕ) → SortedColumns x low → lookup k (column_runs x) ≡ option_map (run_column k) (get k (entries x))
get_column x low k s = ap (lookup k) (sym (columns-map x)) ∙ lookup_by run_column column_key (λ j. j) (λ i j lt. lt) k SortedAt low (entries x) (sorted_entries x low s)
