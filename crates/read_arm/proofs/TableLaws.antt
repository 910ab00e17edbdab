-- The table of the gathered columns, its run, and the arm. Assumes nothing.
use Rattle.refusal.specs.declared.Refusal.TheVariants.{TooManyCells}
use Rattle.refusal.specs.declared.Refusal.{Refusal}
use mathlib.Core.Path.{◌≡◌, refl, sym, ap, ap₂, subst, ◌∙◌}
use mathlib.Core.Bool.{Bool, true, false, ◌||◌}
use mathlib.Core.Logic.{∥∥₁_elim}
use mathlib.Core.HLevel.{Unit-prop, ×₃_prop, Σ_prop_path}
use Rattle.std.specs.Prelude.{None, Ok, Err}
use mathlib.Core.List.{List, ◌∷◌}
use Prim.Native.Nat.{ℕ, suc, ◌+◌, ◌-◌, ◌<◌, ◌≤◌}
use native.Mathlib.Omega.{arith}
use native.Mathlib.Bridge.{le_prop}
use base.Stored.{Coded-set, coded_ℕ, coded_list, coded×}
use denote.Struct.Codes.{code_by}
use lib.IntN.{ℤ, pos}
use lib.ListN.{length, get_or, set}
use lib.Seq.{get_or-set_same}
use Rattle.model.specs.Row.{Row as Listed}
use Rattle.model.specs.State.{ColumnType, Single, Record, Columns, end, entry, TableDataType, MemoryState}
use Rattle.model.specs.Equality.{eq_int, is_zero_int}
use Rattle.model.specs.Cells.{columns_depth, table_cells}
use Rattle.model.specs.Catalogue.{CatalogueRecord, columns_at}
use Rattle.model.specs.CursorArms.{columns_if, opened_columns, open_table, cursor_arm}
use Rattle.model.specs.Operation.{op_open_read}
use Rattle.model.specs.Good.{SortedColumn, SortedColumns}
use Rattle.model.specs.Meaning.{Meaning}
use Rattle.model.proofs.Catalogue.{columns_at_flat, columns_at_sorted}
use Rattle.model.proofs.CallTheorems.{small_columns}
use Rattle.area.specs.Cells.{cell, blank}
use Rattle.area.specs.declared.Cell.{Cell}
use Rattle.intmap.specs.Entries.{total, span}
use Rattle.intmap.specs.Map.{levels, Frame}
use Rattle.intmap.specs.Store.{RunAbove, Stored}
use Rattle.intmap.specs.Signed.{int_of}
use Rattle.intmap.specs.declared.IntMap.{IntMap}
use Rattle.intmap.proofs.EntryLaws.{span_same, length-span, total-sizes, entries-count}
use Rattle.intmap.proofs.StoreLaws.{frame_same}
use Rattle.encoding.specs.Encode.{count, columns_head, column_runs, run_columns, run_table}
use Rattle.encoding.proofs.Injective.{table-told, injective}
use Rattle.encoding.proofs.Lengths.{length-flatten, count_runs}
use Rattle.encoding.proofs.Standing.{stand_entries, table-whole}
use Rattle.encoding.proofs.Held.{held_elsewhere}
use Rattle.rows.specs.Judged.{Judged}
use Rattle.rows.specs.declared.row.Row.{Row}
use Rattle.state.specs.Leads.{Current, Tells}
use Rattle.state.specs.Arms.{Standard}
use Rattle.state.proofs.LeadsLaws.{frame-within, frame_then, frame-set}
use Rattle.open_arms.specs.Tables.{TableAt, IsTable, OpensTable}
use Rattle.open_arms.proofs.OpenLaws.{open_large, behind_same, behind_current}
use Rattle.root_block.specs.Blocks.{HasBlocks, IsBlocks}
use Rattle.read_arm.specs.Gathers.{at_page, at_database, Gathered, Gathers, ReadsTable}
use Rattle.read_arm.proofs.GatherLaws.{is_database}

-- a table of which it is not known whether it is empty
abbrev table : Columns → TableDataType
table c = record { cols = c; is_empty = None }

-- ---- the table that stands in a place is one at most, and so are the proofs that it is a good one

cells_set : IsSet (List Cell)
cells_set = Coded-set (coded_list (code_by (ℕ × ℕ) (coded× coded_ℕ coded_ℕ) (λ (c : Cell). (c.head, c.payload)) (λ p. cell p.0 p.1) (λ c. refl)))

mutual
  unfolding SortedColumn SortedColumns

  sorted_column_once : (c : ColumnType) → IsProp (SortedColumn c)
  sorted_column_once (Single d n) = Unit-prop
  sorted_column_once (Record cs) = sorted_once cs 0

  sorted_once : (cs : Columns) (low : ℕ) → IsProp (SortedColumns cs low)
  sorted_once end low = Unit-prop
  sorted_once (entry k c cs) low = λ x y. λ i. (le_prop x.0 y.0 i, le_prop x.1 y.1 i, sorted_column_once c x.2 y.2 i, sorted_once cs (suc k) x.3 y.3 i)

abbrev TableIn : List Cell → ℕ → ℕ → Type 0
TableIn cs from n = (t : TableDataType) × ((span cs from n ≡ run_table 0 t) × (columns_depth t.cols ≤ 8) × SortedColumns t.cols 0)

one_table : (cs : List Cell) (from n : ℕ) → IsProp (TableIn cs from n)
one_table cs from n x y =
    Σ_prop_path (λ t. ×₃_prop (cells_set _ _) le_prop (sorted_once t.cols 0))
    (injective run_table (λ t. Unit {0}) table-told x.0 y.0 0 0 tt tt (sym x.1.0 ∙ y.1.0)).1

module _ (limit : ℕ) (x : Row) where
  arm_is : (row : ℕ) (meaning : Meaning) (records : List CatalogueRecord) (l : Listed) → Standard limit meaning → ((db page : ℤ) → meaning.columns_for db page ≡ columns_at records db page) → Judged l x → (m : MemoryState) → cursor_arm meaning row l m op_open_read ≡ open_table limit row l (table (at_database x records)) m
  unfolding cursor_arm opened_columns
  arm_is row meaning records l s columns j m =
      ap₂ (λ n c. open_table n row l (table c) m) s.cells
      (ap₂ (λ (p q : ℤ). columns_if (is_zero_int p || eq_int p (pos 1)) (meaning.columns_for p q)) (sym j.p3) (sym j.p2)
      ∙ ap (columns_if (is_database x)) (columns (int_of x.p3) (int_of x.p2)))

-- a property of these columns, and of none
either : (P : Columns → Type 0) (b : Bool) (c : Columns) → P c → P end → P (columns_if b c)
either P true c p q = p
either P false c p q = q

module _ (t : List ℕ) (x : Row) (records : List CatalogueRecord) where
  database_flat : columns_depth (at_database x records) ≤ 8
  unfolding columns_depth
  database_flat = either (λ c. columns_depth c ≤ 8) (is_database x) (at_page x records) (omega (arith, columns_at_flat records (int_of x.p3) (int_of x.p2))) (omega arith)

  database_sorted : HasBlocks t records → SortedColumns (at_database x records) 0
  unfolding SortedColumns
  database_sorted h = either (λ c. SortedColumns c 0) (is_database x) (at_page x records) (columns_at_sorted records (small_columns records h.valid) (int_of x.p3) (int_of x.p2)) tt

module _ (limit : ℕ) (cs : List Cell) (a : IntMap) (t : List ℕ) (x : Row) where
  -- a table that alone has more cells than there may be
  stops : (row : ℕ) (ds : List Cell) → Frame cs ds a.base (limit + limit) → ((records : List CatalogueRecord) → HasBlocks t records → limit < table_cells (table (at_database x records))) → ReadsTable limit cs ds a t row x (Err TooManyCells)
  stops row ds f large =
      record {
        says = λ meaning records l s read columns j bound m le h. arm_is limit x row meaning records l s columns j m ∙ open_large limit row l (table (at_database x records)) m (database_flat t x records) (large records read);
        leaves = tt;
        frame = f;
      }

  pub arm_none : (row : ℕ) → limit ≡ 0 → ReadsTable limit cs cs a t row x (Err TooManyCells)
  unfolding table_cells
  arm_none row h = stops row cs (frame_same cs cs a.base (limit + limit) refl) (λ records read. omega arith)

  module _ (some-room : limit ≡ 0 → ⊥) (ds : List Cell) (y : Stored) (g : Gathers (limit - 1) cs ds (a.base + limit + 1) t (at_database x) y) where
    behind : Frame cs ds (a.base + limit) limit
    behind = frame-within cs ds (a.base + limit + 1) (limit - 1) (a.base + limit) limit (omega arith) (omega arith) g.frame

    pub arm_full : (row : ℕ) (k : Refusal) → y ≡ Err k → ReadsTable limit cs ds a t row x (Err k)
    unfolding table_cells
    arm_full row k e =
        let h = subst (Gathers (limit - 1) cs ds (a.base + limit + 1) t (at_database x)) e g in
        subst (λ n. ReadsTable limit cs ds a t row x (Err n)) (sym h.answer.0)
        (stops row ds (frame-within cs ds (a.base + limit) limit a.base (limit + limit) (omega arith) (omega arith) behind) (λ records read. omega (arith, h.answer.1 records read)))

    module _ (m : IntMap) (e : y ≡ Ok m) where
      got : Gathered (limit - 1) ds (a.base + limit + 1) t (at_database x) m
      got = (subst (Gathers (limit - 1) cs ds (a.base + limit + 1) t (at_database x)) e g).answer

      module _ (es : List Cell) (ee : es ≡ set ds (a.base + limit) (columns_head m.len 0 0)) (current : Current limit cs a) where
        headed : Frame ds es (a.base + limit) 1
        headed = frame-set ds es (a.base + limit) (columns_head m.len 0 0) ee

        written : Frame cs es (a.base + limit) limit
        written = frame_then cs ds es (a.base + limit) limit behind (frame-within ds es (a.base + limit) 1 (a.base + limit) limit (omega arith) (omega arith) headed)

        pub read_current : Current limit es a
        read_current = behind_current limit cs es a limit current written

        module _ (records : List CatalogueRecord) (b : HasBlocks t records) where
          abbrev columns : Columns
          columns = at_database x records

          taken : m.used ≡ length (run_columns columns)
          taken = got.room.used ∙ total-sizes ds levels m.len m.base ∙ ap total (got.runs records b) ∙ sym (length-flatten (column_runs columns))

          many : m.len ≡ count columns
          many = sym (entries-count ds levels m.len m.base) ∙ ap length (got.runs records b) ∙ count_runs columns

          first : get_or es (a.base + limit) blank ≡ columns_head (count columns) 0 0
          first =
              ap (λ l. get_or l (a.base + limit) blank) ee
              ∙ get_or-set_same ds (a.base + limit) (columns_head m.len 0 0) blank (omega (arith, current.scratch, behind.long))
              ∙ ap (λ n. columns_head n 0 0) many

          rest : span es (a.base + limit + 1) m.used ≡ run_columns columns
          rest =
              span_same ds es m.used (a.base + limit + 1) (a.base + limit + 1) (λ j lt. headed.above (a.base + limit + 1 + j) (omega arith))
              ∙ ap₂ (span ds) (sym got.place) taken
              ∙ stand_entries ds levels m.len m.base (column_runs columns) (got.runs records b)

          run : span es (a.base + limit) (1 + m.used) ≡ run_table 0 (table columns)
          unfolding span run_table
          run =
              let z : 1 + m.used ≡ suc m.used = omega arith in
              ap (span es (a.base + limit)) z ∙ ap₂ (λ (c : Cell) (l : List Cell). c ∷ l) first rest

        -- the table that stands there, though not known are the records that it is of
        the_table : ∥ IsBlocks t ∥₁ → TableIn es (a.base + limit) (1 + m.used)
        the_table h =
            ∥∥₁_elim h (one_table es (a.base + limit) (1 + m.used)) (λ w. (table (at_database x w.records), (run w.records w.has, database_flat t x w.records, database_sorted t x w.records w.has)))

        pub read_above : ∥ IsBlocks t ∥₁ → RunAbove es limit a (a.base + limit) (1 + m.used)
        read_above h =
            let its = the_table h in
            let long : length (run_table 0 its.0) ≡ 1 + m.used = ap length (sym its.1.0) ∙ length-span es (a.base + limit) (1 + m.used) in
            let whole = table-whole its.0 0 its.1.1 es (a.base + limit) (ap (span es (a.base + limit)) long ∙ its.1.0) in
            record { whole = sym (whole ∙ long); above = omega arith; fits = omega (arith, written.long, current.scratch, got.room.most) }

        its_table : (records : List CatalogueRecord) → HasBlocks t records → TableAt limit es (a.base + limit) (1 + m.used) (table (at_database x records))
        its_table records b = record { key = 0; shallow = database_flat t x records; sorted = λ _. database_sorted t x records b; run = run records b }

        pub read_table : ∥ IsBlocks t ∥₁ → IsTable limit es (a.base + limit) (1 + m.used)
        read_table h = let its = the_table h in record { table = its.0; stands = record { key = 0; shallow = its.1.1; sorted = λ _. its.1.2; run = its.1.0 } }

        pub arm_opened : (row : ℕ) (fs : List Cell) (r : Stored) → OpensTable limit es fs a row x.p1 (a.base + limit) (1 + m.used) r → ReadsTable limit cs fs a t row x r
        arm_opened row fs r o =
            record {
              says = λ meaning records l s read columns j bound n le held.
                  subst (Tells limit bound fs r) (sym (arm_is limit x row meaning records l s columns j n))
                  (o.says l (sym j.p1) (table (at_database x records)) (its_table records read) bound n le
                  (held_elsewhere limit bound cs a.base a.len a.used n held es a.base (behind_same limit cs es a limit current written)));
              leaves = o.leaves;
              frame = frame_then cs es fs a.base (limit + limit) (frame-within cs es (a.base + limit) limit a.base (limit + limit) (omega arith) (omega arith) written) o.frame;
            }
