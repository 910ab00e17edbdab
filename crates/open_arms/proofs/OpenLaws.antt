-- A table that is stored from its run and a cursor on it are the definition's; an empty table's run; and OpenEphemeral's refusals, in the
-- definition's order. Assumes nothing.
use Rattle.refusal.specs.declared.Refusal.TheVariants.{TooManyCells, Negative}
use Rattle.refusal.specs.Numbers.{number_of}
use Rattle.refusal.specs.declared.Refusal.{Refusal}
use mathlib.Core.Path.{◌≡◌, refl, sym, ap, ap₂, subst, ◌∙◌}
use mathlib.Core.Bool.{true}
use Rattle.std.specs.Prelude.{Some, Ok, Err}
use mathlib.Core.List.{List, ◌∷◌}
use Prim.Native.Nat.{ℕ, zero, suc, ◌+◌, ◌-◌, ◌<◌, ◌≤◌}
use native.Mathlib.Omega.{arith}
use lib.ListN.{length, get_or, set, replicate, length-replicate}
use lib.Seq.{get_or-set_same}
use borrow.Author.Tests.{le-leb, lt-leb}
use Rattle.type_info.specs.declared.DataType.TheVariants.{Null}
use Rattle.model.specs.Walk.{Tried, refused, done}
use Rattle.model.specs.Row.{Row as Listed}
use Rattle.model.specs.IntMap.{insert, numbered}
use Rattle.model.specs.State.{Normal, TableDataType, MemoryState, as_columns, from_elem, null}
use Rattle.model.specs.Cells.{columns_depth, table_cells, cells}
use Rattle.model.specs.Access.{◌>>=◌, count_of, depth_if, judge_depth, cells_if, judge_cells, with_tables, store_cursor, store_table}
use Rattle.model.specs.CursorArms.{open_table, cursor_arm}
use Rattle.model.specs.Operation.{op_open_ephemeral}
use Rattle.model.specs.Good.{SortedColumn, SortedColumns}
use Rattle.model.specs.Meaning.{Meaning}
use Rattle.model.proofs.IntMap.{total_insert}
use Rattle.model.proofs.Sorted.{sorted_dense, dense_cells, each-replicate}
use Rattle.area.specs.Cells.{blank}
use Rattle.area.specs.declared.Cell.{Cell}
use Rattle.intmap.specs.Pack.{class_key}
use Rattle.intmap.specs.Runs.{Agree}
use Rattle.intmap.specs.Entries.{Runs, span}
use Rattle.intmap.specs.Map.{runs_at, Frame}
use Rattle.intmap.specs.Change.{rekey, elems, FromElem}
use Rattle.intmap.specs.Signed.{offset, int_of}
use Rattle.intmap.specs.Store.{put, judge_runs, stored_of, store_at, RunAbove, Inserts, Stored}
use Rattle.intmap.specs.declared.IntMap.{IntMap}
use Rattle.intmap.proofs.EntryLaws.{length-span}
use Rattle.intmap.proofs.MapLaws.{placed_room}
use Rattle.intmap.proofs.StoreLaws.{frame_same}
use Rattle.intmap.proofs.SignedLaws.{count_below, count_above}
use Rattle.encoding.specs.Encode.{single, columns_head, run_table}
use Rattle.encoding.proofs.Dense.{numbered-count, elem_run}
use Rattle.encoding.proofs.Standing.{table-whole}
use Rattle.encoding.proofs.Held.{held_elsewhere}
use Rattle.encoding.proofs.HeldAfter.{held_table}
use Rattle.rows.specs.Judged.{Judged}
use Rattle.rows.specs.declared.row.Row.{Row}
use Rattle.state.specs.Leads.{Current, Tells, Leaves, Leads}
use Rattle.state.specs.Arms.{Standard, CursorArm}
use Rattle.state.proofs.LeadsLaws.{led_current, Reached, frame-within, frame_then, reached_first, reached_next, reached_stop, reached_last, frame-set}
use Rattle.open_arms.specs.Tables.{TableAt, IsTable, OpensTable, empty_table, PutsTable}

-- ---- a table from its run

-- the store of a table that is not too deep
stored_at : (limit key depth : ℕ) (run : List Cell) (es : Runs) → depth ≤ 8 → judge_runs limit (put (rekey key run) es) ≡ store_at limit key depth run es
unfolding store_at judge_depth
stored_at limit key depth run es h = ap (λ b. depth_if b run >>= λ v. judge_runs limit (put (rekey key v) es)) (sym (le-leb depth 8 h))

module _ (limit : ℕ) (cs ds : List Cell) (a : IntMap) (row from n : ℕ) (small : row ≤ 65535) (x : Stored) (ins : Inserts cs ds limit a (rekey (class_key 2 row) (span cs from n)) x) where
  abbrev storing : TableDataType → MemoryState → Tried MemoryState
  storing t m = store_table limit row t m

  wide : Frame cs ds a.base (limit + limit)
  wide = frame-within cs ds a.base limit a.base (limit + limit) (omega arith) (omega arith) ins.frame

  module _ (t : TableDataType) (its : TableAt limit cs from n t) where
    answer : stored_of ds x ≡ store_at limit (class_key 2 row) (columns_depth t.cols) (run_table its.key t) (runs_at cs a)
    answer =
        ins.answer
        ∙ ap (λ r. judge_runs limit (put (rekey (class_key 2 row) r) (runs_at cs a))) its.run
        ∙ stored_at limit (class_key 2 row) (columns_depth t.cols) (run_table its.key t) (runs_at cs a) its.shallow

    table_full : (k : Refusal) → x ≡ Err k → Leads limit cs ds a (Err k) (storing t)
    table_full k e =
        record {
          says = λ bound m le h. (held_table h row small its.key t its.sorted).refuses (number_of k) (sym answer ∙ ap (stored_of ds) e);
          leaves = tt;
          frame = wide;
        }

    table_done : (b : IntMap) → x ≡ Ok b → Leads limit cs ds a (Ok b) (storing t)
    table_done b e =
        let next = subst (λ y. Inserts cs ds limit a (rekey (class_key 2 row) (span cs from n)) y) e ins in
        record {
          says = λ bound m le h. (held_table h row small its.key t its.sorted).next ds b.base b.len b.used (runs_at ds b) (sym answer ∙ ap (stored_of ds) e) refl next.leaves.room.used;
          leaves = record { base = next.leaves.base; room = next.leaves.room };
          frame = wide;
        }

  module _ (current : Current limit cs a) (i : ℕ) where
    opened : (l : Listed) → l.p1 ≡ int_of i → (t : TableDataType) (m : MemoryState) → (storing t m >>= λ s. store_cursor limit (int_of i) (Normal row) s) ≡ open_table limit row l t m
    unfolding open_table
    opened l e t m = ap (λ z. storing t m >>= λ s. store_cursor limit z (Normal row) s) (sym e)

    abbrev cursor : MemoryState → Tried MemoryState
    cursor s = store_cursor limit (int_of i) (Normal row) s

    -- the table is still to come, then the cursor
    both : (t : TableDataType) → Reached limit cs cs a a (λ m. storing t m >>= cursor) (λ m. storing t m >>= cursor)
    both t = reached_first limit cs a _ current

    pub open_full : (k : Refusal) → x ≡ Err k → OpensTable limit cs ds a row i from n (Err k)
    open_full k e =
        record {
          says = λ l p t its bound m le h.
              subst (Tells limit bound ds (Err k)) (opened l p t m)
              ((reached_stop (both t) ds (storing t) cursor (λ m. refl) _ (table_full t its k e) k refl).says bound m le h);
          leaves = tt;
          frame = wide;
        }

    module _ (b : IntMap) (e : x ≡ Ok b) where
      next : Inserts cs ds limit a (rekey (class_key 2 row) (span cs from n)) (Ok b)
      next = subst (λ y. Inserts cs ds limit a (rekey (class_key 2 row) (span cs from n)) y) e ins

      -- k is the limit, as the store says it then
      pub next_current : (k : ℕ) → k ≡ limit → IsTable limit cs from n → Current k ds b
      next_current k ke is = subst (λ y. Current y ds b) (sym ke) (led_current current b (table_done is.table is.stands b e))

      pub open_done : (k : ℕ) → k ≡ limit → (es : List Cell) (r : Stored) → Leads k ds es b r (store_cursor k (int_of i) (Normal row)) → OpensTable limit cs es a row i from n r
      open_done k ke es r then =
          let led = subst (λ y. Leads y ds es b r (store_cursor y (int_of i) (Normal row))) ke then in
          record {
            says = λ l p t its bound m le h.
                subst (Tells limit bound es r) (opened l p t m)
                ((reached_last (reached_next (both t) ds (storing t) cursor (λ m. refl) _ (table_done t its b e) b refl) es r led).says bound m le h);
            leaves = stays r led.leaves;
            frame = frame_then cs ds es a.base (limit + limit) wide (subst (λ p. Frame ds es p (limit + limit)) next.leaves.base led.frame);
          }
        where
          stays : (r : Stored) → Leaves limit es b r → Leaves limit es a r
          stays (Err k) l = tt
          stays (Ok c) l = record { base = l.base ∙ next.leaves.base; room = l.room }

-- a table that alone has more cells than there may be
pub open_large : (limit row : ℕ) (l : Listed) (t : TableDataType) (m : MemoryState) → columns_depth t.cols ≤ 8 → limit < table_cells t → open_table limit row l t m ≡ refused 8
unfolding open_table store_table judge_depth judge_cells cells
open_large limit row l t m deep large =
    ap (λ b. depth_if b t >>= (λ u. judge_cells limit (with_tables (insert row u m.t) m)) >>= λ s. store_cursor limit l.p1 (Normal row) s) (le-leb (columns_depth t.cols) 8 deep)
    ∙ ap (λ b. cells_if b (with_tables (insert row t m.t) m) >>= λ s. store_cursor limit l.p1 (Normal row) s) (lt-leb (cells (with_tables (insert row t m.t) m)) limit (omega (arith, total_insert table_cells row t m.t)))

-- what is written behind the map leaves the map as it is
module _ (limit : ℕ) (cs es : List Cell) (a : IntMap) (n : ℕ) (current : Current limit cs a) (f : Frame cs es (a.base + limit) n) where
  pub behind_same : Agree cs a.base es a.base a.used
  behind_same j lt = f.below (a.base + j) (omega (arith, current.room.most))

  pub behind_current : Current limit es a
  behind_current =
      record {
        room =
            placed_room cs es a a.base (record { used = current.room.used; inside = omega (arith, current.room.room, current.room.most); small = current.room.small }) behind_same f.long limit
            current.room.most (omega (arith, f.long, current.room.room));
        scratch = omega (arith, f.long, current.scratch);
        bound = current.bound;
        large = current.large;
        fits = current.fits;
        state = current.state;
        holds = held_elsewhere limit current.bound cs a.base a.len a.used current.state current.holds es a.base behind_same;
      }

-- ---- an empty table's run

module _ (cs es ds : List Cell) (p n : ℕ) (c : Cell) (fits : p + (1 + n) ≤ length cs) (ee : es ≡ set cs p (columns_head n 2 0)) (ce : c ≡ single 0 2 0) (elem : FromElem es ds (p + 1) c n) where
  head_there : get_or ds p blank ≡ columns_head n 2 0
  head_there = elem.frame.below p (omega arith) ∙ ap (λ l. get_or l p blank) ee ∙ get_or-set_same cs p (columns_head n 2 0) blank (omega arith)

  table_run : columns_head n 2 0 ∷ elems (single 0 2 0) 0 n ≡ run_table 0 (empty_table n)
  unfolding run_table
  table_run = ap₂ (λ (k : ℕ) (l : List Cell). columns_head k 2 0 ∷ l) (sym (numbered-count 0 (replicate n null) ∙ length-replicate n null)) (sym (elem_run Null (Some true) 0 n))

  pub table_put : PutsTable cs ds p n
  unfolding span
  table_put =
      let z : 1 + n ≡ suc n = omega arith in
      record {
        run = ap (span ds p) z ∙ ap₂ (λ (x : Cell) (l : List Cell). x ∷ l) head_there (elem.cells ∙ ap (λ x. elems x 0 n) ce) ∙ table_run;
        frame =
            frame_then cs es ds p (1 + n) (frame-within cs es p 1 p (1 + n) (omega arith) (omega arith) (frame-set cs es p (columns_head n 2 0) ee))
            (frame-within es ds (p + 1) n p (1 + n) (omega arith) (omega arith) elem.frame);
      }

elems_depth : (n k : ℕ) → columns_depth (as_columns (numbered k (replicate n null))) ≡ 0
unfolding as_columns numbered columns_depth
elems_depth zero k = refl
elems_depth (suc n) k = omega (arith, elems_depth n (suc k))

empty_depth : (n : ℕ) → columns_depth (from_elem null n) ≡ 0
empty_depth n = elems_depth n 0

empty_sorted : (n : ℕ) → n ≤ 65536 → SortedColumns (from_elem null n) 0
unfolding SortedColumn
empty_sorted n h = sorted_dense (replicate n null) (omega (arith, length-replicate n null)) (each-replicate SortedColumn null tt n)

empty-cells : (n : ℕ) → n < table_cells (empty_table n)
unfolding table_cells
empty-cells n = omega (arith, dense_cells (replicate n null) 0, length-replicate n null)

-- ---- OpenEphemeral

module _ (limit : ℕ) (cs : List Cell) (a : IntMap) (row : ℕ) (x : Row) where
  abbrev counted : Tried ℕ → Listed → MemoryState → Tried MemoryState
  counted t l m = t >>= λ n. open_table limit row l (empty_table n) m

  arm_is : (meaning : Meaning) (l : Listed) → Standard limit meaning → Judged l x → (m : MemoryState) → cursor_arm meaning row l m op_open_ephemeral ≡ counted (count_of (int_of x.p2)) l m
  unfolding cursor_arm
  arm_is meaning l s j m = ap (λ n. count_of l.p2 >>= λ c. open_table n row l (empty_table c) m) s.cells ∙ ap (λ z. counted (count_of z) l m) (sym j.p2)

  pub arm_negative : x.p2 < offset → CursorArm limit cs cs a row x op_open_ephemeral (Err Negative)
  arm_negative h =
      record {
        says = λ meaning l s j bound m le y. arm_is meaning l s j m ∙ ap (λ t. counted t l m) (count_below x.p2 h);
        leaves = tt;
        frame = frame_same cs cs a.base (limit + limit) refl;
      }

  module _ (h : offset ≤ x.p2) (n : ℕ) (ne : n ≡ x.p2 - offset) where
    arm_opens : (meaning : Meaning) (l : Listed) → Standard limit meaning → Judged l x → (m : MemoryState) → cursor_arm meaning row l m op_open_ephemeral ≡ open_table limit row l (empty_table n) m
    arm_opens meaning l s j m = arm_is meaning l s j m ∙ ap (λ t. counted t l m) (count_above x.p2 h ∙ ap done (sym ne))

    pub arm_many : limit ≤ n → CursorArm limit cs cs a row x op_open_ephemeral (Err TooManyCells)
    arm_many le =
        record {
          says = λ meaning l s j bound m b y. arm_opens meaning l s j m ∙ open_large limit row l (empty_table n) m (omega (arith, empty_depth n)) (omega (arith, empty-cells n));
          leaves = tt;
          frame = frame_same cs cs a.base (limit + limit) refl;
        }

    module _ (es : List Cell) (puts : PutsTable cs es (a.base + limit) n) (current : Current limit cs a) (lt : n < limit) (few : limit ≤ 65536) where
      pub put_current : Current limit es a
      put_current = behind_current limit cs es a (1 + n) current puts.frame

      long : length (run_table 0 (empty_table n)) ≡ 1 + n
      long = ap length (sym puts.run) ∙ length-span es (a.base + limit) (1 + n)

      pub put_above : RunAbove es limit a (a.base + limit) (1 + n)
      put_above =
          let whole = table-whole (empty_table n) 0 (omega (arith, empty_depth n)) es (a.base + limit) (ap (span es (a.base + limit)) long ∙ puts.run) in
          record { whole = sym (whole ∙ long); above = omega arith; fits = omega (arith, puts.frame.long, current.scratch) }

      its_table : TableAt limit es (a.base + limit) (1 + n) (empty_table n)
      its_table = record { key = 0; shallow = omega (arith, empty_depth n); sorted = λ _. empty_sorted n (omega arith); run = puts.run }

      pub put_table : IsTable limit es (a.base + limit) (1 + n)
      put_table = record { table = empty_table n; stands = its_table }

      pub arm_opened : (ds : List Cell) (r : Stored) → OpensTable limit es ds a row x.p1 (a.base + limit) (1 + n) r → CursorArm limit cs ds a row x op_open_ephemeral r
      arm_opened ds r o =
          record {
            says = λ meaning l s j bound m le y.
                subst (Tells limit bound ds r) (sym (arm_opens meaning l s j m))
                (o.says l (sym j.p1) (empty_table n) its_table bound m le (held_elsewhere limit bound cs a.base a.len a.used m y es a.base (behind_same limit cs es a (1 + n) current puts.frame)));
            leaves = o.leaves;
            frame =
                frame_then cs es ds a.base (limit + limit) (frame-within cs es (a.base + limit) (1 + n) a.base (limit + limit) (omega arith) (omega arith) puts.frame)
                o.frame;
          }
