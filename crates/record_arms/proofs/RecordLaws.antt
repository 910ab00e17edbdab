-- MakeRecord: what the code refuses the definition refuses, in its order, and a record that is built and stored is the definition's.
-- Assumes nothing.
use Rattle.state.specs.declared.registers.Registers.{Registers}
use Rattle.state.proofs.ArmLaws.{register_arm_as}
use Rattle.state.proofs.LeadsLaws.{frame-within, frame_then, unchanged, tells_stored, leaves_stored}
use Rattle.refusal.specs.declared.Refusal.TheVariants.{TooManyCells, TooDeep, Negative}
use Rattle.refusal.specs.Numbers.{number_of}
use Rattle.refusal.specs.declared.Refusal.{Refusal}
use Rattle.std.specs.Prelude.{Ok, Err, Some, None}
use mathlib.Core.Path.{◌≡◌, refl, sym, ap, ap₂, subst, ◌∙◌}
use mathlib.Core.Bool.{Bool, true, false}
use mathlib.Core.List.{List, ◌∷◌, flatten, map}
use Prim.Native.Nat.{ℕ, zero, suc, ◌+◌, ◌-◌, ◌<◌, ◌≤◌}
use native.Mathlib.Omega.{arith}
use lib.ListN.{length}
use lib.IntN.{ℤ, pos}
use borrow.Author.Tests.{le-leb, lt-leb}
use Rattle.model.specs.Walk.{Tried, refused, done}
use Rattle.model.specs.Row.{Row as Listed}
use Rattle.model.specs.IntMap.{insert}
use Rattle.model.specs.State.{ColumnType, Record, RegDataType, Column, MemoryState, from_dense_record}
use Rattle.model.specs.Cells.{column_cells, register_cells, cells, column_depth, columns_depth, register_depth}
use Rattle.model.specs.Access.{◌>>=◌, index, index_if, depth_if, judge_depth, cells_if, judge_cells, count_of, with_registers, read_columns, store_register}
use Rattle.model.specs.Good.{SortedColumn}
use Rattle.model.specs.Meaning.{Meaning}
use Rattle.model.specs.Operation.{op_make_record}
use Rattle.model.specs.RegisterArms.{register_arm}
use Rattle.model.proofs.Tried.{kept, done-same}
use Rattle.model.proofs.IntMap.{total_insert}
use Rattle.model.proofs.Access.{read_columns_good}
use Rattle.model.proofs.Sorted.{sorted_dense, dense_cells}
use Rattle.area.specs.Cells.{cell}
use Rattle.area.specs.declared.Cell.{Cell}
use Rattle.intmap.specs.Pack.{class_key}
use Rattle.intmap.specs.Runs.{size, Agree}
use Rattle.intmap.specs.Depth.{nesting}
use Rattle.intmap.specs.Entries.{Runs, span, total}
use Rattle.intmap.specs.Swap.{lookup}
use Rattle.intmap.specs.Map.{levels, runs_at, Frame, HasRoom}
use Rattle.intmap.specs.Change.{rekeyed}
use Rattle.intmap.specs.Get.{read_runs, index_of, Judges, Index}
use Rattle.intmap.specs.Signed.{offset, int_of}
use Rattle.intmap.specs.Store.{Stores, Stored}
use Rattle.intmap.specs.declared.IntMap.{IntMap}
use Rattle.intmap.proofs.EntryLaws.{length-span}
use Rattle.intmap.proofs.MapLaws.{placed_room}
use Rattle.intmap.proofs.ChangeLaws.{total-rekeyed}
use Rattle.intmap.proofs.SignedLaws.{count_below, count_above}
use Rattle.encoding.specs.Encode.{run_column, column_runs, run_register}
use Rattle.encoding.specs.Answers.{map_tried}
use Rattle.encoding.specs.Changes.{column_run, read_column_runs}
use Rattle.encoding.proofs.Dense.{dense_runs, numbered-count}
use Rattle.encoding.proofs.Lengths.{length-flatten, columns_length}
use Rattle.encoding.proofs.ReadColumns.{read-columns}
use Rattle.encoding.proofs.Held.{held_elsewhere}
use Rattle.encoding.proofs.HeldAfter.{Carried}
use Rattle.encoding.proofs.HeldFrom.{held_register_from}
use Rattle.rows.specs.Judged.{Judged}
use Rattle.rows.specs.declared.row.Row.{Row}
use Rattle.state.specs.Leads.{Current, HoldsMap, Leads}
use Rattle.state.specs.Arms.{Standard, RegisterArm}
use Rattle.record_arms.specs.Records.{columns_from, runs_from, any_deep, JudgesRange, BuildsRecord, record_from}
use Rattle.record_arms.proofs.RangeLaws.{columns-read}
use Rattle.record_arms.proofs.DeepLaws.{held_deep, held_flat}

-- ---- the definition's store, refused

module _ (limit : ℕ) (i : ℤ) (v : RegDataType) (m : MemoryState) where
  abbrev judged : Tried ℕ → Tried MemoryState
  judged t = t >>= λ k. judge_depth (register_depth v) v >>= λ w. judge_cells limit (with_registers (insert k w m.r) m)

  store_index : (n : ℕ) → index i ≡ refused n → store_register limit i v m ≡ refused n
  unfolding store_register
  store_index n e = ap judged e

  module _ (k : ℕ) (e : index i ≡ done k) where
    store_deep : 8 < register_depth v → store_register limit i v m ≡ refused 9
    unfolding store_register judge_depth
    store_deep h = ap judged e ∙ ap (λ b. depth_if b v >>= λ w. judge_cells limit (with_registers (insert k w m.r) m)) (lt-leb (register_depth v) 8 h)

    store_large : register_depth v ≤ 8 → limit < register_cells v → store_register limit i v m ≡ refused 8
    unfolding store_register judge_depth judge_cells cells
    store_large d h =
        ap judged e ∙ ap (λ b. depth_if b v >>= λ w. judge_cells limit (with_registers (insert k w m.r) m)) (le-leb (register_depth v) 8 d)
        ∙ ap (λ b. cells_if b (with_registers (insert k v m.r) m)) (lt-leb (cells (with_registers (insert k v m.r) m)) limit (omega (arith, total_insert register_cells k v m.r)))

-- ---- the columns that are read, and their runs

columns_long : (m : MemoryState) (n k : ℕ) → length (columns_from n k m) ≡ n
unfolding columns_from
columns_long m zero k = refl
columns_long m (suc n) k = ap suc (columns_long m n (suc k))

-- a register that is read, with those after it
abbrev one : Bool → ℕ → Runs → Tried Runs → Tried Runs
one b k es t = (index_if b k >>= λ i. done (lookup (class_key 0 i) es)) >>= λ r. t >>= λ rs. done (column_run r ∷ rs)

runs-read : (es : Runs) (n k : ℕ) → k + n ≤ 65536 → read_column_runs n (pos k) es ≡ done (runs_from n k es)
unfolding read_column_runs read_runs index runs_from
runs-read es zero k h = refl
runs-read es (suc n) k h =
    ap (λ b. one b k es (read_column_runs n (pos (suc k)) es)) (le-leb k 65535 (omega arith))
    ∙ ap (λ t. one true k es t) (runs-read es n (suc k) (omega arith))

module _ (limit bound : ℕ) (cs : List Cell) (a : IntMap) (m : MemoryState) (holds : HoldsMap limit bound cs a m) (n k : ℕ) (within : k + n ≤ 65536) where
  abbrev columns : List ColumnType
  columns = columns_from n k m

  abbrev made : RegDataType
  made = Column (Record (from_dense_record columns))

  runs_are : runs_from n k (runs_at cs a) ≡ map (run_column 0) columns
  runs_are =
      done-same
      (sym (runs-read (runs_at cs a) n k within) ∙ ap (read_column_runs n (pos k)) holds.runs ∙ read-columns limit m holds.good n (pos k)
      ∙ ap (map_tried (map (run_column 0))) (columns-read m n k within))

  made_runs : column_runs (from_dense_record columns) ≡ rekeyed 0 (runs_from n k (runs_at cs a))
  made_runs = dense_runs 0 columns ∙ ap (rekeyed 0) (sym runs_are)

  pub made_run : cell 2 n ∷ flatten (rekeyed 0 (runs_from n k (runs_at cs a))) ≡ run_register 0 made
  unfolding run_register run_column
  made_run = ap₂ (λ (c : ℕ) (l : Runs). cell 2 c ∷ flatten l) (sym (numbered-count 0 columns ∙ columns_long m n k)) (sym made_runs)

  made_cells : register_cells made ≡ 1 + total (runs_from n k (runs_at cs a))
  unfolding register_cells column_cells
  made_cells =
      let c = columns_length (from_dense_record columns) in
      let l = length-flatten (column_runs (from_dense_record columns)) ∙ ap total made_runs ∙ total-rekeyed 0 (runs_from n k (runs_at cs a)) in
      omega (arith, c, l)

  made_least : n < register_cells made
  unfolding register_cells column_cells
  made_least = omega (arith, dense_cells columns 0, columns_long m n k)

  pub made_depth : register_depth made ≡ suc (columns_depth (from_dense_record columns))
  unfolding register_depth column_depth
  made_depth = refl

  pub made_sorted : SortedColumn (Record (from_dense_record columns))
  unfolding SortedColumn
  made_sorted = sorted_dense columns (omega (arith, columns_long m n k)) (kept (read_columns_good holds.good n (pos k)) (columns-read m n k within))

-- ---- what the code answers

module _ (limit : ℕ) (cs : List Cell) (a : IntMap) (first n i : ℕ) (within : first + n ≤ 65536) where
  stops : (ds : List Cell) (k : Refusal) → Frame cs ds a.base (limit + limit) → ((bound : ℕ) (m : MemoryState) → HoldsMap limit bound cs a m → record_from limit n first (int_of i) m ≡ refused (number_of k)) → Leads limit cs ds a (Err k) (record_from limit n first (int_of i))
  stops ds k frame e = record { says = λ bound m le h. e bound m h; leaves = tt; frame = frame }

  pub record_index : (x : Index) → Judges i x → (k : Refusal) → x ≡ Err k → Leads limit cs cs a (Err k) (record_from limit n first (int_of i))
  unfolding record_from
  record_index x judges k xe = stops cs k (unchanged cs a.base (limit + limit)) (λ bound m h. store_index limit (int_of i) _ m (number_of k) (sym judges.answer ∙ ap index_of xe))

  module _ (x : Index) (judges : Judges i x) (k : ℕ) (xe : x ≡ Ok k) where
    judged_index : index (int_of i) ≡ done k
    judged_index = sym judges.answer ∙ ap index_of xe

    pub record_deep : any_deep cs (class_key 0 first) (class_key 0 (first + n)) a.len a.base ≡ true → Leads limit cs cs a (Err TooDeep) (record_from limit n first (int_of i))
    unfolding record_from
    record_deep d =
        stops cs TooDeep (unchanged cs a.base (limit + limit))
        (λ bound m h. store_deep limit (int_of i) _ m k judged_index (omega (arith, held_deep limit bound cs a m h first n within d, made_depth limit bound cs a m h n first within)))

    module _ (flat : any_deep cs (class_key 0 first) (class_key 0 (first + n)) a.len a.base ≡ false) where
      large : (ds : List Cell) → Frame cs ds a.base (limit + limit) → ((bound : ℕ) (m : MemoryState) → HoldsMap limit bound cs a m → limit < register_cells (Column (Record (from_dense_record (columns_from n first m))))) → Leads limit cs ds a (Err TooManyCells) (record_from limit n first (int_of i))
      unfolding record_from
      large ds frame more =
          stops ds TooManyCells frame
          (λ bound m h. store_large limit (int_of i) _ m k judged_index (omega (arith, held_flat limit bound cs a m h first n within flat, made_depth limit bound cs a m h n first within)) (more bound m h))

      pub record_many : limit ≤ n → Leads limit cs cs a (Err TooManyCells) (record_from limit n first (int_of i))
      record_many le = large cs (unchanged cs a.base (limit + limit)) (λ bound m h. omega (arith, made_least limit bound cs a m h n first within))

      pub record_full : (ds : List Cell) → BuildsRecord cs ds a first n limit None → Leads limit cs ds a (Err TooManyCells) (record_from limit n first (int_of i))
      record_full ds b =
          large ds (frame-within cs ds (a.base + limit) limit a.base (limit + limit) (omega arith) (omega arith) b.frame)
          (λ bound m h. omega (arith, made_cells limit bound cs a m h n first within, b.answer))

      -- it stands behind the map, and is stored from there
      module _ (es : List Cell) (p : ℕ) (b : BuildsRecord cs es a first n limit (Some p)) (current : Current limit cs a) where
        same : Agree cs a.base es a.base a.used
        same j lt = b.frame.below (a.base + j) (omega (arith, current.room.most))

        pub built_room : HasRoom es limit a
        built_room =
            placed_room cs es a a.base (record { used = current.room.used; inside = omega (arith, current.room.room, current.room.most); small = current.room.small }) same b.frame.long limit
            current.room.most (omega (arith, b.frame.long, current.room.room))

        pub built_fits : p + size es levels p ≤ length es
        built_fits = omega (arith, b.answer.ends, b.frame.long, current.scratch)

        pub record_stored : (ds : List Cell) (r : Stored) → Stores es ds limit a 0 i (nesting es levels p) (span es p (size es levels p)) r → Leads limit cs ds a r (record_from limit n first (int_of i))
        unfolding record_from
        record_stored ds r st =
            record {
              says = λ bound m le h.
                  (let run : span es p (size es levels p) ≡ run_register 0 (Column (Record (from_dense_record (columns_from n first m)))) = b.answer.run ∙ made_run limit bound cs a m h n first within in
                  let long = ap length (sym run) ∙ length-span es p (size es levels p) in
                  let c = held_register_from (held_elsewhere limit bound cs a.base a.len a.used m h es a.base same) p 0 (int_of i) (Column (Record (from_dense_record (columns_from n first m)))) (ap (span es p) long ∙ run) (omega (arith, held_flat limit bound cs a m h first n within flat, made_depth limit bound cs a m h n first within)) (λ _. made_sorted limit bound cs a m h n first within) tt in
                  tells_stored limit bound ds a r (store_register limit (int_of i) (Column (Record (from_dense_record (columns_from n first m)))) m) (subst (λ u. Carried limit bound u (store_register limit (int_of i) (Column (Record (from_dense_record (columns_from n first m)))) m)) (sym st.answer) c) (leaves_stored es ds limit a i _ _ r st));
              leaves = leaves_stored es ds limit a i _ _ r st;
              frame =
                  frame_then cs es ds a.base (limit + limit) (frame-within cs es (a.base + limit) limit a.base (limit + limit) (omega arith) (omega arith) b.frame)
                  (frame-within es ds a.base limit a.base (limit + limit) (omega arith) (omega arith) st.frame);
            }

-- ---- the arm

module _ (limit : ℕ) (cs : List Cell) (a : IntMap) (x : Row) where
  abbrev counted : Tried ℕ → Listed → MemoryState → Tried MemoryState
  counted t l m = t >>= λ n. read_columns n l.p1 m >>= λ cs. store_register limit l.p3 (Column (Record (from_dense_record cs))) m

  -- in the words of a judged row
  arm_is : (meaning : Meaning) (l : Listed) → Standard limit meaning → Judged l x → (m : MemoryState) → register_arm meaning l m op_make_record ≡ counted (count_of (int_of x.p2)) l m
  unfolding register_arm
  arm_is meaning l s j m = ap (λ n. count_of l.p2 >>= λ c. read_columns c l.p1 m >>= λ cs. store_register n l.p3 (Column (Record (from_dense_record cs))) m) s.cells ∙ ap (λ z. counted (count_of z) l m) (sym j.p2)

  pub arm_negative : x.p2 < offset → RegisterArm limit cs cs a x op_make_record (Err Negative)
  arm_negative h =
      record {
        says = λ meaning l s j bound m le y. arm_is meaning l s j m ∙ ap (λ t. counted t l m) (count_below x.p2 h);
        leaves = tt;
        frame = unchanged cs a.base (limit + limit);
      }

  module _ (h : offset ≤ x.p2) (n : ℕ) (ne : n ≡ x.p2 - offset) where
    abbrev read : Tried (List ColumnType) → Listed → MemoryState → Tried MemoryState
    read t l m = t >>= λ cs. store_register limit l.p3 (Column (Record (from_dense_record cs))) m

    arm_reads : (meaning : Meaning) (l : Listed) → Standard limit meaning → Judged l x → (m : MemoryState) → register_arm meaning l m op_make_record ≡ read (read_columns n (int_of x.p1) m) l m
    arm_reads meaning l s j m =
        arm_is meaning l s j m ∙ ap (λ t. counted t l m) (count_above x.p2 h ∙ ap done (sym ne)) ∙ ap (λ z. read (read_columns n z m) l m) (sym j.p1)

    pub arm_range : (k : Refusal) → JudgesRange x.p1 n (Err k) → RegisterArm limit cs cs a x op_make_record (Err k)
    arm_range k g =
        record {
          says = λ meaning l s j bound m le y. arm_reads meaning l s j m ∙ ap (λ t. read t l m) (g.says m);
          leaves = tt;
          frame = unchanged cs a.base (limit + limit);
        }

    pub arm_stored : (from : Registers) → JudgesRange x.p1 n (Ok from) → (ds : List Cell) (r : Stored) → Leads limit cs ds a r (record_from limit from.count from.first (int_of x.p3)) → RegisterArm limit cs ds a x op_make_record r
    unfolding record_from
    arm_stored from g ds r led =
        register_arm_as (subst (λ k. Leads limit cs ds a r (record_from limit k from.first (int_of x.p3))) g.many led)
        (λ meaning l s j m. sym (arm_reads meaning l s j m ∙ ap (λ t. read t l m) (g.says m) ∙ ap (λ z. store_register limit z (Column (Record (from_dense_record (columns_from n from.first m)))) m) (sym j.p3)))
