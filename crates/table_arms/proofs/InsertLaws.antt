-- Insert by what register P2 holds and what cursor P1 is. Assumes nothing.
use Rattle.refusal.specs.Numbers.{number_of}
use Rattle.refusal.specs.declared.Refusal.{Refusal}
use mathlib.Core.Path.{◌≡◌, refl, sym, ap, ap₂, subst, ◌∙◌}
use mathlib.Core.Bool.{Bool, true, false}
use Rattle.std.specs.Prelude.{Option, None, Some, Ok, Err}
use mathlib.Core.List.{List, ◌∷◌}
use Prim.Native.Nat.{ℕ, ◌+◌, ◌-◌, ◌≤◌}
use native.Mathlib.Omega.{arith}
use lib.ListN.{length, get_or}
use lib.IntN.{ℤ}
use Rattle.type_info.specs.declared.DataType.{DataType}
use Rattle.type_info.specs.declared.DataType.TheVariants.{Null, Integer, Float, Text, Blob, Numeric, Bool as Boolean, Int4, Date, Time, Datetime}
use Rattle.model.specs.Walk.{Tried, refused, done}
use Rattle.model.specs.Row.{Row as Listed}
use Rattle.model.specs.IntMap.{get}
use Rattle.model.specs.State.{Record, Columns, RegDataType, Column, Normal, TableDataType, MemoryState, is_null_type}
use Rattle.model.specs.Cells.{column_depth, columns_depth, register_depth}
use Rattle.model.specs.Access.{◌>>=◌, read_register, read_cursor, store_table}
use Rattle.model.specs.Cursor.{update_cursor_table, set_empty}
use Rattle.model.specs.CursorArms.{insert_null_if, store_into, insert_record, insert_arm, cursor_arm}
use Rattle.model.specs.Good.{SortedColumn, GoodRegister}
use Rattle.model.specs.Meaning.{Meaning}
use Rattle.model.specs.Operation.{op_insert}
use Rattle.model.proofs.StoreInPlace.{depth_passes}
use Rattle.model.proofs.Access.{read_register_good}
use Rattle.model.proofs.Tried.{done-same, kept}
use Rattle.area.specs.Cells.{blank}
use Rattle.area.specs.declared.Cell.{Cell}
use Rattle.intmap.specs.Change.{on_head, rekey}
use Rattle.intmap.specs.Entries.{span}
use Rattle.intmap.specs.Map.{levels, runs_at, HasRoom}
use Rattle.intmap.specs.Pack.{class_key, with_nullable}
use Rattle.intmap.specs.Runs.{size}
use Rattle.intmap.specs.Signed.{int_of}
use Rattle.intmap.specs.Store.{put, judge_runs, stored_of, Inserts, store_at, Stored}
use Rattle.intmap.specs.declared.IntMap.{IntMap}
use Rattle.intmap.proofs.EntryLaws.{opened}
use Rattle.intmap.proofs.PackLaws.{head_with_nullable}
use Rattle.intmap.proofs.RunLaws.{size-pos}
use Rattle.encoding.specs.Encode.{count, run_column, run_columns, run_register, run_table}
use Rattle.encoding.proofs.Held.{held_elsewhere}
use Rattle.encoding.proofs.HeldAfter.{Carried, held_table}
use Rattle.encoding.proofs.Standing.{column_whole}
use Rattle.rows.specs.Judged.{Judged}
use Rattle.rows.specs.declared.row.Row.{Row}
use Rattle.state.specs.Leads.{Current, HoldsMap, Tells, Leaves, Leads}
use Rattle.state.specs.Arms.{Standard, CursorArm}
use Rattle.state.specs.Over.{headed, OverEntry}
use Rattle.state.specs.Reads.{IsRecord, Reads, TellsRegister, Reading as RegisterReading}
use Rattle.state.specs.declared.Register.TheVariants as register
use Rattle.state.proofs.StoreLeads.{wider}
use Rattle.state.proofs.LeadsLaws.{unchanged, tells_stored}
use Rattle.cursor_arms.specs.Behind.{RunBehind}
use Rattle.cursor_arms.specs.Cursors.{Reading, ReadsCursor}
use Rattle.cursor_arms.specs.StandsFor.{FindsTable, TellsTable, CursorTableChanged}
use Rattle.cursor_arms.specs.declared.CursorDataType.{CursorDataType}
use Rattle.cursor_arms.specs.declared.CursorDataType.TheVariants as cursor
use Rattle.cursor_arms.proofs.CursorLaws.{told_some}
use Rattle.table_arms.specs.Inserted.{RecordAt, fill_table, StoresTable, InsertsRecord}

-- ---- the record as a table

as_table : (key : ℕ) (x : Columns) → on_head (with_nullable 1) (run_register key (Column (Record x))) ≡ run_table key (record { cols = x; is_empty = Some false })
unfolding run_register run_column run_table
as_table key x = ap (λ c. c ∷ run_columns x) (head_with_nullable 2 0 0 key (omega arith) (omega arith) (omega arith) (count x) 1)

module _ (limit : ℕ) (cs es ds : List Cell) (a : IntMap) (row at n key : ℕ) (within : row ≤ 65535) (ke : key ≡ class_key 2 row) (behind : RunBehind limit cs es a at (Some false) n) (x : Stored) (st : Inserts es ds limit a (rekey key (span es (a.base + limit) n)) x) where
  left : (x : Stored) → Inserts es ds limit a (rekey key (span es (a.base + limit) n)) x → Leaves limit ds a x
  left (Err e) st = tt
  left (Ok b) st = record { base = st.leaves.base; room = st.leaves.room }

  pub stores : (r : Stored) → x ≡ r → StoresTable limit cs ds a row at r
  unfolding store_at
  stores r same =
      subst (StoresTable limit cs ds a row at) same
      (record {
        says = λ bound m h y r.
            (let t : TableDataType = record { cols = y; is_empty = Some false } in
            let run : span es (a.base + limit) n ≡ run_table r.key t = behind.run ∙ ap (on_head (with_nullable 1)) r.run ∙ as_table r.key y in
            let c = held_table (held_elsewhere limit bound cs a.base a.len a.used m h es a.base behind.kept) row within r.key t (λ _. r.sorted) in
            let same : stored_of ds x ≡ store_at limit (class_key 2 row) (columns_depth y) (run_table r.key t) (runs_at es a) =
            st.answer
            ∙ ap₂ (λ k l. judge_runs limit (put (rekey k l) (runs_at es a))) ke run
            ∙ ap (λ u. u >>= λ v. judge_runs limit (put (rekey (class_key 2 row) v) (runs_at es a))) (sym (depth_passes (columns_depth y) (run_table r.key t) r.depth)) in
            tells_stored limit bound ds a x (store_table limit row t m) (subst (λ u. Carried limit bound u (store_table limit row t m)) (sym same) c) (left x st));
        leaves = left x st;
        frame =
            record {
              long = st.frame.long ∙ behind.frame.long;
              below = λ j lt. st.frame.below j lt ∙ behind.frame.below j (omega arith);
              above = λ j le. st.frame.above j (omega arith) ∙ behind.frame.above j (omega arith);
            };
      })

-- the record put over the table where that stands
module _ (limit : ℕ) (cs ds : List Cell) (a : IntMap) (row at : ℕ) (within : row ≤ 65535) (room : HasRoom cs limit a) (b c : Cell) (be : b ≡ get_or cs at blank) (ce : c ≡ with_nullable 1 b) (r : Bool) (over : OverEntry cs ds a at c 2 row r) (e : r ≡ true) where
  inserted : Inserts cs ds limit a (rekey (class_key 2 row) (headed cs at c)) (Ok a)
  inserted = over.yes e limit room

  nulled : headed cs at c ≡ on_head (with_nullable 1) (span cs at (size cs levels at))
  nulled = ap (λ y. y ∷ span cs (at + 1) (size cs levels at - 1)) (ce ∙ ap (with_nullable 1) be) ∙ ap (on_head (with_nullable 1)) (opened cs at (size cs levels at) (size-pos cs levels at))

  pub stores-over : (to : IntMap) → to ≡ a → StoresTable limit cs ds a row at (Ok to)
  unfolding store_at
  stores-over to same =
      subst (λ y. StoresTable limit cs ds a row at (Ok y)) (sym same)
      (record {
        says = λ bound m h y r.
            (let t : TableDataType = record { cols = y; is_empty = Some false } in
            let run : headed cs at c ≡ run_table r.key t = nulled ∙ ap (on_head (with_nullable 1)) r.run ∙ as_table r.key y in
            let same : done (runs_at ds a) ≡ store_at limit (class_key 2 row) (columns_depth y) (run_table r.key t) (runs_at cs a) =
            inserted.answer
            ∙ ap (λ l. judge_runs limit (put (rekey (class_key 2 row) l) (runs_at cs a))) run
            ∙ ap (λ u. u >>= λ v. judge_runs limit (put (rekey (class_key 2 row) v) (runs_at cs a))) (sym (depth_passes (columns_depth y) (run_table r.key t) r.depth)) in
            (held_table h row within r.key t (λ _. r.sorted)).next ds a.base a.len a.used (runs_at ds a) (sym same) refl inserted.leaves.room.used);
        leaves = record { base = refl; room = inserted.leaves.room };
        frame = wider cs ds a.base limit inserted.frame;
      })

-- ---- by cursor P1

module _ (limit : ℕ) (cs : List Cell) (a : IntMap) (x : Row) (p : Reading) (reads : ReadsCursor cs a x.p1 p) (current : Current limit cs a) where
  as_read : (q : Reading) → p ≡ q → ReadsCursor cs a x.p1 q
  as_read q e = subst (ReadsCursor cs a x.p1) e reads

  -- nothing is changed, or refused
  module _ (at : ℕ) where
    pub record_bad : (n : Refusal) → p ≡ Err n → InsertsRecord limit cs cs a x at (Err n)
    record_bad n e =
        record {
          says = λ bound m h y r. ap (λ t. t >>= λ c. insert_record limit y c m) ((as_read (Err n) e).says limit bound m h);
          leaves = tt;
          frame = unchanged cs _ _;
        }

    record_kept : ((bound : ℕ) (m : MemoryState) → HoldsMap limit bound cs a m → (y : Columns) → (read_cursor (int_of x.p1) m >>= λ c. insert_record limit y c m) ≡ done m) → InsertsRecord limit cs cs a x at (Ok a)
    record_kept same =
        record {
          says = λ bound m h y r. record { state = m; answer = same bound m h y; holds = h };
          leaves = record { base = refl; room = current.room };
          frame = unchanged cs _ _;
        }

    pub record_absent : p ≡ (Ok None) → InsertsRecord limit cs cs a x at (Ok a)
    unfolding insert_record
    record_absent e = record_kept (λ bound m h y. ap (λ t. t >>= λ c. insert_record limit y c m) ((as_read (Ok None) e).says limit bound m h))

    pub record_pseudo : (w : ℕ) → p ≡ Ok (Some (cursor.Pseudo w)) → InsertsRecord limit cs cs a x at (Ok a)
    unfolding insert_record
    record_pseudo w e = record_kept (λ bound m h y. ap (λ t. t >>= λ c. insert_record limit y c m) ((as_read (Ok (Some (cursor.Pseudo w))) e).says limit bound m h).answer)

    -- a cursor on the table of a row
    module _ (row : ℕ) (e : p ≡ Ok (Some (cursor.Normal row))) (s : Option ℕ) (finds : FindsTable cs a (cursor.Normal row) s) where
      normal : (bound : ℕ) (m : MemoryState) → HoldsMap limit bound cs a m → (y : Columns) → (read_cursor (int_of x.p1) m >>= λ c. insert_record limit y c m) ≡ store_into limit row y (get row m.t) m
      unfolding insert_record
      normal bound m h y = ap (λ t. t >>= λ c. insert_record limit y c m) ((as_read (Ok (Some (cursor.Normal row))) e).says limit bound m h).answer

      its_table : (bound : ℕ) (m : MemoryState) → HoldsMap limit bound cs a m → TellsTable cs a s (done (get row m.t))
      its_table bound m h =
          finds.says limit bound m h (done (Some (Normal row))) (record { answer = refl; index = (as_read (Ok (Some (cursor.Normal row))) e).within })

      pub table_absent : s ≡ None → InsertsRecord limit cs cs a x at (Ok a)
      table_absent q =
          record_kept (λ bound m h y.
          normal bound m h y ∙ ap (λ o. store_into limit row y o m) (done-same (subst (λ z. TellsTable cs a z (done (get row m.t))) q (its_table bound m h))))

      pub table_there : (k : ℕ) → s ≡ Some k → (ds : List Cell) (r : Stored) → StoresTable limit cs ds a row at r → InsertsRecord limit cs ds a x at r
      table_there k q ds r st =
          record {
            says = λ bound m h y rec.
                (let t = subst (λ z. TellsTable cs a z (done (get row m.t))) q (its_table bound m h) in
                subst (Tells limit bound ds r) (sym (normal bound m h y ∙ ap (λ o. store_into limit row y o m) (done-same t.answer))) (st.says bound m h y rec));
            leaves = st.leaves;
            frame = st.frame;
          }

-- a plain Null
module _ (limit : ℕ) (cs : List Cell) (a : IntMap) (i : ℕ) (p : Reading) (reads : ReadsCursor cs a i p) (current : Current limit cs a) where
  told : (q : Reading) → p ≡ q → ReadsCursor cs a i q
  told q e = subst (ReadsCursor cs a i) e reads

  pub null_bad : (n : Refusal) → p ≡ Err n → Leads limit cs cs a (Err n) (fill_table (int_of i))
  unfolding fill_table
  null_bad n e =
      record {
        says = λ bound m le h. ap (λ t. t >>= λ c. done (update_cursor_table (set_empty (Some false)) c m)) ((told (Err n) e).says limit bound m h);
        leaves = tt;
        frame = unchanged cs _ _;
      }

  pub null_absent : p ≡ Ok None → Leads limit cs cs a (Ok a) (fill_table (int_of i))
  unfolding update_cursor_table fill_table
  null_absent e =
      record {
        says = λ bound m le h.
            record { state = m; answer = ap (λ t. t >>= λ c. done (update_cursor_table (set_empty (Some false)) c m)) ((told (Ok None) e).says limit bound m h); holds = h };
        leaves = record { base = refl; room = current.room };
        frame = unchanged cs _ _;
      }

  pub null_changed : (c : CursorDataType) → p ≡ Ok (Some c) → (ds : List Cell) (b : IntMap) → b ≡ a → CursorTableChanged (set_empty (Some false)) cs ds a c → Leads limit cs ds a (Ok b) (fill_table (int_of i))
  unfolding fill_table
  null_changed c e ds b same changed =
      subst (λ y. Leads limit cs ds a (Ok y) (fill_table (int_of i))) (sym same)
      (record {
        says = λ bound m le h.
            (let is = told_some bound c (read_cursor (int_of i) m) ((told (Ok (Some c)) e).says limit bound m h) in
            record {
              state = update_cursor_table (set_empty (Some false)) is.0 m;
              answer = ap (λ t. t >>= λ o. done (update_cursor_table (set_empty (Some false)) o m)) is.1;
              holds = changed.holds limit bound m h is.0 is.2;
            });
        leaves = record { base = refl; room = changed.room limit current.room };
        frame = record { long = changed.frame.long; below = changed.frame.below; above = λ j le. changed.frame.above j (omega (arith, current.room.most)) };
      })

-- ---- by the value

not-zero : (d : DataType) → (d ≡ Null → ⊥) → is_null_type d ≡ false
not-zero Null h = absurd (h refl)
not-zero Integer h = refl
not-zero Float h = refl
not-zero Text h = refl
not-zero Blob h = refl
not-zero Numeric h = refl
not-zero Boolean h = refl
not-zero Int4 h = refl
not-zero Date h = refl
not-zero Time h = refl
not-zero Datetime h = refl

-- a record that was read stands there, with all its cells in the map
record_there : {limit bound : ℕ} {cs : List Cell} {a : IntMap} {m : MemoryState} → HoldsMap limit bound cs a m → (i : ℤ) (at : ℕ) (t : IsRecord cs a at (read_register i m)) → RecordAt cs at t.columns × (at + size cs levels at ≤ a.base + a.used)
unfolding register_depth column_depth SortedColumn
record_there {cs} {m = m} h i at t =
    let g : GoodRegister (Column (Record t.columns)) = kept (read_register_good h.good i) t.answer in
    let long : size cs levels at ≡ length (run_register t.key (Column (Record t.columns))) = unfold run_register in column_whole (Record t.columns) 9 t.key (omega (arith, g.depth)) cs at t.stands in
    (record { key = t.key; run = ap (span cs at) long ∙ t.stands; depth = omega (arith, g.depth); sorted = g.sorted }, omega (arith, long, t.below))

-- ---- the arm

module _ (limit : ℕ) (cs : List Cell) (a : IntMap) (x : Row) (current : Current limit cs a) (r : RegisterReading) (reads : Reads cs a x.p2 r) where
  held : (q : RegisterReading) → r ≡ q → (bound : ℕ) (m : MemoryState) → HoldsMap limit bound cs a m → TellsRegister bound cs a q (read_register (int_of x.p2) m)
  held q e bound m h = (subst (Reads cs a x.p2) e reads).says limit bound m h

  insert_is : (row : ℕ) (meaning : Meaning) (l : Listed) → Standard limit meaning → Judged l x → (m : MemoryState) (o : Tried (Option RegDataType)) → read_register (int_of x.p2) m ≡ o → (o >>= λ v. insert_arm limit l m v) ≡ cursor_arm meaning row l m op_insert
  unfolding cursor_arm
  insert_is row meaning l st j m o e =
      ap (λ n. o >>= λ v. insert_arm n l m v) (sym st.cells) ∙ ap (λ u. u >>= λ v. insert_arm meaning.cell_limit l m v) (sym e ∙ ap (λ i. read_register i m) j.p2)

  pub insert_bad : (n : Refusal) → r ≡ Err n → (row : ℕ) → CursorArm limit cs cs a row x op_insert (Err n)
  insert_bad n e row =
      record {
        says = λ meaning l st j bound m le h. sym (insert_is row meaning l st j m (refused (number_of n)) (held (Err n) e bound m h));
        leaves = tt;
        frame = unchanged cs _ _;
      }

  -- what was read changes nothing
  kept_so : ((bound : ℕ) (m : MemoryState) → HoldsMap limit bound cs a m → (v : Option RegDataType) × (read_register (int_of x.p2) m ≡ done v) × ((l : Listed) → insert_arm limit l m v ≡ done m)) → (row : ℕ) → CursorArm limit cs cs a row x op_insert (Ok a)
  kept_so same row =
      record {
        says = λ meaning l st j bound m le h.
            (let v = same bound m h in
            record { state = m; answer = sym (insert_is row meaning l st j m (done v.0) v.1) ∙ v.2 l; holds = h });
        leaves = record { base = refl; room = current.room };
        frame = unchanged cs _ _;
      }

  pub insert_absent : r ≡ (Ok None) → (row : ℕ) → CursorArm limit cs cs a row x op_insert (Ok a)
  unfolding insert_arm
  insert_absent e row = kept_so (λ bound m h. (None, held (Ok None) e bound m h, λ l. refl)) row

  pub insert_number : (w : ℕ) → r ≡ Ok (Some (register.Int w)) → (row : ℕ) → CursorArm limit cs cs a row x op_insert (Ok a)
  unfolding insert_arm
  insert_number w e row = kept_so (λ bound m h. (_, (held (Ok (Some (register.Int w))) e bound m h).answer, λ l. refl)) row

  pub insert_other : (d : DataType) (n : Option Bool) → (d ≡ Null → ⊥) → r ≡ Ok (Some (register.Single d n)) → (row : ℕ) → CursorArm limit cs cs a row x op_insert (Ok a)
  unfolding insert_arm
  insert_other d n other e row =
      kept_so (λ bound m h. (_, held (Ok (Some (register.Single d n))) e bound m h, λ l. ap (λ b. insert_null_if b l m) (not-zero d other))) row

  pub insert_plain_null : (n : Option Bool) → r ≡ Ok (Some (register.Single Null n)) → (ds : List Cell) (s : Stored) → Leads limit cs ds a s (fill_table (int_of x.p1)) → (row : ℕ) → CursorArm limit cs ds a row x op_insert s
  unfolding insert_arm fill_table
  insert_plain_null n e ds s arm row =
      record {
        says = λ meaning l st j bound m le h.
            subst (Tells limit bound ds s)
            (ap (λ i. read_cursor i m >>= λ o. done (update_cursor_table (set_empty (Some false)) o m)) j.p1
            ∙ insert_is row meaning l st j m _ (held (Ok (Some (register.Single Null n))) e bound m h))
            (arm.says bound m le h);
        leaves = arm.leaves;
        frame = arm.frame;
      }

  module _ (at : ℕ) (e : r ≡ Ok (Some (register.Record at))) where
    pub insert_run : (a.base ≤ at) × (at + size cs levels at ≤ a.base + a.used)
    insert_run =
        let t = held (Ok (Some (register.Record at))) e current.bound current.state current.holds in
        (t.above, (record_there current.holds (int_of x.p2) at t).1)

    pub insert_of_record : (ds : List Cell) (s : Stored) → InsertsRecord limit cs ds a x at s → (row : ℕ) → CursorArm limit cs ds a row x op_insert s
    unfolding insert_arm
    insert_of_record ds s arm row =
        record {
          says = λ meaning l st j bound m le h.
              (let t = held (Ok (Some (register.Record at))) e bound m h in
              subst (Tells limit bound ds s)
              (ap (λ i. read_cursor i m >>= λ o. insert_record limit t.columns o m) j.p1 ∙ insert_is row meaning l st j m _ t.answer)
              (arm.says bound m h t.columns (record_there h (int_of x.p2) at t).0));
          leaves = arm.leaves;
          frame = arm.frame;
        }
