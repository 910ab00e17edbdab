-- Column and RowData by what cursor P1 stands for: one of the columns behind a head, or all of them as a record. Assumes nothing.
use Rattle.refusal.specs.declared.Refusal.{Refusal}
use Rattle.intmap.specs.Store.{Stored}
use mathlib.Core.Path.{◌≡◌, refl, sym, ap, ap₂, subst, ◌∙◌}
use Rattle.std.specs.Prelude.{Option, None, Some, Ok, Err}
use mathlib.Core.List.{List, ◌∷◌}
use Prim.Native.Nat.{ℕ, ◌+◌, ◌-◌, ◌≤◌}
use native.Mathlib.Omega.{arith}
use lib.ListN.{length, get_or}
use Rattle.model.specs.Walk.{Tried, refused, done}
use Rattle.model.specs.Row.{Row as Listed}
use Rattle.model.specs.IntMap.{get}
use Rattle.model.specs.State.{ColumnType, Record, Columns, end, entries, Column, MemoryState, default}
use Rattle.model.specs.Cells.{column_depth, register_depth}
use Rattle.model.specs.Access.{◌>>=◌, read_cursor, store_register}
use Rattle.model.specs.Cursor.{cursor_columns}
use Rattle.model.specs.CursorArms.{column_of, cursor_arm}
use Rattle.model.specs.Good.{SortedColumn}
use Rattle.model.specs.Meaning.{Meaning}
use Rattle.model.specs.Operation.{CursorOperation, op_column, op_row_data}
use Rattle.model.specs.TextTable.{or_else}
use Rattle.area.specs.Cells.{blank, cell}
use Rattle.area.specs.declared.Cell.{Cell}
use Rattle.intmap.specs.Entries.{span}
use Rattle.intmap.specs.Get.{index_of, Judges, Index, Slot}
use Rattle.intmap.specs.Map.{levels, IsMap}
use Rattle.intmap.specs.Pack.{tag_of}
use Rattle.intmap.specs.Runs.{size}
use Rattle.intmap.specs.Signed.{int_of}
use Rattle.intmap.specs.declared.IntMap.{IntMap}
use Rattle.intmap.proofs.RunLaws.{size_record}
use Rattle.encoding.specs.Encode.{run_column, run_columns, run_register}
use Rattle.rows.specs.Judged.{Judged}
use Rattle.rows.specs.declared.row.Row.{Row}
use Rattle.state.specs.Leads.{Current, HoldsMap, Tells, Leads}
use Rattle.state.specs.Arms.{Standard, CursorArm}
use Rattle.state.proofs.LeadsLaws.{unchanged}
use Rattle.state.proofs.OverLaws.{headed_here}
use Rattle.cursor_arms.specs.StandsFor.{TellsColumns, FindsCursor}
use Rattle.cursor_arms.proofs.StandsLaws.{cursor_led, cursor_tells}
use Rattle.copy_arms.specs.Copies.{StoresFrom}
use Rattle.column_arms.specs.Columns.{ColumnsAt, FindsColumn, store_column, store_row, LeadsWith}
use Rattle.column_arms.proofs.ColumnLaws.{behind_size}

-- ---- what is stored where nothing was written over

module _ {limit : ℕ} {cs es : List Cell} (same : es ≡ cs) (a : IntMap) (at : ℕ) (c : Cell) where
  pub still_stored : {ds : List Cell} {j : ℕ} {r : Stored} → StoresFrom limit es ds a at c j r → StoresFrom limit cs ds a at c j r
  still_stored {ds} {j} {r} st = subst (λ l. StoresFrom limit l ds a at c j r) same st

-- ---- one of the columns behind a head

module _ (limit : ℕ) (cs : List Cell) (a : IntMap) (at : ℕ) where
  -- a column that was found
  module _ (k : ℕ) (s : Slot) (finds : FindsColumn cs at k s) (q : ℕ) (f : s ≡ Ok (Some q)) where
    found : FindsColumn cs at k (Ok (Some q))
    found = subst (FindsColumn cs at k) f finds

  module _ (i j : ℕ) (x : Index) (judges : Judges i x) where
    abbrev chosen : MemoryState → Columns → Tried ℕ → Tried MemoryState
    chosen m y t = (t >>= λ k. done (or_else default (get k (entries y)))) >>= λ v. store_register limit (int_of j) (Column v) m

    pub column_index : (n : Refusal) → x ≡ Err n → LeadsWith limit cs cs a at (Err n) (store_column limit (int_of i) (int_of j))
    unfolding store_column column_of
    column_index n e = record { says = λ bound m le h y behind. ap (chosen m y) (sym judges.answer ∙ ap index_of e); leaves = tt; frame = unchanged cs _ _ }

    module _ (k : ℕ) (e : x ≡ Ok k) (s : Slot) (finds : FindsColumn cs at k s) where
      is_column : (m : MemoryState) (y : Columns) (o : Option ColumnType) → get k (entries y) ≡ o → store_register limit (int_of j) (Column (or_else default o)) m ≡ store_column limit (int_of i) (int_of j) (Some y) m
      unfolding store_column column_of
      is_column m y o f = ap (λ u. store_register limit (int_of j) (Column (or_else default u)) m) (sym f) ∙ sym (ap (chosen m y) (sym judges.answer ∙ ap index_of e))

      pub column_absent : s ≡ (Ok None) → (ds : List Cell) (r : Stored) → Leads limit cs ds a r (store_register limit (int_of j) (Column default)) → LeadsWith limit cs ds a at r (store_column limit (int_of i) (int_of j))
      column_absent f ds r st =
          record {
            says = λ bound m le h y behind.
                subst (Tells limit bound ds r) (is_column m y None ((subst (FindsColumn cs at k) f finds).says y behind)) (st.says bound m le h);
            leaves = st.leaves;
            frame = st.frame;
          }

      pub column_there : (q : ℕ) → s ≡ Ok (Some q) → (c : Cell) → c ≡ get_or cs q blank → (ds : List Cell) (r : Stored) → StoresFrom limit cs ds a q c j r → LeadsWith limit cs ds a at r (store_column limit (int_of i) (int_of j))
      unfolding run_register register_depth
      column_there q f c ce ds r st =
          record {
            says = λ bound m le h y behind.
                (let v = (found k s finds q f).says y behind in
                subst (Tells limit bound ds r) (is_column m y (Some v.column) v.answer)
                (st.says bound m h k (Column v.column) (omega (arith, v.depth)) v.sorted tt (headed_here cs q c ce ∙ v.run)));
            leaves = st.leaves;
            frame = st.frame;
          }

-- ---- all of them, as a record

module _ (limit : ℕ) (cs : List Cell) (a : IntMap) (p j : ℕ) (tag : tag_of (get_or cs p blank) ≡ 2) where
  row_run : (y : Columns) → ColumnsAt cs p y → (c : Cell) → c ≡ get_or cs p blank → cell 2 c.payload ∷ span cs (p + 1) (size cs levels p - 1) ≡ run_column 0 (Record y)
  unfolding run_column
  row_run y behind c ce =
      let long : size cs levels p - 1 ≡ length (run_columns y) = omega (arith, behind_size cs p y behind tag) in
      ap₂ (λ (n : ℕ) (l : List Cell). cell 2 n ∷ l) (ap (λ (b : Cell). b.payload) ce ∙ behind.number) (ap (span cs (p + 1)) long ∙ behind.stands)

  pub row_there : (c : Cell) → c ≡ get_or cs p blank → (ds : List Cell) (r : Stored) → StoresFrom limit cs ds a p (cell 2 c.payload) j r → LeadsWith limit cs ds a p r (store_row limit (int_of j))
  unfolding store_row SortedColumn run_register register_depth column_depth
  row_there c ce ds r st =
      record {
        says = λ bound m le h y behind. st.says bound m h 0 (Column (Record y)) (omega (arith, behind.depth)) behind.sorted tt (row_run y behind c ce);
        leaves = st.leaves;
        frame = st.frame;
      }

-- ---- without columns

module _ (limit : ℕ) (cs ds : List Cell) (a : IntMap) where
  pub column_default : (i j : ℕ) (r : Stored) → Leads limit cs ds a r (store_register limit (int_of j) (Column default)) → Leads limit cs ds a r (store_column limit (int_of i) (int_of j) None)
  unfolding store_column column_of
  column_default i j r led = led

  pub row_empty : (j : ℕ) (r : Stored) → Leads limit cs ds a r (store_register limit (int_of j) (Column (Record end))) → Leads limit cs ds a r (store_row limit (int_of j) None)
  unfolding store_row
  row_empty j r led = led

-- ---- the arms by what the cursor stands for

bind_twice : {A B C : Type 0} (t : Tried A) (f : A → Tried B) (g : B → Tried C) → (t >>= λ u. f u >>= g) ≡ (t >>= f >>= g)
bind_twice (refused n) f g = refl
bind_twice (done u) f g = refl

-- an arm that reads cursor P1, and goes on with its columns
abbrev GoesOn : ℕ → ℕ → Row → CursorOperation → (Option Columns → MemoryState → Tried MemoryState) → Type 0
GoesOn limit row x o f = (meaning : Meaning) (l : Listed) → Standard limit meaning → Judged l x → (m : MemoryState) → ((read_cursor (int_of x.p1) m >>= λ c. cursor_columns c m) >>= λ cs. f cs m) ≡ cursor_arm meaning row l m o

pub column_goes : (limit row : ℕ) (x : Row) → GoesOn limit row x op_column (store_column limit (int_of x.p2) (int_of x.p3))
unfolding cursor_arm store_column
column_goes limit row x meaning l st j m =
    sym (bind_twice (read_cursor (int_of x.p1) m) (λ c. cursor_columns c m) (λ cs. store_column limit (int_of x.p2) (int_of x.p3) cs m))
    ∙ ap (λ i. read_cursor i m >>= λ c. cursor_columns c m >>= λ cs. column_of (int_of x.p2) cs >>= λ v. store_register limit (int_of x.p3) (Column v) m) j.p1
    ∙ ap (λ i. read_cursor l.p1 m >>= λ c. cursor_columns c m >>= λ cs. column_of i cs >>= λ v. store_register limit (int_of x.p3) (Column v) m) j.p2
    ∙ ap (λ i. read_cursor l.p1 m >>= λ c. cursor_columns c m >>= λ cs. column_of l.p2 cs >>= λ v. store_register limit i (Column v) m) j.p3
    ∙ ap (λ n. read_cursor l.p1 m >>= λ c. cursor_columns c m >>= λ cs. column_of l.p2 cs >>= λ v. store_register n l.p3 (Column v) m) (sym st.cells)

pub row_goes : (limit row : ℕ) (x : Row) → GoesOn limit row x op_row_data (store_row limit (int_of x.p2))
unfolding cursor_arm store_row
row_goes limit row x meaning l st j m =
    sym (bind_twice (read_cursor (int_of x.p1) m) (λ c. cursor_columns c m) (λ cs. store_row limit (int_of x.p2) cs m))
    ∙ ap (λ i. read_cursor i m >>= λ c. cursor_columns c m >>= λ cs. store_register limit (int_of x.p2) (Column (Record (or_else end cs))) m) j.p1
    ∙ ap (λ i. read_cursor l.p1 m >>= λ c. cursor_columns c m >>= λ cs. store_register limit i (Column (Record (or_else end cs))) m) j.p2
    ∙ ap (λ n. read_cursor l.p1 m >>= λ c. cursor_columns c m >>= λ cs. store_register n l.p2 (Column (Record (or_else end cs))) m) (sym st.cells)

module _ (limit : ℕ) (cs : List Cell) (a : IntMap) (x : Row) (current : Current limit cs a) (s : Slot) (found : FindsCursor cs a x.p1 s) where
  pub arm_map : IsMap cs a
  arm_map = record { used = current.room.used; inside = omega (arith, current.room.room, current.room.most); small = current.room.small }

  -- a head lies within the map, and so does its run
  module _ (p : ℕ) (e : s ≡ Ok (Some p)) where
    pub head_tag : tag_of (get_or cs p blank) ≡ 2
    head_tag = (cursor_led cs a arm_map p x.p1 s found e).tag

    pub head_run : (a.base ≤ p) × (p + size cs levels p ≤ a.base + a.used)
    head_run =
        let led = cursor_led cs a arm_map p x.p1 s found e in
        (led.above, omega (arith, led.below, size_record cs 9 p (get_or cs p blank) refl (omega arith) led.tag))

  module _ (o : CursorOperation) (f : Option Columns → MemoryState → Tried MemoryState) (goes : (row : ℕ) → GoesOn limit row x o f) where
    told : (t : Slot) → s ≡ t → (bound : ℕ) (m : MemoryState) → HoldsMap limit bound cs a m → TellsColumns cs a t (read_cursor (int_of x.p1) m >>= λ c. cursor_columns c m)
    told t e bound m h = subst (λ y. TellsColumns cs a y (read_cursor (int_of x.p1) m >>= λ c. cursor_columns c m)) e (cursor_tells h x.p1 s found)

    pub arm_bad : (n : Refusal) → s ≡ Err n → (row : ℕ) → CursorArm limit cs cs a row x o (Err n)
    arm_bad n e row =
        record {
          says = λ meaning l st j bound m le h. sym (goes row meaning l st j m) ∙ ap (λ t. t >>= λ y. f y m) (told (Err n) e bound m h);
          leaves = tt;
          frame = unchanged cs _ _;
        }

    pub arm_absent : s ≡ (Ok None) → (ds : List Cell) (r : Stored) → Leads limit cs ds a r (f None) → (row : ℕ) → CursorArm limit cs ds a row x o r
    arm_absent e ds r led row =
        record {
          says = λ meaning l st j bound m le h. subst (Tells limit bound ds r) (sym (ap (λ t. t >>= λ y. f y m) (told (Ok None) e bound m h)) ∙ goes row meaning l st j m) (led.says bound m le h);
          leaves = led.leaves;
          frame = led.frame;
        }

    pub arm_there : (p : ℕ) → s ≡ Ok (Some p) → (ds : List Cell) (r : Stored) → LeadsWith limit cs ds a p r f → (row : ℕ) → CursorArm limit cs ds a row x o r
    arm_there p e ds r led row =
        record {
          says = λ meaning l st j bound m le h.
              (let y = told (Ok (Some p)) e bound m h in
              subst (Tells limit bound ds r) (sym (ap (λ t. t >>= λ z. f z m) y.answer) ∙ goes row meaning l st j m)
              (led.says bound m le h y.columns (record { depth = y.depth; sorted = y.sorted; number = y.number; stands = y.stands })));
          leaves = led.leaves;
          frame = led.frame;
        }
