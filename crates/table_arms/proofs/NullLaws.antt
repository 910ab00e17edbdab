-- NullRow: a turn of its loop, the cells that it keeps, and what the definition does with a cursor's columns. Assumes nothing.
use Rattle.refusal.specs.Numbers.{number_of}
use Rattle.refusal.specs.declared.Refusal.{Refusal}
use Rattle.intmap.specs.Get.{Slot}
use mathlib.Core.Path.{◌≡◌, refl, sym, ap, ap₂, subst, ◌∙◌}
use mathlib.Core.Bool.{Bool, true, false}
use Rattle.std.specs.Prelude.{Option, Ok, Err, Some, None}
use mathlib.Core.List.{List}
use Prim.Native.Nat.{ℕ, zero, suc, ◌+◌, ◌-◌, ◌<◌, ◌≤◌}
use native.Mathlib.Omega.{arith}
use lib.Dec.{eqb}
use lib.IntN.{ℤ}
use lib.ListN.{length, get_or, set, length-set}
use lib.Seq.{get_or-set_same, get_or-set_other, set-get_or}
use borrow.Author.Tests.{eqb-true, eqb-false}
use Rattle.model.specs.Walk.{Tried, refused, done}
use Rattle.model.specs.Row.{Row as Listed}
use Rattle.model.specs.State.{CursorDataType as Cursor, MemoryState}
use Rattle.model.specs.Access.{◌>>=◌, index, with_registers, read_cursor, update_register, update_table}
use Rattle.model.specs.IntMap.{update}
use Rattle.model.specs.Cursor.{null_table, null_record, null_columns}
use Rattle.model.specs.Meaning.{Meaning}
use Rattle.model.specs.Operation.{op_null_row}
use Rattle.model.specs.CursorArms.{cursor_arm}
use Rattle.model.proofs.Tried.{done-same}
use Rattle.area.specs.Cells.{cell, blank}
use Rattle.area.specs.declared.Cell.{Cell}
use Rattle.intmap.specs.Map.{levels, IsMap, HasRoom, Frame}
use Rattle.intmap.specs.Pack.{tag_of, nullable_of, with_nullable}
use Rattle.intmap.specs.Pick.{pick}
use Rattle.intmap.specs.Runs.{size, sizes, IsColumn, AreColumns, Agree}
use Rattle.intmap.specs.Signed.{int_of}
use Rattle.intmap.specs.declared.IntMap.{IntMap}
use Rattle.intmap.proofs.StoreLaws.{room_map}
use Rattle.intmap.proofs.RunLaws.{size-pos, sizes_step}
use Rattle.intmap.proofs.SameCells.{size_same, sizes_same}
use Rattle.intmap.proofs.EntryLaws.{entries_few}
use Rattle.encoding.specs.Heads.{single_nullable, on_heads, null_heads}
use Rattle.encoding.specs.Holds.{HeldNext}
use Rattle.encoding.proofs.BySearch.{search_kept, search_null, search_plain, search_table_kept, search_table_null}
use Rattle.encoding.proofs.Heads.{heads_length, heads_below, heads_above}
use Rattle.rows.specs.Judged.{Judged}
use Rattle.rows.specs.declared.row.Row.{Row}
use Rattle.state.specs.Leads.{Current, HoldsMap}
use Rattle.state.specs.Arms.{CursorArm}
use Rattle.cursor_arms.specs.Cursors.{TellsCursor, Reading, TellsReading}
use Rattle.state.specs.Own.{entry_slot, place_of, index_slot}
use Rattle.cursor_arms.specs.StandsFor.{head_slot, columns_slot, FindsReading, FindsCursor}
use Rattle.state.proofs.LeadsLaws.{unchanged}
use Rattle.cursor_arms.specs.declared.CursorDataType.{CursorDataType}
use Rattle.cursor_arms.specs.declared.CursorDataType.TheVariants as cursor
use Rattle.cursor_arms.proofs.StandsLaws.{led_at, led_nowhere, table_tells, table_tag, head_there, HeadLed, cursor_led}
use Rattle.cursor_arms.proofs.TableLaws.{sizes_alike, size_alike}
use Rattle.table_arms.specs.Nulled.{AreNullable, Nulled}

-- ---- a head

head_tag : (c : Cell) → tag_of (single_nullable 2 c) ≡ tag_of c
head_tag c = go (eqb (tag_of c) 1)
  where
    go : (b : Bool) → tag_of (pick b (with_nullable 2 c) c) ≡ tag_of c
    go true = omega arith
    go false = refl

head-load : (c : Cell) → (single_nullable 2 c).payload ≡ c.payload
head-load c = go (eqb (tag_of c) 1)
  where
    go : (b : Bool) → (pick b (with_nullable 2 c) c).payload ≡ c.payload
    go true = refl
    go false = refl

pub already_head : (c : Cell) → nullable_of c ≡ 2 → c ≡ single_nullable 2 c
already_head c n = go (eqb (tag_of c) 1)
  where
    go : (b : Bool) → c ≡ pick b (with_nullable 2 c) c
    go true = ap (λ h. cell h c.payload) (omega (arith, n))
    go false = refl

-- a cell that stays, and one that is written
module _ (cs : List Cell) (p : ℕ) (c : Cell) (ce : c ≡ get_or cs p blank) where
  pub cell_kept : c ≡ single_nullable 2 c → cs ≡ set cs p (single_nullable 2 (get_or cs p blank))
  cell_kept e = sym (ap (set cs p) (sym (ap (λ y. single_nullable 2 y) ce) ∙ sym e ∙ ce) ∙ set-get_or cs p blank)

-- ---- one head changed

module _ (f : Cell → Cell) (d : ℕ) (cs : List Cell) (p : ℕ) where
  abbrev changed : List Cell
  changed = set cs p (f (get_or cs p blank))

  changed_other : (j : ℕ) → (j ≡ p → ⊥) → get_or changed j blank ≡ get_or cs j blank
  changed_other j ne = get_or-set_other cs p j _ blank ne

  changed_sizes : (n : ℕ) → sizes (size changed d) n (p + size cs d p) ≡ sizes (size cs d) n (p + size cs d p)
  changed_sizes n =
      let q = p + size cs d p in
      let same : Agree cs q changed q (sizes (size cs d) n q) = λ i lt. changed_other (q + i) (omega (arith, size-pos cs d p)) in
      sizes_same (size cs d) (size changed d) cs changed (size_same cs changed d) n q q same

-- what a change of heads keeps in each, it keeps in all cells
module _ (f : Cell → Cell) (d : ℕ) (g : Cell → ℕ) (keeps : (c : Cell) → g (f c) ≡ g c) where
  heads_keep : (n : ℕ) (cs : List Cell) (p : ℕ) → p + sizes (size cs d) n p ≤ length cs → (j : ℕ) → g (get_or (on_heads f d cs n p) j blank) ≡ g (get_or cs j blank)
  unfolding on_heads sizes
  heads_keep zero cs p le j = refl
  heads_keep (suc n) cs p le j =
      heads_keep n (changed f d cs p) (p + size cs d p) (omega (arith, changed_sizes f d cs p n, length-set cs p (f (get_or cs p blank)))) j
      ∙ go (eqb j p) refl
    where
      go : (b : Bool) → eqb j p ≡ b → g (get_or (changed f d cs p) j blank) ≡ g (get_or cs j blank)
      go true t =
          subst (λ q. g (get_or (changed f d cs p) q blank) ≡ g (get_or cs q blank)) (sym (eqb-true j p t))
          (ap g (get_or-set_same cs p (f (get_or cs p blank)) blank (omega (arith, size-pos cs d p))) ∙ keeps (get_or cs p blank))
      go false t = ap g (changed_other f d cs p j (eqb-false j p t))

-- ---- a turn of the loop

pub first_column : (cs : List Cell) (n p : ℕ) → 0 < n → AreColumns cs 8 n p → IsColumn cs 8 p
first_column cs n p some are = record { fits = omega (arith, sizes_step (size cs 8) n p some, are.fits); small = are.small }

module _ (now after : List Cell) (left p r : ℕ) (c x : Cell) (lt : 0 < left) (ce : c ≡ get_or now p blank) (re : r ≡ size now 8 p) (xe : x ≡ single_nullable 2 c) (w : after ≡ set now p x) where
  after_is : after ≡ changed (single_nullable 2) 8 now p
  after_is = w ∙ ap (set now p) (xe ∙ ap (λ y. single_nullable 2 y) ce)

  pub null-turn : (all : List Cell) → on_heads (single_nullable 2) 8 now left p ≡ all → on_heads (single_nullable 2) 8 after (left - 1) (p + r) ≡ all
  unfolding on_heads
  null-turn all e = ap₂ (λ (l : List Cell) (q : ℕ). on_heads (single_nullable 2) 8 l (left - 1) (p + q)) after_is re ∙ one left lt ∙ e
    where
      one : (n : ℕ) → 0 < n → on_heads (single_nullable 2) 8 (changed (single_nullable 2) 8 now p) (n - 1) (p + size now 8 p) ≡ on_heads (single_nullable 2) 8 now n p
      one zero lt = absurd (omega arith)
      one (suc n) lt = let z : suc n - 1 ≡ n = omega arith in rw z

  pub null_room : (most : ℕ) → p + sizes (size now 8) left p ≤ most → p + r + sizes (size after 8) (left - 1) (p + r) ≤ most
  null_room most le = rw (after_is, re) (omega (arith, le, changed_sizes (single_nullable 2) 8 now p (left - 1), sizes_step (size now 8) left p lt))

  pub null_rest : AreColumns now 8 left p → AreColumns after 8 (left - 1) (p + r)
  null_rest are =
      let long : length after ≡ length now = ap length w ∙ length-set now p x in
      record {
        fits = rw long (null_room (length now) are.fits);
        small = omega (arith, long, are.small);
      }

-- columns of one cell
module _ (now after : List Cell) (left p : ℕ) (lt : 0 < left) (w : after ≡ set now p (single_nullable 2 (get_or now p blank))) (flat : sizes (size now 8) left p ≡ left) where
  pub null_long : length after ≡ length now
  null_long = ap length w ∙ length-set now p (single_nullable 2 (get_or now p blank))

  pub null_one : 1 ≡ size now 8 p
  null_one = omega (arith, flat, sizes_step (size now 8) left p lt, size-pos now 8 p, entries_few now 8 (left - 1) (p + size now 8 p))

  pub null_flat : sizes (size after 8) (left - 1) (p + 1) ≡ left - 1
  null_flat =
      ap₂ (λ (l : List Cell) (q : ℕ). sizes (size l 8) (left - 1) (p + q)) w null_one
      ∙ changed_sizes (single_nullable 2) 8 now p (left - 1)
      ∙ omega (arith, flat, sizes_step (size now 8) left p lt, null_one)

-- those that may be null already are passed
pub skipped : (cs : List Cell) (k n p : ℕ) → k ≤ n → sizes (size cs 8) n p ≡ n → AreNullable cs p k → (on_heads (single_nullable 2) 8 cs (n - k) (p + k) ≡ on_heads (single_nullable 2) 8 cs n p) × (sizes (size cs 8) (n - k) (p + k) ≡ n - k)
skipped cs zero n p le flat all =
    let z : n - 0 ≡ n = omega arith in
    let y : p + 0 ≡ p = omega arith in
    rw (z, y) (refl, flat)
skipped cs (suc k) n p le flat all =
    let lt : 0 < n = omega (arith, le) in
    let z : p + 0 ≡ p = omega arith in
    let first = subst (λ q. nullable_of (get_or cs q blank) ≡ 2) z (all 0 (omega arith)) in
    let kept = cell_kept cs p (get_or cs p blank) refl (already_head (get_or cs p blank) first) in
    let others : AreNullable cs (p + 1) k = λ j l. let y : p + suc j ≡ p + 1 + j = omega arith in subst (λ q. nullable_of (get_or cs q blank) ≡ 2) y (all (suc j) (omega (arith, l))) in
    let rest = skipped cs k (n - 1) (p + 1) (omega (arith, le)) (null_flat cs cs n p lt kept flat) others in
    let turn = null-turn cs cs n p 1 (get_or cs p blank) (single_nullable 2 (get_or cs p blank)) lt refl (null_one cs cs n p lt kept flat) refl kept (on_heads (single_nullable 2) 8 cs n p) refl in
    let fewer : n - suc k ≡ n - 1 - k = omega (arith, le) in
    let further : p + suc k ≡ p + 1 + k = omega arith in
    rw (fewer, further) (rest.0 ∙ turn, rest.1)

pub null-done : (cs ds : List Cell) (n at left p : ℕ) → left ≤ 0 → on_heads (single_nullable 2) 8 ds left p ≡ on_heads (single_nullable 2) 8 cs n at → Nulled cs ds n at
unfolding on_heads
null-done cs ds n at zero p le e = record { cells = e }
null-done cs ds n at (suc left) p le e = absurd (omega arith)

-- ---- what it leaves of the map

module _ (cs ds : List Cell) (a : IntMap) (is : IsMap cs a) (p : ℕ) (led : HeadLed cs a is p) (nulled : ds ≡ null_heads cs p) where
  abbrev number : ℕ
  number = (get_or cs p blank).payload

  fits : p + 1 + sizes (size cs 8) number (p + 1) ≤ length cs
  fits = omega (arith, led.below, is.inside)

  kept : (g : Cell → ℕ) → ((c : Cell) → g (single_nullable 2 c) ≡ g c) → (j : ℕ) → g (get_or ds j blank) ≡ g (get_or cs j blank)
  kept g h j = ap (λ l. g (get_or l j blank)) nulled ∙ heads_keep (single_nullable 2) 8 g h number cs (p + 1) fits j

  long : length ds ≡ length cs
  long = ap length nulled ∙ heads_length (single_nullable 2) 8 number cs (p + 1)

  null_leaves : (limit : ℕ) → HasRoom cs limit a → HasRoom ds limit a
  null_leaves limit r =
      record {
        used = r.used ∙ sym (sizes_alike (size cs levels) (size ds levels) (size_alike cs ds (kept (λ c. tag_of c) head_tag) (kept (λ c. c.payload) head-load) levels) a.len a.base);
        most = r.most;
        room = omega (arith, r.room, long);
        small = omega (arith, r.small, long);
      }

  null_frame : (limit : ℕ) → a.used ≤ limit → Frame cs ds a.base (limit + limit)
  null_frame limit most =
      record {
        long = long;
        below = λ j lt. ap (λ l. get_or l j blank) nulled ∙ heads_below (single_nullable 2) 8 number cs (p + 1) j (omega (arith, led.above));
        above = λ j le. ap (λ l. get_or l j blank) nulled ∙ heads_above (single_nullable 2) 8 number cs (p + 1) j (omega (arith, led.below));
      }

-- ---- what the definition does

-- by the place of the columns: refused, nothing, or the changed cells hold the state
abbrev AfterNull : ℕ → ℕ → List Cell → List Cell → IntMap → MemoryState → Slot → Tried MemoryState → Type 0
AfterNull limit bound cs ds a m (Err n) t = t ≡ refused (number_of n)
AfterNull limit bound cs ds a m (Ok None) t = t ≡ done m
AfterNull limit bound cs ds a m (Ok (Some p)) t = ds ≡ null_heads cs p → HeldNext limit bound ds a.base a.len a.used t

module _ (limit bound : ℕ) (cs ds : List Cell) (a : IntMap) (is : IsMap cs a) (m : MemoryState) (h : HoldsMap limit bound cs a m) where
  table_null : (row : ℕ) (s : Option ℕ) → entry_slot cs a 2 row ≡ s → AfterNull limit bound cs ds a m (Ok (head_slot cs s)) (done (update_table row null_table m))
  table_null row None e = ap done (search_table_kept h row null_table (led_nowhere cs a 2 row e))
  table_null row (Some p) e =
      let led = led_at cs a 2 row p e in
      subst (λ s. AfterNull limit bound cs ds a m (Ok s) (done (update_table row null_table m)))
      (head_there cs (Some p) p refl (get_or cs p blank) refl (table_tag h (table_tells h row (Some p) e)))
      (λ nulled.
      record {
        state = update_table row null_table m;
        answer = refl;
        holds = search_table_null h row led.present ds is.inside (nulled ∙ ap (null_heads cs) (sym led.at));
      })

  record_null : (i : ℤ) (k : ℕ) → index i ≡ done k → (s : Option ℕ) → entry_slot cs a 0 k ≡ s → AfterNull limit bound cs ds a m (Ok (head_slot cs s)) (update_register i null_record m)
  record_null i k at None e = search_kept h i k at null_record (led_nowhere cs a 0 k e)
  record_null i k at (Some p) e = go (eqb (tag_of (get_or cs p blank)) 2) refl
    where
      go : (b : Bool) → eqb (tag_of (get_or cs p blank)) 2 ≡ b → AfterNull limit bound cs ds a m (Ok (pick b (Some p) None)) (update_register i null_record m)
      go true t =
          let led = led_at cs a 0 k p e in
          λ nulled.
          search_null h i k at led.present ds (ap (λ q. tag_of (get_or cs q blank)) led.at ∙ eqb-true (tag_of (get_or cs p blank)) 2 t) is.inside
          (nulled ∙ ap (null_heads cs) (sym led.at))
      go false t =
          let led = led_at cs a 0 k p e in
          search_plain h i k at led.present (λ q. eqb-false (tag_of (get_or cs p blank)) 2 t (ap (λ y. tag_of (get_or cs y blank)) (sym led.at) ∙ q))

  register_null : (i : ℤ) (r : Slot) → place_of r ≡ (index_slot cs a 0 (index i) >>= λ o. done (head_slot cs o)) → AfterNull limit bound cs ds a m r (update_register i null_record m)
  unfolding index_slot update_register
  register_null i r is = go (index i) refl r is
    where
      go : (t : Tried ℕ) → index i ≡ t → (r : Slot) → place_of r ≡ (index_slot cs a 0 t >>= λ o. done (head_slot cs o)) → AfterNull limit bound cs ds a m r (update_register i null_record m)
      go (refused n) e (Err k) q = ap (λ u. u >>= λ k. done (with_registers (update k null_record m.r) m)) e ∙ sym (ap (λ t. t >>= λ _. done m) q)
      go (refused n) e (Ok o) q = cc
      go (done k) e (Err n) q = cc
      go (done k) e (Ok o) q = subst (λ s. AfterNull limit bound cs ds a m (Ok s) (update_register i null_record m)) (sym (done-same q)) (record_null i k e (entry_slot cs a 0 k) refl)

  by_cursor : (c : CursorDataType) (t : Tried (Option Cursor)) → TellsCursor bound c t → (r : Slot) → place_of r ≡ columns_slot cs a c → AfterNull limit bound cs ds a m r (t >>= λ o. null_columns o m)
  unfolding null_columns
  by_cursor (cursor.Normal row) t told (Err n) is = cc
  by_cursor (cursor.Normal row) t told (Ok s) is =
      subst (AfterNull limit bound cs ds a m (Ok s)) (sym (ap (λ u. u >>= λ o. null_columns o m) told.answer))
      (subst (λ s. AfterNull limit bound cs ds a m (Ok s) (done (update_table row null_table m))) (sym (done-same is)) (table_null row (entry_slot cs a 2 row) refl))
  by_cursor (cursor.Pseudo w) t told r is = subst (AfterNull limit bound cs ds a m r) (sym (ap (λ u. u >>= λ o. null_columns o m) told.answer)) (register_null (int_of w) r is)

  by_reading : (q : Reading) (t : Tried (Option Cursor)) → TellsReading bound q t → (r : Slot) → FindsReading cs a q r → AfterNull limit bound cs ds a m r (t >>= λ o. null_columns o m)
  unfolding null_columns
  by_reading (Err n) t told r is = subst (λ s. AfterNull limit bound cs ds a m s (t >>= λ o. null_columns o m)) (sym is) (ap (λ u. u >>= λ o. null_columns o m) told)
  by_reading (Ok None) t told r is = subst (λ s. AfterNull limit bound cs ds a m s (t >>= λ o. null_columns o m)) (sym is) (ap (λ u. u >>= λ o. null_columns o m) told)
  by_reading (Ok (Some c)) t told r is = by_cursor c t told r is.place

-- ---- the arm

module _ (cs : List Cell) (a : IntMap) (is : IsMap cs a) (p : ℕ) (led : HeadLed cs a is p) where
  pub columns_within : (b : Cell) → b ≡ get_or cs p blank → AreColumns cs 8 b.payload (p + 1)
  columns_within b be =
      subst (λ (y : Cell). AreColumns cs 8 y.payload (p + 1)) (sym be)
      (record { fits = omega (arith, led.below, is.inside); small = is.small })

module _ (limit : ℕ) (cs : List Cell) (a : IntMap) (current : Current limit cs a) (x : Row) (r : Slot) (found : FindsCursor cs a x.p1 r) where
  is : IsMap cs a
  is = room_map current.room

  nulls : (ds : List Cell) (s : Slot) → r ≡ s → (bound : ℕ) (m : MemoryState) → HoldsMap limit bound cs a m → (meaning : Meaning) (row : ℕ) (l : Listed) → Judged l x → AfterNull limit bound cs ds a m s (cursor_arm meaning row l m op_null_row)
  unfolding cursor_arm
  nulls ds s e bound m h meaning row l j =
      subst (λ y. AfterNull limit bound cs ds a m y (read_cursor l.p1 m >>= λ o. null_columns o m)) e
      (by_reading limit bound cs ds a is m h found.reading (read_cursor l.p1 m) (subst (λ i. TellsReading bound found.reading (read_cursor i m)) j.p1 (found.reads.says limit bound m h)) r found.finds)

  pub null_bad : (n : Refusal) → r ≡ Err n → (row : ℕ) → CursorArm limit cs cs a row x op_null_row (Err n)
  null_bad n e row =
      record { says = λ meaning l st j bound m le h. nulls cs (Err n) e bound m h meaning row l j; leaves = tt; frame = unchanged cs _ _ }

  pub null_absent : r ≡ (Ok None) → (row : ℕ) → CursorArm limit cs cs a row x op_null_row (Ok a)
  null_absent e row =
      record {
        says = λ meaning l st j bound m le h. record { state = m; answer = nulls cs (Ok None) e bound m h meaning row l j; holds = h };
        leaves = record { base = refl; room = current.room };
        frame = unchanged cs _ _;
      }

  module _ (p : ℕ) (e : r ≡ Ok (Some p)) where
    pub null_there : (ds : List Cell) (b : Cell) → b ≡ get_or cs p blank → Nulled cs ds b.payload (p + 1) → (row : ℕ) → CursorArm limit cs ds a row x op_null_row (Ok a)
    null_there ds b be nulled row =
        let all : ds ≡ null_heads cs p = nulled.cells ∙ ap (λ (y : Cell). on_heads (single_nullable 2) 8 cs y.payload (p + 1)) be in
        let led = cursor_led cs a is p x.p1 r found e in
        record {
          says = λ meaning l st j bound m le h. nulls ds (Ok (Some p)) e bound m h meaning row l j all;
          leaves = record { base = refl; room = null_leaves cs ds a is p led all limit current.room };
          frame = null_frame cs ds a is p led all limit current.room.most;
        }
