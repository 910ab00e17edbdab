-- What a cursor stands for, by the entry that the search finds. Assumes nothing.
use mathlib.Core.Path.{◌≡◌, refl, sym, ap, subst, ◌∙◌}
use mathlib.Core.Bool.{Bool, true, false}
use Rattle.std.specs.Prelude.{Option, None, Some, Ok, Err}
use mathlib.Core.List.{List, ◌∷◌}
use Prim.Native.Nat.{ℕ, ◌+◌, ◌-◌, ◌≤◌}
use native.Mathlib.Omega.{arith}
use lib.Dec.{eqb}
use lib.IntN.{ℤ}
use lib.ListN.{length, get_or}
use borrow.Author.Tests.{eq-eqb, eqb-true, eqb-false}
use Rattle.model.specs.Walk.{Tried, refused, done}
use Rattle.model.specs.IntMap.{get}
use Rattle.model.specs.State.{Single, Record, RegDataType, Column, Int, TableDataType, MemoryState}
use Rattle.model.specs.Cells.{column_depth, register_depth}
use Rattle.model.specs.Access.{◌>>=◌, index, read_register, read_cursor}
use Rattle.model.specs.Cursor.{record_of, table_columns, cursor_columns, table_is_empty, cursor_is_empty}
use Rattle.model.specs.Good.{SortedColumn, GoodRegister}
use Rattle.model.proofs.Tried.{Kept, value, done-same}
use Rattle.model.proofs.Access.{index_small}
use Rattle.area.specs.Cells.{cell, blank}
use Rattle.area.specs.declared.Cell.{Cell}
use Rattle.intmap.specs.Entries.{span}
use Rattle.intmap.specs.Find.{seek_place, seek_found, Sought, seek}
use Rattle.intmap.specs.Get.{Slot}
use Rattle.intmap.specs.Map.{levels, IsMap}
use Rattle.intmap.specs.Pack.{head, tag_of, class_key}
use Rattle.intmap.specs.Pick.{pick}
use Rattle.intmap.specs.Runs.{size, sizes}
use Rattle.intmap.specs.Signed.{int_of}
use Rattle.intmap.specs.declared.IntMap.{IntMap}
use Rattle.intmap.proofs.EntryLaws.{opened, length-span}
use Rattle.intmap.proofs.FindLaws.{answered_err, seek_from, seek_whole}
use Rattle.intmap.proofs.PackLaws.{head_nullable}
use Rattle.intmap.proofs.RunLaws.{size-pos, size_record}
use Rattle.intmap.proofs.Swapped.{seek_some, seek_none}
use Rattle.encoding.specs.Decode.{nullable_in, nullables}
use Rattle.encoding.specs.Encode.{nullable_code, count, run_column, run_columns, run_register, run_table}
use Rattle.encoding.specs.Holds.{SmallRegister}
use Rattle.encoding.proofs.BySearch.{search_no_table}
use Rattle.encoding.proofs.Reading.{register_record}
use Rattle.encoding.proofs.HeldRead.{Value, told_register_at, told_table}
use Rattle.encoding.proofs.Injective.{first-is}
use Rattle.encoding.proofs.Packing.{nullable_small, nullable_coded}
use Rattle.encoding.proofs.Flat.{flat_sizes}
use Rattle.encoding.proofs.Standing.{stands_head, stands_rest}
use Rattle.state.specs.Leads.{HoldsMap, Held}
use Rattle.state.specs.Own.{found_slot, entry_slot, is_flat, index_slot, place_of}
use Rattle.state.proofs.OwnLaws.{case, entry_led, flat_told}
use Rattle.cursor_arms.specs.Cursors.{Reading, TellsReading}
use Rattle.cursor_arms.specs.StandsFor.{head_slot, table_slot, columns_slot, empty_in, emptiness_in, SlotWithin, cursor_table, IsTable, TellsTable, HasColumns, TellsColumns, emptiness_of, FindsTable, FindsColumns, FindsReading, FindsCursor, TellsEmpty}
use Rattle.cursor_arms.specs.declared.CursorDataType.{CursorDataType}
use Rattle.cursor_arms.specs.declared.CursorDataType.TheVariants as cursor

-- ---- an entry that the search finds

-- where it is, and what that says of the search
module _ (cs : List Cell) (a : IntMap) (class k : ℕ) where
  pub record Led (p : ℕ) : Type 0 where
    pub present : seek_found cs levels (class_key class k) a.len a.base ≡ true
    pub at : (seek_place cs levels (class_key class k) a.len a.base).at ≡ p

  pub led_at : (p : ℕ) → entry_slot cs a class k ≡ Some p → Led p
  led_at p e = let it = entry_led cs a class k p e in record { present = it.0; at = it.1 }

  pub not_led : (case (entry_slot cs a class k) ≡ 2 → ⊥) → seek_found cs levels (class_key class k) a.len a.base ≡ false
  unfolding entry_slot
  not_led h = go (seek cs levels (class_key class k) a.len a.base) refl h
    where
      go : (s : Sought) → s ≡ seek cs levels (class_key class k) a.len a.base → (case (found_slot s) ≡ 2 → ⊥) → seek_found cs levels (class_key class k) a.len a.base ≡ false
      go (Ok w) e h = absurd (h refl)
      go (Err w) e h = (answered_err cs levels (class_key class k) a.len a.base w e).1

  pub led_nowhere : entry_slot cs a class k ≡ None → seek_found cs levels (class_key class k) a.len a.base ≡ false
  led_nowhere e = not_led (λ q. omega (arith, ap case e, q))

  -- it lies within the map
  pub led_inside : (p : ℕ) → a.used ≡ sizes (size cs levels) a.len a.base → Led p → (a.base ≤ p) × (p + size cs levels p ≤ a.base + a.used)
  led_inside p used l =
      subst (λ q. (a.base ≤ q) × (q + size cs levels q ≤ a.base + a.used)) l.at
      (seek_from cs levels (class_key class k) a.len a.base, omega (arith, seek_whole cs levels (class_key class k) a.len a.base l.present, used))

  pub entry-within : IsMap cs a → (s : Option ℕ) → s ≡ entry_slot cs a class k → SlotWithin cs s
  entry-within is None e = tt
  entry-within is (Some p) e = omega (arith, (led_inside p is.used (led_at p (sym e))).1, size-pos cs levels p, is.inside)

-- ---- a register by its index

pub register_within : (cs : List Cell) (a : IntMap) → IsMap cs a → (t : Tried ℕ) (s : Option ℕ) → done s ≡ index_slot cs a 0 t → SlotWithin cs s
unfolding index_slot
register_within cs a is (refused n) s e = cc
register_within cs a is (done k) s e = entry-within cs a 0 k is s (done-same e)

-- ---- the head at a place

module _ (cs : List Cell) (x : Option ℕ) where
  module _ (p : ℕ) (e : x ≡ Some p) (c : Cell) (ce : c ≡ get_or cs p blank) where
    headed : head_slot cs x ≡ pick (eqb (tag_of c) 2) (Some p) None
    headed = ap (head_slot cs) e ∙ ap (λ y. pick (eqb (tag_of y) 2) (Some p) None) (sym ce)

    pub head_there : tag_of c ≡ 2 → Some p ≡ head_slot cs x
    head_there t = sym (headed ∙ ap (λ b. pick b (Some p) None) (eq-eqb (tag_of c) 2 t))

-- ---- of a state that the map holds

-- a register that is no record has no columns
no_record : (c : Cell) (rest : List Cell) (key : ℕ) (v : RegDataType) → c ∷ rest ≡ run_register key v → (tag_of c ≡ 2 → ⊥) → record_of (Some v) ≡ None
unfolding run_register run_column
no_record c rest key (Column (Single d n)) e t = refl
no_record c rest key (Column (Record x)) e t = absurd (t (omega (arith, (first-is c _ rest (run_columns x) e).0)))
no_record c rest key (Int i) e t = refl

module _ {limit bound : ℕ} {cs : List Cell} {a : IntMap} {m : MemoryState} (h : HoldsMap limit bound cs a m) where
  -- a table
  module _ (row : ℕ) where
    table_at : (p : ℕ) → Led cs a 2 row p → IsTable cs a p (done (get row m.t))
    table_at p l =
        let key = class_key 2 row in
        let q = (seek_place cs levels key a.len a.base).at in
        let v = (told_table h row).present (span cs q (size cs levels q)) (ap done (seek_some cs levels key a.len a.base l.present)) in
        let long : size cs levels q ≡ length (run_table key v.value) = sym (length-span cs q (size cs levels q)) ∙ ap length v.is in
        let inside = led_inside cs a 2 row q h.takes (record { present = l.present; at = refl }) in
        subst (λ y. IsTable cs a y (done (get row m.t))) l.at
        (record {
          table = v.value;
          key = key;
          answer = v.answer;
          good = v.has.1;
          stands = ap (span cs q) (sym long) ∙ v.is;
          above = inside.0;
          below = omega (arith, long, inside.1);
        })

    pub table_tells : (s : Option ℕ) → entry_slot cs a 2 row ≡ s → TellsTable cs a s (done (get row m.t))
    table_tells None e = ap done (search_no_table h row (led_nowhere cs a 2 row e))
    table_tells (Some p) e = table_at p (led_at cs a 2 row p e)

  -- its head
  module _ {p : ℕ} {o : Option TableDataType} (t : IsTable cs a p (done o)) where
    table_is : o ≡ Some t.table
    table_is = done-same t.answer

    table-head : get_or cs p blank ≡ cell (head 2 0 (nullable_code t.table.is_empty) t.key) (count t.table.cols)
    table-head = stands_head cs p _ (run_columns t.table.cols) (unfold run_table in t.stands)

    pub table_tag : tag_of (get_or cs p blank) ≡ 2
    table_tag = omega (arith, ap (λ (c : Cell). c.head) table-head)

    table_emptiness : nullable_in (get_or cs p blank) ≡ table_is_empty o
    table_emptiness =
        ap (λ c. nullable_in c) table-head
        ∙ ap (λ n. get_or nullables n None) (head_nullable 2 0 (nullable_code t.table.is_empty) t.key (omega arith) (omega arith) (nullable_small t.table.is_empty))
        ∙ nullable_coded t.table.is_empty
        ∙ ap (λ u. table_is_empty u) (sym table_is)

    table_columns_lem : HasColumns cs a p (done (table_columns o))
    unfolding run_table
    table_columns_lem =
        record {
          columns = t.table.cols;
          answer = ap (λ u. done (table_columns u)) table_is;
          depth = t.good.depth;
          sorted = t.good.sorted;
          number = ap (λ (c : Cell). c.payload) table-head;
          stands = stands_rest cs p _ (run_columns t.table.cols) t.stands;
          above = t.above;
          below = omega (arith, t.below);
        }

  table_columns_tell : (row : ℕ) (s : Option ℕ) → entry_slot cs a 2 row ≡ s → TellsColumns cs a (Ok (head_slot cs s)) (done (table_columns (get row m.t)))
  table_columns_tell row None e = ap (λ o. done (table_columns o)) (done-same (table_tells row None e))
  table_columns_tell row (Some p) e =
      let t = table_tells row (Some p) e in
      subst (λ s. TellsColumns cs a (Ok s) (done (table_columns (get row m.t)))) (head_there cs (Some p) p refl (get_or cs p blank) refl (table_tag t)) (table_columns_lem t)

  empty_tells : (row : ℕ) (s : Option ℕ) → entry_slot cs a 2 row ≡ s → empty_in cs s ≡ table_is_empty (get row m.t)
  empty_tells row None e = ap (λ o. table_is_empty o) (sym (done-same (table_tells row None e)))
  empty_tells row (Some p) e = table_emptiness (table_tells row (Some p) e)

  -- the record in a register
  record_at_lem : (k p : ℕ) → k ≤ 65535 → Led cs a 0 k p → TellsColumns cs a (Ok (head_slot cs (Some p))) (done (record_of (get k m.r)))
  unfolding run_register run_column register_depth column_depth SortedColumn
  record_at_lem k p le l = subst (λ y. TellsColumns cs a (Ok (head_slot cs (Some y))) (done (record_of (get k m.r)))) l.at (go (eqb (tag_of (get_or cs q blank)) 2) refl)
    where
      key : ℕ
      key = class_key 0 k

      q : ℕ
      q = (seek_place cs levels (class_key 0 k) a.len a.base).at

      v : Value (λ v. GoodRegister v × SmallRegister bound v) (run_register (class_key 0 k)) (span cs q (size cs levels q)) (done (get k m.r))
      v = (told_register_at h k le).present (span cs q (size cs levels q)) (ap done (seek_some cs levels (class_key 0 k) a.len a.base l.present))

      whole : get_or cs q blank ∷ span cs (q + 1) (size cs levels q - 1) ≡ run_register (class_key 0 k) v.value
      whole = opened cs q (size cs levels q) (size-pos cs levels q) ∙ v.is

      go : (b : Bool) → eqb (tag_of (get_or cs q blank)) 2 ≡ b → TellsColumns cs a (Ok (pick b (Some q) None)) (done (record_of (get k m.r)))
      go false t =
          ap (λ o. done (record_of o)) (done-same v.answer)
          ∙ ap done (no_record (get_or cs q blank) _ (class_key 0 k) v.value whole (eqb-false (tag_of (get_or cs q blank)) 2 t))
      go true t =
          let r = register_record (get_or cs q blank) _ (class_key 0 k) v.value whole (eqb-true (tag_of (get_or cs q blank)) 2 t) in
          let good : GoodRegister (Column (Record r.0)) = subst GoodRegister r.1 v.has.0 in
          let inside = led_inside cs a 0 k q h.takes (record { present = l.present; at = refl }) in
          let long : size cs levels q - 1 ≡ length (run_columns r.0) = sym (length-span cs (q + 1) (size cs levels q - 1)) ∙ ap length r.2.columns in
          record {
            columns = r.0;
            answer = ap (λ o. done (record_of o)) (done-same v.answer) ∙ ap (λ w. done (record_of (Some w))) r.1;
            depth = omega (arith, good.depth);
            sorted = good.sorted;
            number = r.2.number;
            stands = ap (span cs (q + 1)) (sym long) ∙ r.2.columns;
            above = inside.0;
            below = omega (arith, long, inside.1, size-pos cs levels q);
          }

  record_tells : (k : ℕ) → k ≤ 65535 → (s : Option ℕ) → entry_slot cs a 0 k ≡ s → TellsColumns cs a (Ok (head_slot cs s)) (done (record_of (get k m.r)))
  record_tells k le None e = ap (λ o. done (record_of o)) (done-same ((told_register_at h k le).absent (ap done (seek_none cs levels (class_key 0 k) a.len a.base (led_nowhere cs a 0 k e)))))
  record_tells k le (Some p) e = record_at_lem k p le (led_at cs a 0 k p e)

  register_tells : (i : ℤ) (r : Slot) → place_of r ≡ (index_slot cs a 0 (index i) >>= λ o. done (head_slot cs o)) → TellsColumns cs a r (read_register i m >>= λ v. done (record_of v))
  unfolding read_register index_slot
  register_tells i = go (index i) (index_small i)
    where
      go : (t : Tried ℕ) → Kept (λ k. k ≤ 65535) t → (r : Slot) → place_of r ≡ (index_slot cs a 0 t >>= λ o. done (head_slot cs o)) → TellsColumns cs a r (t >>= (λ k. done (get k m.r)) >>= λ v. done (record_of v))
      go (refused n) le (Err e) is = sym (ap (λ t. t >>= λ _. done None) is)
      go (refused n) le (Ok o) is = cc
      go (done k) (value le) (Err e) is = cc
      go (done k) (value le) (Ok o) is = subst (λ y. TellsColumns cs a (Ok y) (done (record_of (get k m.r)))) (sym (done-same is)) (record_tells k le (entry_slot cs a 0 k) refl)

-- ---- the three methods: what they find tells what the definition's give

module _ (cs : List Cell) (a : IntMap) where
  pub finds_table : (c : CursorDataType) (r : Option ℕ) → r ≡ table_slot cs a c → FindsTable cs a c r
  finds_table (cursor.Normal row) r is =
      record { place = is; says = λ limit bound m h t told. subst (TellsTable cs a r) (sym (ap (λ u. u >>= λ o. done (cursor_table o m)) told.answer)) (table_tells h row r (sym is)) }
  finds_table (cursor.Pseudo w) r is =
      record { place = is; says = λ limit bound m h t told. subst (λ s. TellsTable cs a s (t >>= λ o. done (cursor_table o m))) (sym is) (ap (λ u. u >>= λ o. done (cursor_table o m)) told.answer) }

  pub finds_columns : (c : CursorDataType) (r : Slot) → place_of r ≡ columns_slot cs a c → FindsColumns cs a c r
  unfolding cursor_columns
  finds_columns (cursor.Normal row) (Err e) is = cc
  finds_columns (cursor.Normal row) (Ok o) is =
      record {
        place = is;
        says = λ limit bound m h t told.
            subst (TellsColumns cs a (Ok o)) (sym (ap (λ u. u >>= λ c. cursor_columns c m) told.answer))
            (subst (λ y. TellsColumns cs a (Ok y) (done (table_columns (get row m.t)))) (sym (done-same is)) (table_columns_tell h row (entry_slot cs a 2 row) refl));
      }
  finds_columns (cursor.Pseudo w) r is =
      record {
        place = is;
        says = λ limit bound m h t told. subst (TellsColumns cs a r) (sym (ap (λ u. u >>= λ c. cursor_columns c m) told.answer)) (register_tells h (int_of w) r is);
      }

  pub tells_empty : (c : CursorDataType) (r : Option Bool) → r ≡ emptiness_in cs a c → TellsEmpty cs a c r
  unfolding cursor_is_empty
  tells_empty (cursor.Normal row) r is =
      record {
        said = is;
        says = λ limit bound m h o told. is ∙ empty_tells h row (entry_slot cs a 2 row) refl ∙ ap (λ u. emptiness_of u m) (sym (done-same told.answer));
      }
  tells_empty (cursor.Pseudo w) r is = record { said = is; says = λ limit bound m h o told. is ∙ ap (λ u. emptiness_of u m) (sym (done-same told.answer)) }

-- ---- where the columns lie

-- a head that was found in a class, and its columns within the map
module _ (cs : List Cell) (a : IntMap) (is : IsMap cs a) (p : ℕ) where
  pub record HeadLed : Type 0 where
    pub tag : tag_of (get_or cs p blank) ≡ 2
    pub above : a.base ≤ p
    pub below : p + 1 + sizes (size cs 8) (get_or cs p blank).payload (p + 1) ≤ a.base + a.used

  head_led : (class k : ℕ) (s : Option ℕ) → entry_slot cs a class k ≡ s → head_slot cs s ≡ Some p → HeadLed
  head_led class k None e h = absurd (omega (arith, ap case h))
  head_led class k (Some q) e h = go (eqb (tag_of (get_or cs q blank)) 2) refl h
    where
      go : (b : Bool) → eqb (tag_of (get_or cs q blank)) 2 ≡ b → pick b (Some q) None ≡ Some p → HeadLed
      go false t f = absurd (omega (arith, ap case f))
      go true t f =
          let same : q ≡ p = cc in
          let inside = led_inside cs a class k p is.used (led_at cs a class k p (e ∙ ap Some same)) in
          let tag : tag_of (get_or cs p blank) ≡ 2 = subst (λ y. tag_of (get_or cs y blank) ≡ 2) same (eqb-true (tag_of (get_or cs q blank)) 2 t) in
          record { tag = tag; above = inside.0; below = omega (arith, inside.1, size_record cs 9 p (get_or cs p blank) refl (omega arith) tag) }

  pub columns_led : (c : CursorDataType) (r : Slot) → FindsColumns cs a c r → r ≡ Ok (Some p) → HeadLed
  unfolding index_slot
  columns_led c r finds e = go c (sym finds.place ∙ ap place_of e)
    where
      register : (t : Tried ℕ) → (index_slot cs a 0 t >>= λ o. done (head_slot cs o)) ≡ done (Some p) → HeadLed
      register (refused n) h = cc
      register (done k) h = head_led 0 k (entry_slot cs a 0 k) refl (done-same h)

      go : (d : CursorDataType) → columns_slot cs a d ≡ done (Some p) → HeadLed
      go (cursor.Normal row) h = head_led 2 row (entry_slot cs a 2 row) refl (done-same h)
      go (cursor.Pseudo w) h = register (index (int_of w)) h

  pub cursor_led : (i : ℕ) (r : Slot) → FindsCursor cs a i r → r ≡ Ok (Some p) → HeadLed
  cursor_led i r found e = go found.reading found.finds
    where
      go : (q : Reading) → FindsReading cs a q r → HeadLed
      go (Err n) is = cc (ap place_of (sym is ∙ e))
      go (Ok None) is = absurd (omega (arith, ap case (done-same (ap place_of (sym is ∙ e)))))
      go (Ok (Some c)) is = columns_led c r is e

-- ---- what is found of a cursor by its number

module _ {limit bound : ℕ} {cs : List Cell} {a : IntMap} {m : MemoryState} (h : HoldsMap limit bound cs a m) (i : ℕ) (r : Slot) (found : FindsCursor cs a i r) where
  pub cursor_tells : TellsColumns cs a r (read_cursor (int_of i) m >>= λ o. cursor_columns o m)
  unfolding cursor_columns
  cursor_tells = go found.reading (found.reads.says limit bound m h) found.finds
    where
      go : (q : Reading) → TellsReading bound q (read_cursor (int_of i) m) → FindsReading cs a q r → TellsColumns cs a r (read_cursor (int_of i) m >>= λ o. cursor_columns o m)
      go (Err n) told is = subst (λ s. TellsColumns cs a s (read_cursor (int_of i) m >>= λ o. cursor_columns o m)) (sym is) (ap (λ u. u >>= λ o. cursor_columns o m) told)
      go (Ok None) told is = subst (λ s. TellsColumns cs a s (read_cursor (int_of i) m >>= λ o. cursor_columns o m)) (sym is) (ap (λ u. u >>= λ o. cursor_columns o m) told)
      go (Ok (Some c)) told is = is.says limit bound m h (read_cursor (int_of i) m) told

-- ---- columns of one cell each

module _ (cs : List Cell) (a : IntMap) (held : Held cs a) (i : ℕ) (r : Slot) (found : FindsCursor cs a i r) (p : ℕ) (e : r ≡ Ok (Some p)) where
  has : HasColumns cs a p (read_cursor (int_of i) held.state >>= λ o. cursor_columns o held.state)
  has = subst (λ s. TellsColumns cs a s (read_cursor (int_of i) held.state >>= λ o. cursor_columns o held.state)) e (cursor_tells held.holds i r found)

  pub flat_there : (b : Cell) → b ≡ get_or cs p blank → is_flat cs a p b.payload ≡ true → sizes (size cs 8) b.payload (p + 1) ≡ b.payload
  flat_there b be flat =
      flat_sizes has.columns has.depth has.sorted cs (p + 1) b.payload (a.base + a.used) has.stands (ap (λ (y : Cell). y.payload) be ∙ has.number) (omega (arith, has.below)) (flat_told cs a p b.payload flat).1
