-- The record of registers that stand side by side, put over another of as many columns: its run is the definition's record, so what is in the
-- map then is the definition's store. Assumes nothing.
use mathlib.Core.Path.{◌≡◌, refl, sym, ap, ap₂, subst, ◌∙◌}
use mathlib.Core.Bool.{Bool, true, false}
use Rattle.std.specs.Prelude.{Some, Ok, Option}
use mathlib.Core.List.{List, [], ◌∷◌, ◌++◌, flatten}
use Prim.Native.Nat.{ℕ, zero, suc, ◌+◌, ◌-◌, ◌<◌, ◌≤◌}
use native.Mathlib.Omega.{arith}
use native.Mathlib.Decide.{ℕ_discrete}
use lib.Dec.{eqb, leb, ltb}
use lib.ListN.{length, get_or, set, length-set}
use lib.Seq.{get_or-set_same, get_or-set_other}
use borrow.Author.Tests.{ltb-true, ltb-false, leb-true, leb-false}
use Rattle.model.specs.State.{Record, RegDataType, Column, from_dense_record}
use Rattle.model.specs.Cells.{register_depth}
use Rattle.area.specs.Cells.{blank, cell}
use Rattle.area.specs.declared.Cell.{Cell}
use Rattle.intmap.specs.Change.{rekey, rekeyed}
use Rattle.intmap.specs.Depth.{nesting}
use Rattle.intmap.specs.Entries.{Runs, span}
use Rattle.intmap.specs.Find.{seek_place, seek_found}
use Rattle.intmap.specs.Get.{Judges, Index}
use Rattle.intmap.specs.Map.{levels, runs_at, IsMap, Frame}
use Rattle.intmap.specs.Over.{Plain, Overlaid}
use Rattle.intmap.specs.Pack.{head, tag_of, key_of, with_key, class_key}
use Rattle.intmap.specs.Pick.{pick}
use Rattle.intmap.specs.Runs.{size}
use Rattle.intmap.specs.Signed.{int_of}
use Rattle.intmap.specs.Store.{store_runs, Stores}
use Rattle.intmap.specs.Swap.{lookup}
use Rattle.intmap.specs.declared.IntMap.{IntMap}
use Rattle.intmap.proofs.ChangeLaws.{key-rekey}
use Rattle.intmap.proofs.DepthLaws.{nesting-single}
use Rattle.intmap.proofs.EntryLaws.{length-span}
use Rattle.intmap.proofs.FindLaws.{answers_found, seek_key}
use Rattle.intmap.proofs.JudgedLaws.{store_tried}
use Rattle.intmap.proofs.OverLaws.{plain_record, overwritten_run}
use Rattle.intmap.proofs.PackLaws.{keyed_tag}
use Rattle.intmap.proofs.RunLaws.{size-single}
use Rattle.intmap.proofs.StoreLaws.{found_in}
use Rattle.intmap.proofs.Swapped.{seek_some}
use Rattle.encoding.specs.Changes.{column_run}
use Rattle.encoding.specs.Heads.{as_column}
use Rattle.encoding.proofs.HeldAfter.{held_register}
use Rattle.encoding.proofs.Places.{held_place}
use Rattle.state.specs.Leads.{Held, Current, Leads}
use Rattle.state.specs.Own.{entry_slot}
use Rattle.state.proofs.OwnLaws.{entry_led}
use Rattle.state.proofs.StoreLeads.{wider}
use Rattle.record_arms.specs.Records.{columns_from, runs_from, record_from}
use Rattle.record_arms.specs.Over.{Apart, PutsRegisters, RecordAt, PutsRecord, RecordOver}
use Rattle.record_arms.proofs.BuildLaws.{rekey_twice}
use Rattle.record_arms.proofs.DeepLaws.{held_shallow}
use Rattle.record_arms.proofs.RecordLaws.{made_run, made_depth, made_sorted}

-- ---- side by side

-- the first d of n are
pub record Beside (cs : List Cell) (p k d : ℕ) : Type 0 where
  pub keys : (j : ℕ) → j < d → key_of (get_or cs (p + j) blank) ≡ class_key 0 (k + j)
  pub plain : Plain cs p d

-- ---- where an entry is

pub entry-within : (cs : List Cell) (a : IntMap) (class k p : ℕ) → IsMap cs a → entry_slot cs a class k ≡ Some p → (a.base ≤ p) × (p ≤ a.base + a.used)
entry-within cs a class k p map e =
    let w = entry_led cs a class k p e in
    let f = found_in cs a (class_key class k) map _ (answers_found cs levels (class_key class k) a.len a.base w.0) in
    (omega (arith, f.0, w.1), omega (arith, f.1, w.1))

-- ---- put as columns

pub puts_more : {cs ms ds : List Cell} {p q d n : ℕ} → PutsRegisters cs ms p q d → d < n → Apart p q n → q + n ≤ length cs → (c x y : Cell) → c ≡ get_or ms (p + d) blank → x ≡ as_column c → y ≡ with_key d x → ds ≡ set ms (q + d) y → PutsRegisters cs ds p q (d + 1)
puts_more {cs} {ms} {ds} {p} {q} {d} {n} puts lt apart fits c x y ce xe ye de =
    record {
      cells = λ j l. go j l (ℕ_discrete j d);
      frame = record {
        long = ap length de ∙ length-set ms (q + d) y ∙ puts.frame.long;
        below = λ j l. other j (omega (arith, l)) ∙ puts.frame.below j l;
        above = λ j l. other j (omega (arith, l)) ∙ puts.frame.above j (omega (arith, l));
      };
    }
  where
    other : (j : ℕ) → (j ≡ q + d → ⊥) → get_or ds j blank ≡ get_or ms j blank
    other j ne = ap (λ l. get_or l j blank) de ∙ get_or-set_other ms (q + d) j y blank ne

    here : get_or ds (q + d) blank ≡ y
    here = ap (λ l. get_or l (q + d) blank) de ∙ get_or-set_same ms (q + d) y blank (omega (arith, puts.frame.long, fits, lt))

    was : get_or ms (p + d) blank ≡ get_or cs (p + d) blank
    was = by (ltb (p + d) q) refl (leb (q + d) (p + d)) refl
      where
        by : (b : Bool) → ltb (p + d) q ≡ b → (e : Bool) → leb (q + d) (p + d) ≡ e → get_or ms (p + d) blank ≡ get_or cs (p + d) blank
        by true l e f = puts.frame.below (p + d) (ltb-true (p + d) q l)
        by false l true f = puts.frame.above (p + d) (leb-true (q + d) (p + d) f)
        by false l false f =
            let from = ltb-false (p + d) q l in
            let to = leb-false (q + d) (p + d) f in
            absurd (apart.none d (p + d - q) lt (omega (arith, from, to, lt)) (omega (arith, from)))

    go : (j : ℕ) → j < d + 1 → Dec (j ≡ d) → get_or ds (q + j) blank ≡ with_key j (as_column (get_or cs (p + j) blank))
    go j l (yes e) = subst (λ i. get_or ds (q + i) blank ≡ with_key i (as_column (get_or cs (p + i) blank))) (sym e) (here ∙ ye ∙ ap (with_key d) (xe ∙ ap as_column (ce ∙ was)))
    go j l (no ne) = other (q + j) (omega (arith, ne)) ∙ puts.cells j (omega (arith, l, ne))

-- what is put is no record
column_plain : (c : Cell) (key : ℕ) → (tag_of c ≡ 2 → ⊥) → tag_of (with_key key (as_column c)) ≡ 2 → ⊥
column_plain c key plain t = go (eqb (tag_of c) 3) (sym (keyed_tag key (as_column c)) ∙ t)
  where
    go : (b : Bool) → tag_of (pick b (cell (head 1 1 1 0) 0) c) ≡ 2 → ⊥
    go true e = omega (arith, e)
    go false e = plain e

-- ---- the record's run

laid : (cs ds : List Cell) (es : Runs) (n from k q p : ℕ) → ((i : ℕ) → i < n → lookup (class_key 0 (k + i)) es ≡ Some (get_or cs (p + i) blank ∷ [])) → ((i : ℕ) → i < n → get_or ds (q + i) blank ≡ with_key (from + i) (as_column (get_or cs (p + i) blank))) → span ds q n ≡ flatten (rekeyed from (runs_from n k es))
unfolding span runs_from rekeyed flatten
laid cs ds es zero from k q p there put = refl
laid cs ds es (suc n) from k q p there put =
    let z : (x : ℕ) → x + 0 ≡ x = λ x. omega arith in
    let next : (x i : ℕ) → x + suc i ≡ suc x + i = λ x i. omega arith in
    let one : (x i : ℕ) → x + suc i ≡ x + 1 + i = λ x i. omega arith in
    let h : lookup (class_key 0 k) es ≡ Some (get_or cs p blank ∷ []) = ap (λ x. lookup (class_key 0 x) es) (sym (z k)) ∙ there 0 (omega arith) ∙ ap (λ x. Some (get_or cs x blank ∷ [])) (z p) in
    let c : get_or ds q blank ≡ with_key from (as_column (get_or cs p blank)) = ap (λ x. get_or ds x blank) (sym (z q)) ∙ put 0 (omega arith) ∙ ap₂ (λ x y. with_key x (as_column (get_or cs y blank))) (z from) (z p) in
    let rest = laid cs ds es n (suc from) (suc k) (q + 1) (p + 1)
    (λ i lt. ap (λ x. lookup (class_key 0 x) es) (sym (next k i)) ∙ there (suc i) (omega (arith, lt)) ∙ ap (λ x. Some (get_or cs x blank ∷ [])) (one p i))
    (λ i lt. ap (λ x. get_or ds x blank) (sym (one q i)) ∙ put (suc i) (omega (arith, lt)) ∙ ap₂ (λ x y. with_key x (as_column (get_or cs y blank))) (next from i) (one p i)) in
    ap₂ (λ x l. x ∷ l) (c ∙ sym (rekey_twice from (as_column (get_or cs p blank)))) rest
    ∙ ap (λ o. rekey from (column_run o) ++ flatten (rekeyed (suc from) (runs_from n (suc k) es))) (sym h)

module _ (limit : ℕ) (cs ds : List Cell) (a : IntMap) (first n i k p q : ℕ) (x : Index) (judges : Judges i x) (xe : x ≡ Ok k) (within : first + n ≤ 65536) (current : Current limit cs a)
    (target : entry_slot cs a 0 k ≡ Some q) (low : a.base ≤ p) (at : RecordAt cs ds (a.base + a.used) p q first n)
  where
    -- each register is where it is told
    found : (j : ℕ) → j < n → ((seek_place cs levels (class_key 0 (first + j)) a.len a.base).at ≡ p + j) × (seek_found cs levels (class_key 0 (first + j)) a.len a.base ≡ true)
    found j lt =
        let key = at.source.keys j lt in
        let w = held_place current.holds (p + j) (omega (arith, low)) (omega (arith, at.source.inside, lt)) (omega (arith, key)) in
        (ap (λ s. (seek_place cs levels s a.len a.base).at) (sym key) ∙ w.0, ap (λ s. seek_found cs levels s a.len a.base) (sym key) ∙ w.1)

    one_cell : (j : ℕ) → j < n → 1 ≡ size cs levels (p + j)
    one_cell j lt = size-single cs levels (p + j) (get_or cs (p + j) blank) refl (at.source.plain.none j lt)

    there : (j : ℕ) → j < n → lookup (class_key 0 (first + j)) (runs_at cs a) ≡ Some (get_or cs (p + j) blank ∷ [])
    unfolding span
    there j lt =
        seek_some cs levels (class_key 0 (first + j)) a.len a.base (found j lt).1
        ∙ ap (λ s. Some (span cs s (size cs levels s))) (found j lt).0
        ∙ ap (λ s. Some (span cs (p + j) s)) (sym (one_cell j lt))

    abbrev run : List Cell
    run = cell 2 n ∷ flatten (rekeyed 0 (runs_from n first (runs_at cs a)))

    columns : span ds (q + 1) n ≡ flatten (rekeyed 0 (runs_from n first (runs_at cs a)))
    columns = laid cs ds (runs_at cs a) n 0 first (q + 1) p there (λ j lt. at.cells j lt ∙ ap (λ s. with_key s (as_column (get_or cs (p + j) blank))) (omega arith))

    long : length (rekey (class_key 0 k) run) ≡ suc n
    long = ap suc (ap length (sym columns) ∙ length-span ds (q + 1) n)

    led : (seek_found cs levels (class_key 0 k) a.len a.base ≡ true) × ((seek_place cs levels (class_key 0 k) a.len a.base).at ≡ q)
    led = entry_led cs a 0 k q target

    its_key : key_of (get_or cs q blank) ≡ class_key 0 k
    its_key = subst (λ s. key_of (get_or cs s blank) ≡ class_key 0 k) led.1 (seek_key cs levels (class_key 0 k) a.len a.base led.0)

    headed : get_or ds q blank ≡ with_key (class_key 0 k) (cell 2 n)
    headed = at.head ∙ ap (λ s. with_key s (cell 2 n)) its_key

    now_plain : Plain ds (q + 1) n
    now_plain = record { none = λ j lt t. column_plain (get_or cs (p + j) blank) j (at.source.plain.none j lt) (sym (ap tag_of (at.cells j lt)) ∙ t) }

    over : Overlaid cs ds q (rekey (class_key 0 k) run)
    unfolding span
    over =
        record {
          was = plain_record cs q n at.tag at.number at.plain ∙ sym long;
          is = plain_record ds q n (ap tag_of headed ∙ keyed_tag (class_key 0 k) (cell 2 n) ∙ omega arith) (ap (λ (y : Cell). y.payload) headed) now_plain ∙ sym long;
          stands = ap (span ds q) long ∙ ap₂ (λ y l. y ∷ l) headed columns;
          frame = subst (Frame cs ds q) (omega (arith, long)) at.frame;
        }

    stores : (depth : ℕ) → depth ≤ 8 → Stores cs ds limit a 0 i depth run (Ok a)
    stores depth low =
        store_tried cs ds limit a 0 i depth run x judges.answer k xe (class_key 0 k) (rekey (class_key 0 k) run) (Ok a) low refl refl
        (overwritten_run cs ds limit a (class_key 0 k) q (rekey (class_key 0 k) run) current.room _ (answers_found cs levels (class_key 0 k) a.len a.base led.0) led.1 (key-rekey (class_key 0 k) run (omega arith)) over)

    shallow : (r : ℕ) → first ≤ r → r < first + n → seek_found cs levels (class_key 0 r) a.len a.base ≡ true → nesting cs levels (seek_place cs levels (class_key 0 r) a.len a.base).at ≤ 7
    shallow r ge lt e =
        let j = r - first in
        let back : first + j ≡ r = omega (arith, ge) in
        let less : j < n = omega (arith, ge, lt) in
        let here : (seek_place cs levels (class_key 0 r) a.len a.base).at ≡ p + j = ap (λ s. (seek_place cs levels (class_key 0 s) a.len a.base).at) (sym back) ∙ (found j less).0 in
        let none = nesting-single cs levels (p + j) (get_or cs (p + j) blank) refl (at.source.plain.none j less) in
        subst (λ s. nesting cs levels s ≤ 7) (sym here) (omega (arith, none))

    pub over_leads : Leads limit cs ds a (Ok a) (record_from limit n first (int_of i))
    unfolding record_from
    over_leads =
        record {
          says = λ bound m le h.
              (let v : RegDataType = Column (Record (from_dense_record (columns_from n first m))) in
              let made = made_run limit bound cs a m h n first within in
              let st = stores (register_depth v) (omega (arith, made_depth limit bound cs a m h n first within, held_shallow limit bound cs a m h first n within shallow)) in
              (held_register h (int_of i) 0 v (λ _. made_sorted limit bound cs a m h n first within) tt).next ds a.base a.len a.used (runs_at ds a)
              (ap (λ l. store_runs limit 0 (int_of i) (register_depth v) l (runs_at cs a)) (sym made) ∙ sym st.answer) refl st.leaves.room.used);
          leaves = record { base = refl; room = (stores 0 (omega arith)).leaves.room };
          frame = wider cs ds a.base limit (stores 0 (omega arith)).frame;
        }

-- ---- what the code answers

pub record_over : {cs ds : List Cell} {a : IntMap} {first n i k p q : ℕ} {x : Index} {s u : Option ℕ} {r : Bool} → Held cs a → first + n ≤ 65536 → Judges i x → x ≡ Ok k → s ≡ entry_slot cs a 0 k → s ≡ Some q → u ≡ entry_slot cs a 0 first → u ≡ Some p → PutsRecord cs ds (a.base + a.used) p q first n r → RecordOver cs ds a first n i r
record_over {cs} {ds} {a} {first} {n} {i} {k} {p} {q} {x} held within judges xe se sq ue up puts =
    record {
      yes = λ e limit current. over_leads limit cs ds a first n i k p q x judges xe within current (sym se ∙ sq) (entry-within cs a 0 first p held.map (sym ue ∙ up)).0 (puts.yes e);
      no = puts.no;
    }
