-- Whether a record of registers nests too deep: what each turn of the loop leaves; then the runs of those registers are as long one level lower,
-- and in a state that the cells hold it is the depth of the record. Assumes nothing.
use mathlib.Core.Path.{◌≡◌, refl, sym, ap, subst, ◌∙◌}
use mathlib.Core.Bool.{Bool, true, false, false≢true}
use Rattle.std.specs.Prelude.{Some}
use Rattle.std.proofs.lemmas.Option.{none-some}
use mathlib.Core.List.{List, [], ◌∷◌, ◌++◌}
use Prim.Native.Nat.{ℕ, zero, suc, ◌+◌, ◌-◌, ◌<◌, ◌≤◌}
use native.Mathlib.Omega.{arith}
use lib.Dec.{eqb, leb, ltb}
use lib.ListN.{length, get_or}
use borrow.Author.Tests.{lt-ltb, le-ltb, lt-leb, le-leb, ltb-true, ltb-false, leb-false, eqb-true, eqb-false, eq-eqb, ne_eqb}
use Rattle.model.specs.Walk.{done}
use Rattle.model.specs.IntMap.{Entry, get, get_if, numbered, Rising}
use Rattle.model.specs.State.{RegDataType, Column, Int, MemoryState, map_to_columntype, as_columns, from_dense_record}
use Rattle.model.specs.Cells.{column_depth, columns_depth, register_depth}
use Rattle.model.specs.Access.{register_column}
use Rattle.model.specs.Good.{GoodRegister, Each}
use Rattle.model.proofs.Tried.{done-same}
use Rattle.area.specs.Cells.{blank}
use Rattle.area.specs.declared.Cell.{Cell}
use Rattle.intmap.specs.Pack.{tag_of, key_of, class_key}
use Rattle.intmap.specs.Pick.{pick}
use Rattle.intmap.specs.Runs.{size, Agree, sizes, IsColumn}
use Rattle.intmap.specs.Depth.{nesting}
use Rattle.intmap.specs.Entries.{Runs, span, entries, key_run}
use Rattle.intmap.specs.Find.{place, has_entry, seek_place, seek_found}
use Rattle.intmap.specs.Map.{levels, runs_at}
use Rattle.intmap.specs.declared.IntMap.{IntMap}
use Rattle.intmap.proofs.RunLaws.{size-pos, sizes_step}
use Rattle.intmap.proofs.EntryLaws.{key-span, length-span}
use Rattle.intmap.proofs.SameCells.{size_same}
use Rattle.intmap.proofs.DepthLaws.{nesting-single, size_deep}
use Rattle.intmap.proofs.FindLaws.{entry_told}
use Rattle.intmap.proofs.Swapped.{seek_some, seek_none}
use Rattle.encoding.specs.Encode.{run_register, run_cursor, run_table, run_map, runs_of}
use Rattle.encoding.specs.Holds.{Stands}
use Rattle.encoding.proofs.Packing.{register_key, cursor-key, table-key}
use Rattle.encoding.proofs.Nesting.{register_nesting}
use Rattle.encoding.proofs.HeldRead.{told_register_at}
use Rattle.encoding.proofs.Standing.{each_append}
use Rattle.state.specs.Leads.{HoldsMap}
use Rattle.record_arms.specs.Records.{columns_from, deep_at, any_deep, Flat}

-- ---- one entry

module _ (cs : List Cell) (low at : ℕ) where
  abbrev key : ℕ
  key = key_of (get_or cs at blank)

  abbrev by : Bool → Bool
  by b = pick b false (ltb 7 (nesting cs levels at))

  deep_under : key_of (get_or cs at blank) < low → false ≡ deep_at cs low at
  unfolding deep_at
  deep_under h = sym (ap (λ b. by b) (lt-ltb key low h))

  deep_within : low ≤ key_of (get_or cs at blank) → ltb 7 (nesting cs levels at) ≡ deep_at cs low at
  unfolding deep_at
  deep_within l = sym (ap (λ b. by b) (le-ltb key low l))

  deep_flat : nesting cs levels at ≤ 7 → false ≡ deep_at cs low at
  unfolding deep_at
  deep_flat h = go (ltb key low) ∙ ap (λ t. pick (ltb key low) false t) (sym (le-ltb 7 (nesting cs levels at) h))
    where
      go : (b : Bool) → false ≡ pick b false false
      go true = refl
      go false = refl

  not_deep : deep_at cs low at ≡ false → low ≤ key_of (get_or cs at blank) → nesting cs levels at ≤ 7
  not_deep e l = ltb-false 7 (nesting cs levels at) (deep_within l ∙ e)

  -- what is deep lies within, and is deep
  is_deep : deep_at cs low at ≡ true → (low ≤ key) × (7 < nesting cs levels at)
  unfolding deep_at
  is_deep e = go (ltb key low) refl e
    where
      go : (b : Bool) → ltb key low ≡ b → by b ≡ true → (low ≤ key) × (7 < nesting cs levels at)
      go true f e = absurd (false≢true e)
      go false f e = (ltb-false key low f, ltb-true 7 (nesting cs levels at) e)

-- in the words of the code
pub single_flat : (cs : List Cell) (low at : ℕ) (c : Cell) → c ≡ get_or cs at blank → (tag_of c ≡ 2 → ⊥) → false ≡ deep_at cs low at
single_flat cs low at c ce t = deep_flat cs low at (omega (arith, nesting-single cs levels at c ce t))

module _ (cs : List Cell) (low at : ℕ) (c : Cell) (k : ℕ) (ce : c ≡ get_or cs at blank) (ke : k ≡ key_of c) where
  key_is : k ≡ key_of (get_or cs at blank)
  key_is = ke ∙ ap (λ x. key_of x) ce

  pub under_key : k < low → false ≡ deep_at cs low at
  under_key h = deep_under cs low at (omega (arith, key_is))

  pub within_keys : low ≤ k → (d : ℕ) → d ≡ nesting cs levels at → ltb 7 d ≡ deep_at cs low at
  within_keys l d e = ap (ltb 7) e ∙ deep_within cs low at (omega (arith, key_is))

-- ---- the loop

picked : (b r : Bool) → pick b true r ≡ false → (b ≡ false) × (r ≡ false)
picked true r e = absurd (false≢true (sym e))
picked false r e = (refl, e)

module _ (cs : List Cell) (low high : ℕ) where
  abbrev rest : ℕ → ℕ → Bool
  rest n at = pick (deep_at cs low at) true (any_deep cs low high n (at + size cs levels at))

  -- a key below the end, and one from there on
  below : (n at : ℕ) → key_of (get_or cs at blank) < high → any_deep cs low high (suc n) at ≡ rest n at
  unfolding any_deep
  below n at lt = ap (λ b. pick b false (rest n at)) (lt-leb high (key_of (get_or cs at blank)) lt)

  beyond : (n at : ℕ) → high ≤ key_of (get_or cs at blank) → any_deep cs low high (suc n) at ≡ false
  unfolding any_deep
  beyond n at le = ap (λ b. pick b false (rest n at)) (le-leb high (key_of (get_or cs at blank)) le)

  -- what is deep has a key below the end
  is_below : (n at : ℕ) → any_deep cs low high (suc n) at ≡ true → (key_of (get_or cs at blank) < high) × (rest n at ≡ true)
  unfolding any_deep
  is_below n at e = go (leb high (key_of (get_or cs at blank))) refl e
    where
      go : (b : Bool) → leb high (key_of (get_or cs at blank)) ≡ b → pick b false (rest n at) ≡ true → (key_of (get_or cs at blank) < high) × (rest n at ≡ true)
      go true f e = absurd (false≢true e)
      go false f e = (leb-false high (key_of (get_or cs at blank)) f, e)

  pub any_end : (n at : ℕ) → n ≤ 0 → false ≡ any_deep cs low high n at
  unfolding any_deep
  any_end zero at h = refl
  any_end (suc n) at h = absurd (omega arith)

  -- of the first entry, in the words of the code
  module _ (n at : ℕ) (c : Cell) (k : ℕ) (ce : c ≡ get_or cs at blank) (ke : k ≡ key_of c) (lt : 0 < n) where
    first_key : k ≡ key_of (get_or cs at blank)
    first_key = ke ∙ ap (λ x. key_of x) ce

    back : suc (n - 1) ≡ n
    back = omega arith

    pub any_over : high ≤ k → false ≡ any_deep cs low high n at
    any_over h = sym (beyond (n - 1) at (omega (arith, first_key))) ∙ ap (λ m. any_deep cs low high m at) back

    pub any_here : k < high → true ≡ deep_at cs low at → true ≡ any_deep cs low high n at
    any_here h d =
        ap (λ b. pick b true (any_deep cs low high (n - 1) (at + size cs levels at))) d ∙ sym (below (n - 1) at (omega (arith, first_key)))
        ∙ ap (λ m. any_deep cs low high m at) back

    pub any_on : k < high → false ≡ deep_at cs low at → (r : ℕ) → r ≡ size cs levels at → any_deep cs low high (n - 1) (at + r) ≡ any_deep cs low high n at
    any_on h d r e =
        ap (λ z. any_deep cs low high (n - 1) (at + z)) e ∙ ap (λ b. pick b true (any_deep cs low high (n - 1) (at + size cs levels at))) d
        ∙ sym (below (n - 1) at (omega (arith, first_key))) ∙ ap (λ m. any_deep cs low high m at) back

  -- where nothing is deep, what a search finds is not
  found_flat : (key n at : ℕ) → low ≤ key → key < high → any_deep cs low high n at ≡ false → seek_found cs levels key n at ≡ true → nesting cs levels (seek_place cs levels key n at).at ≤ 7
  unfolding seek_place
  found_flat key zero at l h e f = absurd (omega (arith, (entry_told cs key (place at 0) f).0))
  found_flat key (suc n) at l h e f = go (ltb (key_of (get_or cs at blank)) key) refl f (found_flat key n (at + size cs levels at) l h)
    where
      go : (t : Bool) → ltb (key_of (get_or cs at blank)) key ≡ t → has_entry cs key (pick t (seek_place cs levels key n (at + size cs levels at)) (place at (suc n))) ≡ true
          → (any_deep cs low high n (at + size cs levels at) ≡ false → seek_found cs levels key n (at + size cs levels at) ≡ true → nesting cs levels (seek_place cs levels key n (at + size cs levels at)).at ≤ 7)
          → nesting cs levels (pick t (seek_place cs levels key n (at + size cs levels at)) (place at (suc n))).at ≤ 7
      go true g f more =
          let passed = ltb-true (key_of (get_or cs at blank)) key g in
          more (picked (deep_at cs low at) (any_deep cs low high n (at + size cs levels at)) (sym (below n at (omega arith)) ∙ e)).1 f
      go false g f more =
          let same = (entry_told cs key (place at (suc n)) f).1 in
          not_deep cs low at (picked (deep_at cs low at) (any_deep cs low high n (at + size cs levels at)) (sym (below n at (omega arith)) ∙ e)).0 (omega arith)

-- the first of n entries that lie within the area is a column
pub one_column : (cs : List Cell) (n at : ℕ) → 0 < n → at + sizes (size cs levels) n at ≤ length cs → length cs ≤ 1048576 → IsColumn cs levels at
one_column cs n at some fits small = record { fits = omega (arith, sizes_step (size cs levels) n at some, fits); small = small }

-- ---- as long one level lower

span_agree : (cs ds : List Cell) (n p q : ℕ) → span ds q n ≡ span cs p n → Agree cs p ds q n
unfolding span
span_agree cs ds zero p q e j lt = absurd (omega arith)
span_agree cs ds (suc n) p q e zero lt =
    let y : q + 0 ≡ q = omega arith in
    let x : p + 0 ≡ p = omega arith in
    rw (y, x) cc
span_agree cs ds (suc n) p q e (suc j) lt =
    let y : q + suc j ≡ q + 1 + j = omega arith in
    let x : p + suc j ≡ p + 1 + j = omega arith in
    let rest : span ds (q + 1) n ≡ span cs (p + 1) n = cc in
    rw (y, x) (span_agree cs ds n (p + 1) (q + 1) rest j (omega arith))

flat_run : (cs : List Cell) (at : ℕ) → nesting cs levels at ≤ 7 → (es : List Cell) (q : ℕ) → Stands es q (span cs at (size cs levels at)) → size es 8 q ≡ length (span cs at (size cs levels at))
flat_run cs at h es q e =
    let n = length-span cs at (size cs levels at) in
    let lower : size cs 8 at ≡ size cs 9 at = size_deep cs 8 at (omega arith) in
    let agree = span_agree cs es (size cs 9 at) at q (ap (span es q) (sym n) ∙ e) in
    size_same cs es 8 at q (λ j lt. agree j (omega arith)) ∙ lower ∙ sym n

module _ (cs : List Cell) (a : IntMap) (first end : ℕ) (flat : any_deep cs (class_key 0 first) (class_key 0 end) a.len a.base ≡ false) (k : ℕ) (l : first ≤ k) (h : k < end) where
  abbrev its : ℕ
  its = class_key 0 k

  pub flat_registers : Flat k (runs_at cs a)
  flat_registers run e = go (seek_found cs levels its a.len a.base) refl
    where
      go : (b : Bool) → seek_found cs levels its a.len a.base ≡ b → (es : List Cell) (p : ℕ) → Stands es p run → size es 8 p ≡ length run
      go true f es p st =
          let at = (seek_place cs levels its a.len a.base).at in
          let is : span cs at (size cs levels at) ≡ run = same (sym (seek_some cs levels its a.len a.base f) ∙ e) in
          subst (λ r. Stands es p r → size es 8 p ≡ length r) is (flat_run cs at (found_flat cs (class_key 0 first) (class_key 0 end) its a.len a.base (omega arith) (omega arith) flat f) es p) st
        where
          same : {x y : List Cell} → Some x ≡ Some y → x ≡ y
          same e = cc
      go false f es p st = absurd (none-some run (sym (seek_none cs levels its a.len a.base f) ∙ e))

-- ---- the record of a state's registers

column_depth_lem : (v : RegDataType) → column_depth (map_to_columntype v) ≡ register_depth v
unfolding register_depth column_depth
column_depth_lem (Column c) = refl
column_depth_lem (Int i) = refl

module _ (m : MemoryState) where
  abbrev depth_of : ℕ → ℕ
  depth_of k = column_depth (register_column (get k m.r))

  most_deep : (n k j d : ℕ) → ((i : ℕ) → k ≤ i → i < k + n → depth_of i ≤ d) → columns_depth (as_columns (numbered j (columns_from n k m))) ≤ d
  unfolding columns_from as_columns numbered columns_depth
  most_deep zero k j d h = omega arith
  most_deep (suc n) k j d h = omega (arith, h k (omega arith) (omega arith), most_deep n (suc k) (suc j) d (λ i l g. h i (omega arith) (omega arith)))

  some_deep : (n k j d i : ℕ) → k ≤ i → i < k + n → d < depth_of i → d < columns_depth (as_columns (numbered j (columns_from n k m)))
  unfolding columns_from as_columns numbered columns_depth
  some_deep zero k j d i l g h = absurd (omega arith)
  some_deep (suc n) k j d i l g h = go (eqb i k) refl (some_deep n (suc k) (suc j) d i)
    where
      go : (b : Bool) → eqb i k ≡ b → (suc k ≤ i → i < suc k + n → d < depth_of i → d < columns_depth (as_columns (numbered (suc j) (columns_from n (suc k) m)))) → d < columns_depth (as_columns (numbered j (columns_from (suc n) k m)))
      go true e rest =
          let same : d < depth_of k = subst (λ x. d < depth_of x) (eqb-true i k e) h in
          unfold columns_from as_columns numbered columns_depth in (omega (arith, same))
      go false e rest =
          let ne = eqb-false i k e in
          unfold columns_from as_columns numbered columns_depth in (omega (arith, rest (omega (arith, ne)) (omega arith) h))

-- ---- held cells

-- runs whose keys are not below `high` have nothing deep
none_deep : (cs : List Cell) (low high n at : ℕ) (rs : Runs) → Each (λ r. high ≤ key_run r) rs → entries cs levels n at ≡ rs → any_deep cs low high n at ≡ false
unfolding entries
none_deep cs low high zero at rs each e = unfold any_deep in refl
none_deep cs low high (suc n) at [] each e = absurd (omega (arith, ap length e))
none_deep cs low high (suc n) at (r ∷ rs) each e =
    let run : span cs at (size cs levels at) ≡ r = cc in
    let key = key-span cs at (size cs levels at) (size-pos cs levels at) in
    let k = ap key_run run in
    beyond cs low high n at (omega (arith, each.0, key, k))

each_map : {A : Type 0} (run : ℕ → A → List Cell) → ((key : ℕ) (v : A) → key_run (run key v) ≡ key) → (class high : ℕ) → high ≤ class_key class 0 → (es : List (Entry A)) → Each (λ r. high ≤ key_run r) (run_map run class es)
unfolding run_map
each_map run keyed class high h [] = tt
each_map run keyed class high h (e ∷ es) = (omega (arith, keyed (class_key class e.key) e.value), each_map run keyed class high h es)

-- a register of those that is deep
record DeepIn (first end low : ℕ) (es : List (Entry RegDataType)) : Type 0 where
  key : ℕ
  value : RegDataType
  found : get key es ≡ Some value
  above : first ≤ class_key 0 key
  below : class_key 0 key < end
  from : low ≤ key
  deep : 7 < register_depth value

module _ (cs : List Cell) (first end : ℕ) (rest : Runs) (others : Each (λ r. end ≤ key_run r) rest) where
  deep_register : (es : List (Entry RegDataType)) (low : ℕ) → Rising (λ k v. (k ≤ 65535) × GoodRegister v) low es → (n at : ℕ) → entries cs levels n at ≡ run_map run_register 0 es ++ rest → any_deep cs first end n at ≡ true → DeepIn first end low es
  unfolding entries run_map get
  deep_register [] low s n at e d = absurd (false≢true (sym (none_deep cs first end n at rest others e) ∙ d))
  deep_register (x ∷ es) low s zero at e d = absurd (false≢true (any_end cs first end 0 at (omega arith) ∙ d))
  deep_register (x ∷ es) low s (suc n) at e d =
      let run : span cs at (size cs levels at) ≡ run_register (class_key 0 x.key) x.value = cc in
      let tail : entries cs levels n (at + size cs levels at) ≡ run_map run_register 0 es ++ rest = cc in
      let key = key-span cs at (size cs levels at) (size-pos cs levels at) in
      let k = ap key_run run ∙ register_key (class_key 0 x.key) x.value in
      let long : length (run_register (class_key 0 x.key) x.value) ≡ size cs levels at = ap length (sym run) ∙ length-span cs at (size cs levels at) in
      let nests = register_nesting x.value cs at levels (class_key 0 x.key) (omega (arith, s.1.1.depth)) (ap (span cs at) long ∙ run) in
      let h = is_below cs first end n at d in
      go (deep_at cs first at) refl h.1 (omega (arith, key, k)) h.0 nests (deep_register es (suc x.key) s.2 n (at + size cs levels at) tail)
    where
      go : (b : Bool) → deep_at cs first at ≡ b → pick b true (any_deep cs first end n (at + size cs levels at)) ≡ true → key_of (get_or cs at blank) ≡ class_key 0 x.key → key_of (get_or cs at blank) < end → nesting cs levels at ≡ register_depth x.value
          → (any_deep cs first end n (at + size cs levels at) ≡ true → DeepIn first end (suc x.key) es) → DeepIn first end low (x ∷ es)
      go true f d key h nests more =
          let is = is_deep cs first at f in
          record {
            key = x.key;
            value = x.value;
            found = unfold get in (ap (λ b. get_if b x.value (get x.key es)) (eq-eqb x.key x.key refl));
            above = omega (arith, is.0);
            below = omega arith;
            from = s.0;
            deep = omega (arith, is.1);
          }
      go false f d key h nests more =
          let w = more d in
          record {
            key = w.key;
            value = w.value;
            found = unfold get in (ap (λ b. get_if b x.value (get w.key es)) (ne_eqb x.key w.key (omega (arith, w.from))) ∙ w.found);
            above = w.above;
            below = w.below;
            from = omega (arith, w.from, s.0);
            deep = w.deep;
          }

module _ (limit bound : ℕ) (cs : List Cell) (a : IntMap) (m : MemoryState) (holds : HoldsMap limit bound cs a m) (first n : ℕ) (within : first + n ≤ 65536) where
  pub held_deep : any_deep cs (class_key 0 first) (class_key 0 (first + n)) a.len a.base ≡ true → 7 < columns_depth (from_dense_record (columns_from n first m))
  held_deep d =
      let others = each_append (λ r. class_key 0 (first + n) ≤ key_run r) (run_map run_cursor 1 m.p) (run_map run_table 2 m.t) (each_map run_cursor cursor-key 1 (class_key 0 (first + n)) (omega arith) m.p) (each_map run_table table-key 2 (class_key 0 (first + n)) (omega arith) m.t) in
      let w = deep_register cs (class_key 0 first) (class_key 0 (first + n)) (run_map run_cursor 1 m.p ++ run_map run_table 2 m.t) others m.r 0 holds.good.registers a.len a.base (unfold runs_of in holds.runs) d in
      some_deep m n first 0 7 w.key (omega (arith, w.above)) (omega (arith, w.below)) (subst (λ o. 7 < column_depth (register_column o)) (sym w.found) (omega (arith, w.deep, column_depth_lem w.value)))

  -- no register of the range that is there nests more than seven deep
  pub held_shallow : ((i : ℕ) → first ≤ i → i < first + n → seek_found cs levels (class_key 0 i) a.len a.base ≡ true → nesting cs levels (seek_place cs levels (class_key 0 i) a.len a.base).at ≤ 7) → columns_depth (from_dense_record (columns_from n first m)) ≤ 7
  held_shallow flat = most_deep m n first 0 7 each
    where
      each : (i : ℕ) → first ≤ i → i < first + n → column_depth (register_column (get i m.r)) ≤ 7
      each i l g = go (seek_found cs levels (class_key 0 i) a.len a.base) refl
        where
          at : ℕ
          at = (seek_place cs levels (class_key 0 i) a.len a.base).at

          go : (b : Bool) → seek_found cs levels (class_key 0 i) a.len a.base ≡ b → column_depth (register_column (get i m.r)) ≤ 7
          go true f =
              let v = (told_register_at holds i (omega arith)).present _ (ap done (seek_some cs levels (class_key 0 i) a.len a.base f)) in
              let long : length (run_register (class_key 0 i) v.value) ≡ size cs levels at = ap length (sym v.is) ∙ length-span cs at (size cs levels at) in
              let nests = register_nesting v.value cs at levels (class_key 0 i) (omega (arith, v.has.0.depth)) (ap (span cs at) long ∙ v.is) in
              subst (λ o. column_depth (register_column o) ≤ 7) (sym (done-same v.answer)) (omega (arith, nests, flat i l g f, column_depth_lem v.value))
          go false f =
              let gone = (told_register_at holds i (omega arith)).absent (ap done (seek_none cs levels (class_key 0 i) a.len a.base f)) in
              subst (λ o. column_depth (register_column o) ≤ 7) (sym (done-same gone)) (unfold column_depth in (omega arith))

  pub held_flat : any_deep cs (class_key 0 first) (class_key 0 (first + n)) a.len a.base ≡ false → columns_depth (from_dense_record (columns_from n first m)) ≤ 7
  held_flat d = held_shallow (λ i l g f. found_flat cs (class_key 0 first) (class_key 0 (first + n)) (class_key 0 i) a.len a.base (omega arith) (omega arith) d f)
