-- A cell with an entry's key, in cells that hold a state, is the entry: what is read there is what `get` reads, and a store over it is the store of
-- its class and index. Assumes nothing.
use Rattle.std.proofs.lemmas.Option.{none-some, same_Some}
use Rattle.std.specs.Bool.{then_some}
use Rattle.std.specs.Prelude.{Ok, Err, Some, None, Option, Result}
use Rattle.std.specs.Result.{result_ok}
use mathlib.Core.Path.{◌≡◌, refl, sym, ap, ap₂, subst, ◌∙◌}
use mathlib.Core.Logic.{◌⊎◌, inl, inr}
use mathlib.Core.Bool.{Bool, true, false, ◌&&◌, true≢false}
use mathlib.Core.List.{List, [], ◌∷◌}
use Prim.Native.Nat.{ℕ, ◌+◌, ◌-◌, ◌<◌, ◌≤◌}
use native.Mathlib.Omega.{arith}
use native.Mathlib.Decide.{ℕ_discrete}
use lib.Dec.{eqb, leb, ltb}
use lib.ListN.{length, get_or, set, length-set}
use lib.Seq.{get_or-set_other}
use borrow.Author.Tests.{ltb-true, ltb-false, lt-ltb, le-ltb, eqb-true, eq-eqb, ne_eqb, leb-true, leb-false, le-leb, lt-leb}
use Rattle.model.specs.Walk.{Tried, refused, done}
use Rattle.model.specs.State.{MemoryState}
use Rattle.area.specs.Cells.{blank}
use Rattle.area.specs.declared.Cell.{Cell}
use Rattle.intmap.specs.Find.{place, has_entry, seek_place, seek_found, Sought, seek}
use Rattle.intmap.specs.Runs.{size, sizes}
use Rattle.intmap.specs.Get.{index_of, Judges, Gets, Index}
use Rattle.intmap.specs.Map.{levels, IsMap, HasRoom, Frame}
use Rattle.intmap.specs.Pack.{tag_of, key_of, with_key, class_key}
use Rattle.intmap.specs.Pick.{pick}
use Rattle.intmap.specs.Store.{NewAt, Stores, Stored}
use Rattle.intmap.specs.declared.Place.{Place}
use Rattle.intmap.specs.declared.IntMap.{IntMap}
use Rattle.intmap.proofs.FindLaws.{answered_err, answered_ok, answers_end, answers_found, answers_none, found_within, seek_behind, seek_beyond, seek_key, seek_last, seek_mono, seek_stop, seek_whole}
use Rattle.intmap.proofs.RunLaws.{size-pos, size_record}
use Rattle.intmap.proofs.GetLaws.{get_absent, get_at}
use Rattle.intmap.proofs.JudgedLaws.{store_tried}
use Rattle.intmap.proofs.Overwritten.{alike, alike_room, overwritten}
use Rattle.intmap.proofs.PackLaws.{keyed_tag, keyed_key}
use Rattle.intmap.proofs.EntryLaws.{entries_few}
use Rattle.encoding.proofs.Places.{held_place}
use Rattle.state.specs.Leads.{HoldsMap, Leaves, Held, Leads}
use Rattle.state.specs.Own.{found_slot, entry_slot, is_at, is_flat, HeldAmong, KeyAt, Guesses, FlatSize, Reaches, EntryBelow, Belongs, Locates, HasKey, Own, PutsPlain, OverwritesOwn, StoresCell, WritesNear, LeadsNear, GetsNear, EntryNear, Overwrites, index_slot}
use Rattle.state.proofs.StoreLeads.{wider}
use Rattle.refusal.specs.Numbers.{number_of}
use Rattle.model.specs.Access.{index}
use Rattle.intmap.specs.Signed.{int_of}
use Rattle.refusal.specs.declared.Refusal.{Refusal}

-- what the tests of a cell tell
module _ (cs : List Cell) (end key p : ℕ) where
  pub tests_key : p < end → (c : Cell) → c ≡ get_or cs p blank → (r : Bool) → r ≡ eqb (key_of c) key → r ≡ is_at cs end key p
  unfolding is_at
  tests_key lt c ce r re = re ∙ ap (λ x. eqb (key_of x) key) ce ∙ ap (λ b. b && eqb (key_of (get_or cs p blank)) key) (sym (lt-ltb p end lt))

  pub tests_end : end ≤ p → ltb p end ≡ is_at cs end key p
  unfolding is_at
  tests_end le = le-ltb p end le ∙ ap (λ b. b && eqb (key_of (get_or cs p blank)) key) (sym (le-ltb p end le))

  pub told_key : is_at cs end key p ≡ true → (p < end) × (key_of (get_or cs p blank) ≡ key)
  unfolding is_at
  told_key e = go (ltb p end) refl e
    where
      go : (b : Bool) → ltb p end ≡ b → b && eqb (key_of (get_or cs p blank)) key ≡ true → (p < end) × (key_of (get_or cs p blank) ≡ key)
      go true l t = (ltb-true p end l, eqb-true (key_of (get_or cs p blank)) key t)
      go false l t = absurd (true≢false (sym t))

  -- a place that passed them is a guess
  pub key_told : (base : ℕ) → base ≤ p → is_at cs end key p ≡ true → KeyAt cs base end key p
  key_told base low e = record { low = low; inside = (told_key e).0; is = (told_key e).1 }

pub guess_at : {cs : List Cell} {base end key p : ℕ} → KeyAt cs base end key p → Guesses cs base end key (Some p)
guess_at {cs} {base} {end} {key} {p} k = record { is = λ q e. subst (KeyAt cs base end key) (same_Some p q e) k }

-- a result that has a value
pub was_ok : {A E : Type 0} {x : Result A E} {v : A} → result_ok x ≡ Some v → x ≡ Ok v
was_ok {x = Ok w} {v} e = ap Ok (same_Some w v e)
was_ok {x = Err k} {v} e = absurd (none-some v e)

-- a value where a test holds
pub then_some_by : {A : Type 0} (P : Option A → Type 0) (b : Bool) {x : A} → (b ≡ true → P (Some x)) → (b ≡ false → P None) → P (then_some b x)
then_some_by P true some none = some refl
then_some_by P false some none = none refl

pub guessed : (cs : List Cell) (end key p base : ℕ) → base ≤ p → is_at cs end key p ≡ true → Guesses cs base end key (Some p)
guessed cs end key p base low e = guess_at (key_told cs end key p base low e)

pub guessed_if : (cs : List Cell) (end key p base : ℕ) (b : Bool) → base ≤ p → b ≡ is_at cs end key p → Guesses cs base end key (then_some b p)
guessed_if cs end key p base b low is =
    then_some_by (Guesses cs base end key) b (λ t. guessed cs end key p base low (sym is ∙ t)) (λ f. record { is = λ q e. absurd (none-some q e) })

pub has_key : (cs : List Cell) (a : IntMap) (key p : ℕ) → a.base ≤ p → is_at cs (a.base + a.used) key p ≡ true → HasKey cs a key p
has_key cs a key p low e = record { low = low; inside = (told_key cs (a.base + a.used) key p e).0; is = (told_key cs (a.base + a.used) key p e).1 }

pub held-among : {cs : List Cell} {a : IntMap} → Held cs a → HeldAmong cs a.base (a.base + a.used)
held-among {a = a} held = record { map = a; held = held; first = refl; ordered = omega arith; last = omega arith }

-- ---- entries in the order of their keys

-- an entry has at least as many cells
flat_least : (cs : List Cell) (p n : ℕ) → FlatSize (get_or cs p blank) n → n ≤ size cs levels p
flat_least cs p n flat = go (ℕ_discrete (tag_of (get_or cs p blank)) 2)
  where
    go : Dec (tag_of (get_or cs p blank) ≡ 2) → n ≤ size cs levels p
    go (yes t) = omega (arith, flat.most.0 t, size_record cs 9 p (get_or cs p blank) refl (omega arith) t, entries_few cs 8 (get_or cs p blank).payload (p + 1))
    go (no t) = omega (arith, flat.most.1 t, size-pos cs levels p)

module _ {cs : List Cell} {base end : ℕ} (h : HeldAmong cs base end) where
  pub among_inside : (end ≤ length cs) × (length cs ≤ 1048576)
  among_inside = (omega (arith, h.last, h.held.map.inside), h.held.map.small)

  abbrev sought : ℕ → Place
  sought p = seek_place cs levels (key_of (get_or cs p blank)) h.map.len h.map.base

  at_place : (p : ℕ) → base ≤ p → p < end → 65536 ≤ key_of (get_or cs p blank) → ((sought p).at ≡ p) × (has_entry cs (key_of (get_or cs p blank)) (sought p) ≡ true)
  at_place p from to outer = held_place h.held.holds p (omega (arith, h.first, from)) (omega (arith, h.last, to)) outer

  -- an entry of a higher key is beyond the other
  above : (q p : ℕ) → base ≤ q → q < end → base ≤ p → p < end → 65536 ≤ key_of (get_or cs q blank) → key_of (get_or cs q blank) < key_of (get_or cs p blank) → q + size cs levels q ≤ p
  above q p q-from q-to p-from p-to outer less =
      let at-q = at_place q q-from q-to outer in
      let at_p = at_place p p-from p-to (omega (arith, outer, less)) in
      let behind = ap (λ z. z + size cs levels z) at-q.0 in
      omega (arith, behind, at_p.0, seek_beyond cs levels (key_of (get_or cs q blank)) (key_of (get_or cs p blank)) less h.map.len h.map.base at-q.1)

  -- one that is behind another has a higher key, and is beyond it
  module _ (q p : ℕ) (from : base ≤ q) (less : q < p) (to : p < end) (outer-q : 65536 ≤ key_of (get_or cs q blank)) (outer-p : 65536 ≤ key_of (get_or cs p blank)) where
    pub higher : key_of (get_or cs q blank) < key_of (get_or cs p blank)
    higher = go (ltb (key_of (get_or cs q blank)) (key_of (get_or cs p blank))) (ltb (key_of (get_or cs p blank)) (key_of (get_or cs q blank))) refl refl
      where
        go : (s t : Bool) → ltb (key_of (get_or cs q blank)) (key_of (get_or cs p blank)) ≡ s → ltb (key_of (get_or cs p blank)) (key_of (get_or cs q blank)) ≡ t → key_of (get_or cs q blank) < key_of (get_or cs p blank)
        go true t e f = ltb-true (key_of (get_or cs q blank)) (key_of (get_or cs p blank)) e
        go false true e f = absurd (omega (arith, less, size-pos cs levels p, above p q (omega (arith, from, less)) to from (omega (arith, less, to)) outer-p (ltb-true (key_of (get_or cs p blank)) (key_of (get_or cs q blank)) f)))
        go false false e f =
            let same : key_of (get_or cs q blank) ≡ key_of (get_or cs p blank) = omega (arith, ltb-false (key_of (get_or cs q blank)) (key_of (get_or cs p blank)) e, ltb-false (key_of (get_or cs p blank)) (key_of (get_or cs q blank)) f) in
            let places = ap (λ k. (seek_place cs levels k h.map.len h.map.base).at) same in
            absurd (omega (arith, less, places, (at_place q from (omega (arith, less, to)) outer-q).0, (at_place p (omega (arith, from, less)) to outer-p).0))

    pub beyond : q + size cs levels q ≤ p
    beyond = above q p from (omega (arith, less, to)) (omega (arith, from, less)) to outer-q higher

  -- none begins within the cells that an entry has at least
  pub reached : (p at n : ℕ) → base ≤ p → at < end → 65536 ≤ key_of (get_or cs p blank) → FlatSize (get_or cs p blank) n → at < p + n → (q : ℕ) → p < q → q ≤ at → key_of (get_or cs q blank) < 65536
  reached p at n from to outer flat reaches q gt le = go (ltb (key_of (get_or cs q blank)) 65536) refl
    where
      go : (b : Bool) → ltb (key_of (get_or cs q blank)) 65536 ≡ b → key_of (get_or cs q blank) < 65536
      go true e = ltb-true (key_of (get_or cs q blank)) 65536 e
      go false e = absurd (omega (arith, reaches, le, flat_least cs p n flat, beyond p q from gt (omega (arith, le, to)) outer (ltb-false (key_of (get_or cs q blank)) 65536 e)))

  -- where the last entry from `low` to `at` is below a key, all to `at` are that are before `low`
  pub lower : (low at p key : ℕ) → base ≤ low → at < end → EntryBelow cs low at p → key_of (get_or cs p blank) < key
      → ((q : ℕ) → base ≤ q → q < low → 65536 ≤ key_of (get_or cs q blank) → key_of (get_or cs q blank) < key)
      → (q : ℕ) → base ≤ q → q ≤ at → 65536 ≤ key_of (get_or cs q blank) → key_of (get_or cs q blank) < key
  lower low at p key from to b less before q ge le outer = go (ltb q p) (ltb p q) (ltb low p) refl refl refl
    where
      go : (s t u : Bool) → ltb q p ≡ s → ltb p q ≡ t → ltb low p ≡ u → key_of (get_or cs q blank) < key
      go true t true e f g = omega (arith, less, higher q p ge (ltb-true q p e) (omega (arith, b.high, to)) outer (b.begins (ltb-true low p g)))
      go true t false e f g = before q ge (omega (arith, ltb-true q p e, ltb-false low p g)) outer
      go false true u e f g = absurd (omega (arith, outer, b.last q (ltb-true p q f) le))
      go false false u e f g = subst (λ z. key_of (get_or cs z blank) < key) (omega (arith, ltb-false q p e, ltb-false p q f)) less

-- no entry begins from p to `at`
pub record NoneFrom (cs : List Cell) (p at : ℕ) : Type 0 where
  pub none : (q : ℕ) → p ≤ q → q ≤ at → key_of (get_or cs q blank) < 65536

-- of a head that reaches to `at` and `low` the one behind
pub below_at : {cs : List Cell} {low at p r : ℕ} → low ≤ r → r ≤ at → p ≤ r → (low < r → p ≡ r) → (65536 ≤ key_of (get_or cs p blank)) × ((q : ℕ) → p < q → q ≤ at → key_of (get_or cs q blank) < 65536) → EntryBelow cs low at r
below_at {cs = cs} low high up same it = record { low = low; high = high; begins = λ lt. subst (λ q. 65536 ≤ key_of (get_or cs q blank)) (same lt) it.0; last = λ q gt to. it.1 q (omega (arith, gt, up)) to }

-- `low` is that place where nothing begins behind it
pub below_none : {cs : List Cell} {low at : ℕ} (p : ℕ) → low ≤ at → p ≤ low → ((q : ℕ) → p < q → q ≤ at → key_of (get_or cs q blank) < 65536) → EntryBelow cs low at low
below_none {low = low} p ordered le last = record { low = omega arith; high = ordered; begins = λ lt. absurd (omega (arith, lt)); last = λ q lt to. last q (omega (arith, le, lt)) to }

pub below_last : {cs : List Cell} {low at p : ℕ} → low ≤ at → p ≤ low → NoneFrom cs p at → EntryBelow cs low at low
below_last {p = p} ordered le n = below_none p ordered le (λ q lt to. n.none q (omega (arith, lt)) to)

-- a head reaches to `at`
pub reached_to : {cs : List Cell} {base at p : ℕ} → HeldAmong cs base (at + 1) → base ≤ p → p ≤ at → (c : Cell) → c ≡ get_or cs p blank → Reaches c (at - p) → (65536 ≤ key_of (get_or cs p blank)) × ((q : ℕ) → p < q → q ≤ at → key_of (get_or cs q blank) < 65536)
reached_to {cs} {base} {at} {p} h from le c ce it =
    let outer = subst (λ y. 65536 ≤ key_of y) ce it.begins in
    (outer, reached h p at it.size from (omega arith) outer (subst (λ y. FlatSize y it.size) ce it.flat) (omega (arith, le, it.more)))

-- an entry with the key is where it belongs
pub belongs_there : {cs : List Cell} {base end key p : ℕ} → HeldAmong cs base end → 65536 ≤ key → base ≤ p → p < end → (c : Cell) → c ≡ get_or cs p blank → (k : ℕ) → k ≡ key_of c → k ≡ key → Belongs cs base end key p
belongs_there {cs} {base} {end} {key} {p} h big low lt c ce k ke is =
    let same : key_of (get_or cs p blank) ≡ key = ap key_of (sym ce) ∙ sym ke ∙ is in
    record {
      low = low;
      high = omega (arith, lt);
      before = λ q from less outer. subst (λ n. key_of (get_or cs q blank) < n) same (higher h q p from less lt outer (omega (arith, big, same)));
      after = λ _. omega (arith, same);
    }

-- the place where a key belongs is where a search for it ends
module _ {cs : List Cell} {a : IntMap} (held : Held cs a) {key p : ℕ} (big : 65536 ≤ key) (b : Belongs cs a.base (a.base + a.used) key p) where
  abbrev w : Place
  w = seek_place cs levels key a.len a.base

  within : (a.base ≤ w.at) × (w.at ≤ a.base + sizes (size cs levels) a.len a.base)
  within = found_within cs levels key a.len a.base w refl

  not_before : w.at < p → ⊥
  not_before lt =
      let stop = seek_stop cs levels key a.len a.base (omega (arith, lt, b.high, held.map.used)) in
      omega (arith, stop, b.before w.at within.0 lt (omega (arith, big, stop)))

  not_behind : p < w.at → ⊥
  not_behind lt =
      let inside : p < a.base + a.used = omega (arith, lt, within.1, held.map.used) in
      let there = held_place held.holds p b.low inside (omega (arith, big, b.after inside)) in
      omega (arith, lt, there.0, seek_mono cs levels key (key_of (get_or cs p blank)) (b.after inside) a.len a.base)

  pub belongs_at : w.at ≡ p
  belongs_at = go (ltb w.at p) (ltb p w.at) refl refl
    where
      go : (s t : Bool) → ltb w.at p ≡ s → ltb p w.at ≡ t → w.at ≡ p
      go true t e f = absurd (not_before (ltb-true w.at p e))
      go false true e f = absurd (not_behind (ltb-true p w.at f))
      go false false e f = omega (arith, ltb-false w.at p e, ltb-false p w.at f)

  -- the key is new, if it is not there
  pub belongs_new : is_at cs (a.base + a.used) key p ≡ false → NewAt cs a key p
  unfolding is_at
  belongs_new absent = record { left = w.left; is = ap (λ z. Err (place z w.left)) (sym belongs_at) ∙ answers_none cs levels key a.len a.base (go (has_entry cs key w) refl) }
    where
      go : (t : Bool) → has_entry cs key w ≡ t → t ≡ false
      go false e = refl
      go true e =
          let whole = seek_whole cs levels key a.len a.base e in
          let is = seek_key cs levels key a.len a.base e in
          absurd (true≢false (sym (ap₂ (λ s t. s && t) (lt-ltb p (a.base + a.used) (omega (arith, belongs_at, whole, size-pos cs levels w.at, held.map.used))) (eq-eqb (key_of (get_or cs p blank)) key (sym (ap (λ z. key_of (get_or cs z blank)) belongs_at) ∙ is))) ∙ absent))

  pub belongs_last : p ≡ a.base + a.used → Err (place (a.base + a.used) 0) ≡ seek cs levels key a.len a.base
  belongs_last e =
      let last : a.base + a.used ≡ a.base + sizes (size cs levels) a.len a.base = omega (arith, held.map.used) in
      answers_end cs levels key a.len a.base _ (ap (λ z. place z 0) last ∙ sym (seek_behind cs levels key a.len a.base (seek_last cs levels key a.len a.base (belongs_at ∙ e ∙ last)))) refl

-- where a key was located
pub guess_locates : {cs : List Cell} {base end key p : ℕ} {r : Option ℕ} → Guesses cs base end key r → r ≡ Some p → Locates cs base end key (Ok p)
guess_locates {cs} {base} {end} {key} {p} g e = record { is = λ q f. subst (KeyAt cs base end key) (same_place f) (g.is p e); new = λ q f. absurd (cc f) }
  where
    same_place : {q : ℕ} → ◌≡◌ {A = Result ℕ ℕ} (Ok p) (Ok q) → p ≡ q
    same_place f = cc

pub located_here : {cs : List Cell} {base end key p : ℕ} → base ≤ p → is_at cs end key p ≡ true → Locates cs base end key (Ok p)
located_here {cs} {base} {end} {key} {p} low e = guess_locates (guess_at (key_told cs end key p base low e)) refl

pub located_key : {cs : List Cell} {a : IntMap} {key p : ℕ} {r : Result ℕ ℕ} → Locates cs a.base (a.base + a.used) key r → r ≡ Ok p → HasKey cs a key p
located_key {p = p} l e = let k = l.is p e in record { low = k.low; inside = k.inside; is = k.is }

pub located_nowhere : {cs : List Cell} {a : IntMap} {key p : ℕ} {r : Result ℕ ℕ} → Held cs a → 65536 ≤ key → Locates cs a.base (a.base + a.used) key r → r ≡ Err p → NewAt cs a key p
located_nowhere {p = p} held big l e = belongs_new held big (l.new p e).0 (l.new p e).1

module _ (cs : List Cell) (a : IntMap) (at n : ℕ) where
  pub flat_not : a.base + a.used ≤ at + n → false ≡ is_flat cs a at n
  unfolding is_flat
  flat_not h = rw (le-leb (a.base + a.used) (at + n) h) refl

  module _ (h : at + n < a.base + a.used) where
    pub flat_end : at + 1 + n ≡ a.base + a.used → true ≡ is_flat cs a at n
    unfolding is_flat
    flat_end e = rw (lt-leb (a.base + a.used) (at + n) h, eq-eqb (at + 1 + n) (a.base + a.used) e) refl

    pub flat_by : (at + 1 + n ≡ a.base + a.used → ⊥) → (c : Cell) → c ≡ get_or cs (at + 1 + n) blank → (r : Bool) → r ≡ leb 65536 (key_of c) → r ≡ is_flat cs a at n
    unfolding is_flat
    flat_by ne c ce r re = re ∙ ap (λ y. leb 65536 (key_of y)) ce ∙ rw (lt-leb (a.base + a.used) (at + n) h, ne_eqb (at + 1 + n) (a.base + a.used) ne) refl

  pub flat_told : is_flat cs a at n ≡ true → (at + n < a.base + a.used) × ((at + 1 + n ≡ a.base + a.used) ⊎ (65536 ≤ key_of (get_or cs (at + 1 + n) blank)))
  unfolding is_flat
  flat_told e = go (leb (a.base + a.used) (at + n)) refl e
    where
      by : (b : Bool) → eqb (at + 1 + n) (a.base + a.used) ≡ b → pick b true (leb 65536 (key_of (get_or cs (at + 1 + n) blank))) ≡ true → (at + 1 + n ≡ a.base + a.used) ⊎ (65536 ≤ key_of (get_or cs (at + 1 + n) blank))
      by true q t = inl (eqb-true (at + 1 + n) (a.base + a.used) q)
      by false q t = inr (leb-true 65536 (key_of (get_or cs (at + 1 + n) blank)) t)

      go : (b : Bool) → leb (a.base + a.used) (at + n) ≡ b → pick b false (pick (eqb (at + 1 + n) (a.base + a.used)) true (leb 65536 (key_of (get_or cs (at + 1 + n) blank)))) ≡ true → (at + n < a.base + a.used) × ((at + 1 + n ≡ a.base + a.used) ⊎ (65536 ≤ key_of (get_or cs (at + 1 + n) blank)))
      go true q t = absurd (true≢false (sym t))
      go false q t = (leb-false (a.base + a.used) (at + n) q, by (eqb (at + 1 + n) (a.base + a.used)) refl t)

-- ---- an entry that a search finds

pub entry_there : (cs : List Cell) (a : IntMap) (class k key : ℕ) → key ≡ class_key class k → {w : Place} → Ok w ≡ seek cs levels key a.len a.base → Some w.at ≡ entry_slot cs a class k
unfolding entry_slot
entry_there cs a class k key ke e = ap found_slot e ∙ ap (λ n. found_slot (seek cs levels n a.len a.base)) ke

-- one that was found at once
pub entry_hinted : (cs : List Cell) (a : IntMap) (class k key : ℕ) → key ≡ class_key class k → Held cs a → (p : ℕ) → HasKey cs a key p → Some p ≡ entry_slot cs a class k
unfolding entry_slot
entry_hinted cs a class k key ke held p has =
    let w = held_place held.holds p has.low has.inside (omega (arith, has.is, ke)) in
    let same : key_of (get_or cs p blank) ≡ class_key class k = has.is ∙ ke in
    ap Some (sym w.0) ∙ ap found_slot (answers_found cs levels (key_of (get_or cs p blank)) a.len a.base w.1) ∙ ap (λ n. found_slot (seek cs levels n a.len a.base)) same

-- and none where its key belongs
pub entry_none : (cs : List Cell) (a : IntMap) (class k key : ℕ) → key ≡ class_key class k → {p : ℕ} → NewAt cs a key p → None ≡ entry_slot cs a class k
unfolding entry_slot
entry_none cs a class k key ke new = ap found_slot new.is ∙ ap (λ n. found_slot (seek cs levels n a.len a.base)) ke

-- and one that was located, or is nowhere
pub located_entry : {cs : List Cell} {a : IntMap} (class k : ℕ) {key : ℕ} → key ≡ class_key class k → Held cs a → 65536 ≤ key → {r : Result ℕ ℕ} → Locates cs a.base (a.base + a.used) key r → result_ok r ≡ entry_slot cs a class k
located_entry {cs} {a} class k {key} ke held big {r = Ok p} l = entry_hinted cs a class k key ke held p (located_key l refl)
located_entry {cs} {a} class k {key} ke held big {r = Err p} l = entry_none cs a class k key ke (located_nowhere held big l refl)

-- which of a slot's cases it is, as a number
abbrev pub case : Option ℕ → ℕ
case None = 1
case (Some p) = 2

-- what an entry that is there says of the search
pub entry_led : (cs : List Cell) (a : IntMap) (class k p : ℕ) → entry_slot cs a class k ≡ Some p → (seek_found cs levels (class_key class k) a.len a.base ≡ true) × ((seek_place cs levels (class_key class k) a.len a.base).at ≡ p)
unfolding entry_slot
entry_led cs a class k p e = go (seek cs levels (class_key class k) a.len a.base) refl e
  where
    go : (s : Sought) → s ≡ seek cs levels (class_key class k) a.len a.base → found_slot s ≡ Some p → (seek_found cs levels (class_key class k) a.len a.base ≡ true) × ((seek_place cs levels (class_key class k) a.len a.base).at ≡ p)
    go (Ok w) h f = let t = answered_ok cs levels (class_key class k) a.len a.base w h in (t.1, ap (λ (x : Place). x.at) (sym t.0) ∙ cc)
    go (Err w) h f = absurd (omega (arith, ap case f))

-- by its index
module _ (cs : List Cell) (a : IntMap) (class i : ℕ) (x : Index) (judged : Judges i x) where
  pub judged_bad : (n : Refusal) → x ≡ Err n → refused (number_of n) ≡ index_slot cs a class (index (int_of i))
  unfolding index_slot
  judged_bad n e = ap (index_slot cs a class) (subst (λ y. index_of y ≡ index (int_of i)) e judged.answer)

  pub judged_at : (k : ℕ) → x ≡ Ok k → (s : Option ℕ) → s ≡ entry_slot cs a class k → done s ≡ index_slot cs a class (index (int_of i))
  unfolding index_slot
  judged_at k e s is = ap done is ∙ ap (index_slot cs a class) (subst (λ y. index_of y ≡ index (int_of i)) e judged.answer)

pub entry_gets : (cs : List Cell) (a : IntMap) (class i k : ℕ) (x : Index) → Judges i x → IsMap cs a → x ≡ Ok k → (r : Option ℕ) → r ≡ entry_slot cs a class k → Gets cs a class i (Ok r)
unfolding entry_slot
entry_gets cs a class i k x judges is xe r re = subst (λ o. Gets cs a class i (Ok o)) (sym re) (go (seek cs levels (class_key class k) a.len a.base) refl)
  where
    go : (s : Sought) → s ≡ seek cs levels (class_key class k) a.len a.base → Gets cs a class i (Ok (found_slot s))
    go (Ok w) e = get_at cs a class i x judges.answer is k xe e
    go (Err w) e = get_absent cs a class i x judges.answer is k xe e

module _ {cs : List Cell} {a : IntMap} {class i p : ℕ} (own : Own cs a class i p) where
  abbrev key : ℕ
  key = class_key class own.place

  module _ {limit bound : ℕ} {m : MemoryState} (h : HoldsMap limit bound cs a m) where
    found : ((seek_place cs levels key a.len a.base).at ≡ p) × (seek_found cs levels key a.len a.base ≡ true)
    found =
        let w = held_place h p own.has.low own.has.inside (omega (arith, own.has.is)) in
        (ap (λ k. (seek_place cs levels k a.len a.base).at) (sym own.has.is) ∙ w.0, ap (λ k. seek_found cs levels k a.len a.base) (sym own.has.is) ∙ w.1)

  -- the cell c with the key, written over it
  module _ (limit : ℕ) (c x : Cell) (has : HasRoom cs limit a) (plain : tag_of c ≡ 2 → ⊥) (xe : x ≡ with_key key c) (ds : List Cell) (e : ds ≡ set cs p x) where
    new : tag_of x ≡ 2 → ⊥
    new t = plain (sym (keyed_tag key c) ∙ ap tag_of (sym xe) ∙ t)

    same_key : key_of x ≡ key
    same_key = ap key_of xe ∙ keyed_key key c

    frame : Frame cs ds a.base limit
    frame =
        record {
          long = ap length e ∙ length-set cs p x;
          below = λ j lt. ap (λ l. get_or l j blank) e ∙ get_or-set_other cs p j x blank (omega (arith, own.has.low));
          above = λ j le. ap (λ l. get_or l j blank) e ∙ get_or-set_other cs p j x blank (omega (arith, own.has.inside, has.most));
        }

    pub own_stored : StoresCell limit cs ds a class i c (Ok a)
    own_stored =
        record {
          says = λ bound m h.
              store_tried cs ds limit a class i 0 (c ∷ []) (Ok own.place) (sym own.judged) own.place refl key (x ∷ []) (Ok a) (omega arith) refl (ap (λ y. y ∷ []) xe)
              (overwritten cs ds limit a key p x has own.plain new same_key _ (answers_found cs levels key a.len a.base (found h).1) (found h).0 e);
          leaves = record { base = refl; room = alike_room (alike cs ds p x e (omega (arith, own.has.inside, has.most, has.room)) own.plain new (same_key ∙ sym own.has.is)) has };
          frame = frame;
        }

-- at a place that was asked for
abbrev answer : ℕ → Tried ℕ → ℕ
answer k (refused n) = k
answer k (done j) = j

pub overwrites_bad : {cs : List Cell} {a : IntMap} {p i : ℕ} (c : Cell) → (Own cs a 0 i p → ⊥) → Overwrites cs cs a p i c false
overwrites_bad c none = record { own = λ own. absurd (none own); inside = λ e. absurd (true≢false (sym e)); yes = λ e. absurd (true≢false (sym e)); no = λ e. refl }

pub overwrites_none : {cs : List Cell} {a : IntMap} {class i : ℕ} (c : Cell) → ((p : ℕ) → Own cs a class i p → ⊥) → OverwritesOwn cs cs a class i c false
overwrites_none c none = record { yes = λ e. absurd (true≢false (sym e)); none = λ e. none; no = λ e. refl }

pub other_own : {cs : List Cell} {a : IntMap} {class i k key p : ℕ} {x : Index} {r : Bool} → Judges i x → x ≡ Ok k → key ≡ class_key class k → r ≡ is_at cs (a.base + a.used) key p → r ≡ false → Own cs a class i p → ⊥
unfolding is_at
other_own {cs} {a} {class} {i} {k} {key} {p} judges e ke re rf own =
    let place_is : own.place ≡ k = ap (answer k) (sym own.judged ∙ sym judges.answer ∙ ap index_of e) in
    let key_is : key_of (get_or cs p blank) ≡ key = own.has.is ∙ ap (class_key class) place_is ∙ sym ke in
    true≢false (sym (ap₂ (λ s t. s && t) (lt-ltb p (a.base + a.used) own.has.inside) (eq-eqb (key_of (get_or cs p blank)) key key_is)) ∙ sym re ∙ rf)

-- a good index
module _ {cs : List Cell} {a : IntMap} {class i k key : ℕ} {x : Index} (judges : Judges i x) (xe : x ≡ Ok k) (ke : key ≡ class_key class k) where
  its_key : {q : ℕ} → (own : Own cs a class i q) → class_key class own.place ≡ key
  its_key own = ap (class_key class) (ap (answer k) (sym own.judged ∙ sym judges.answer ∙ ap index_of xe)) ∙ sym ke

  -- has no own cell, if its key is new
  pub new_own : Held cs a → {p : ℕ} → NewAt cs a key p → (q : ℕ) → Own cs a class i q → ⊥
  new_own held new q own = true≢false (sym (found own held.holds).1 ∙ ap (λ n. seek_found cs levels n a.len a.base) (its_key own) ∙ (answered_err _ _ _ _ _ _ new.is).1)

  -- c was written over the cell that has its key, or that is a record's
  module _ {ds : List Cell} {p : ℕ} {c : Cell} {r : Bool} (has : HasKey cs a key p) (plain : tag_of c ≡ 2 → ⊥) (o : PutsPlain cs ds p key c r) where
    its_own : r ≡ true → Own cs a class i p
    its_own e = record { place = k; judged = sym judges.answer ∙ ap index_of xe; has = record { low = has.low; inside = has.inside; is = has.is ∙ ke }; plain = (o.yes e).0 }

    not_own : r ≡ false → Own cs a class i p → ⊥
    not_own e own = own.plain (o.no e).0

    pub put_stored : r ≡ true → (limit : ℕ) → HasRoom cs limit a → StoresCell limit cs ds a class i c (Ok a)
    put_stored e limit room =
        let own = its_own e in
        own_stored own limit c (with_key key c) room plain (ap (λ n. with_key n c) (sym (its_key own))) ds (o.yes e).1

    pub overwrites_own : Held cs a → OverwritesOwn cs ds a class i c r
    overwrites_own held = record { yes = put_stored; none = λ e q own. not_own e (subst (Own cs a class i) (same q own) own); no = λ e. (o.no e).1 }
      where
        same : (q : ℕ) → Own cs a class i q → q ≡ p
        same q own =
            let there = held_place held.holds p has.low has.inside (omega (arith, has.is, ke)) in
            sym (found own held.holds).0 ∙ ap (λ n. (seek_place cs levels n a.len a.base).at) (its_key own ∙ sym has.is) ∙ there.0

    pub its_overwritten : (r ≡ true → p < a.base + a.used) × (Own cs a class i p → r ≡ true)
    its_overwritten = (λ e. has.inside, λ own. go r refl own)
      where
        go : (b : Bool) → r ≡ b → Own cs a class i p → r ≡ true
        go true e own = e
        go false e own = absurd (not_own e own)

-- of a register
pub overwrites_at : {cs ds : List Cell} {a : IntMap} {i k key p : ℕ} {x : Index} {c : Cell} {r : Bool} → Judges i x → x ≡ Ok k → key ≡ class_key 0 k → HasKey cs a key p → (tag_of c ≡ 2 → ⊥) → PutsPlain cs ds p key c r → Overwrites cs ds a p i c r
overwrites_at judges xe ke has plain o =
    let it = its_overwritten judges xe ke has plain o in
    record { own = it.1; inside = it.0; yes = put_stored judges xe ke has plain o; no = λ e. (o.no e).1 }

pub near_written : {cs ds : List Cell} {base end i k key p : ℕ} {x : Index} {c : Cell} {r : Bool} → Judges i x → x ≡ Ok k → key ≡ class_key 0 k → {g : Option ℕ} → Guesses cs base end key g → g ≡ Some p → (tag_of c ≡ 2 → ⊥) → PutsPlain cs ds p key c r → WritesNear cs ds base end i c r
near_written {p = p} judges xe ke guess e plain o =
    let k = guess.is p e in
    record {
      yes = λ f a first last limit room. put_stored judges xe ke (record { low = omega (arith, first, k.low); inside = omega (arith, last, k.inside); is = k.is }) plain o f limit room;
      no = λ f. (o.no f).1;
    }

-- another write, where nothing has changed
pub near_again : {cs es ds : List Cell} {base end i : ℕ} {c : Cell} {r s : Bool} → WritesNear cs es base end i c r → r ≡ false → WritesNear es ds base end i c s → WritesNear cs ds base end i c s
near_again {ds = ds} {base} {end} {i} {c} {s = s} w e v = subst (λ l. WritesNear l ds base end i c s) (w.no e) v

-- register i's entry is where its key was guessed
pub gets_near : {cs : List Cell} {base end i k key : ℕ} {x : Index} {r : Option ℕ} → Judges i x → x ≡ Ok k → key ≡ class_key 0 k → Guesses cs base end key r → GetsNear cs base end i r
gets_near {cs} {i = i} {k} {key} {x} judges xe ke g =
    record {
      inside = λ p e. (g.is p e).inside;
      is = λ p e a first last held.
          (let at = g.is p e in
          entry_gets cs a 0 i k x judges held.map xe (Some p)
          (entry_hinted cs a 0 k key ke held p (record { low = omega (arith, first, at.low); inside = omega (arith, last, at.inside); is = at.is })));
    }

pub entry_near : {cs : List Cell} {base end class k key : ℕ} {r : Option ℕ} → key ≡ class_key class k → Guesses cs base end key r → EntryNear cs base end class k r
entry_near {cs} {class = class} {k} {key} ke g =
    record {
      low = λ p e. (g.is p e).low;
      inside = λ p e. (g.is p e).inside;
      is = λ p e a first last held. (let at = g.is p e in entry_hinted cs a class k key ke held p (record { low = omega (arith, first, at.low); inside = omega (arith, last, at.inside); is = at.is }));
    }

-- by the map
pub map_stored : (limit : ℕ) (cs ds : List Cell) (a : IntMap) (class i : ℕ) (c : Cell) (r : Stored) → Stores cs ds limit a class i 0 (c ∷ []) r → StoresCell limit cs ds a class i c r
map_stored limit cs ds a class i c r st = record { says = λ bound m h. st; leaves = left r st; frame = st.frame }
  where
    left : (r : Stored) → Stores cs ds limit a class i 0 (c ∷ []) r → Leaves limit ds a r
    left (Err n) st = tt
    left (Ok b) st = record { base = st.leaves.base; room = st.leaves.room }

-- the cell c under a key, where that belongs
pub keyed_new : {cs : List Cell} {a : IntMap} {key p : ℕ} → NewAt cs a key p → (c x : Cell) → x ≡ with_key key c → (tag_of c ≡ 2 → ⊥) → (tag_of x ≡ 2 → ⊥) × NewAt cs a (key_of x) p
keyed_new {cs} {a} {key} {p} new c x xe plain = (λ t. plain (sym (keyed_tag key c) ∙ ap tag_of (sym xe) ∙ t), subst (λ k. NewAt cs a k p) (sym (ap key_of xe ∙ keyed_key key c)) new)

-- what such a store leads to
pub cell_leads : {limit : ℕ} {cs ds : List Cell} {a : IntMap} {class i : ℕ} {c : Cell} {r : Stored} {f : MemoryState → Tried MemoryState} → StoresCell limit cs ds a class i c r → (Stores cs ds limit a class i 0 (c ∷ []) r → Leads limit cs ds a r f) → Leads limit cs ds a r f
cell_leads {limit} {cs} {ds} {a} st leads = record { says = λ bound m le h. (leads (st.says bound m h)).says bound m le h; leaves = st.leaves; frame = wider cs ds a.base limit st.frame }

pub key_as : (cs : List Cell) (a : IntMap) (key k : ℕ) (s : Sought) → key ≡ k → s ≡ seek cs levels key a.len a.base → s ≡ seek cs levels k a.len a.base
key_as cs a key k s e f = f ∙ ap (λ n. seek cs levels n a.len a.base) e

pub near_leads : {cs ds : List Cell} {base end i : ℕ} {c : Cell} {r : Bool} {f : ℕ → MemoryState → Tried MemoryState} → WritesNear cs ds base end i c r → ((a : IntMap) (limit : ℕ) → Stores cs ds limit a 0 i 0 (c ∷ []) (Ok a) → Leads limit cs ds a (Ok a) (f limit)) → LeadsNear cs ds base end f r
near_leads w leads = record { yes = λ e a first last limit current. cell_leads (w.yes e a first last limit current.room) (leads a limit); no = w.no }
