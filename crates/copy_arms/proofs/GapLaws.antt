-- Between a register and where a search for it leads there is no register, and what the map lacks the definition does not read. Assumes nothing.
use Rattle.refusal.specs.Numbers.{number_of}
use Rattle.refusal.specs.declared.Refusal.{Refusal}
use mathlib.Core.Path.{◌≡◌, refl, sym, ap, subst, ◌∙◌}
use mathlib.Core.Bool.{Bool, true, false}
use Rattle.std.specs.Prelude.{min, Option, None, Some, Ok, Err}
use Rattle.std.proofs.lemmas.Option.{none-some}
use mathlib.Core.List.{List}
use Prim.Native.Nat.{ℕ, zero, suc, ◌+◌, ◌-◌, ◌<◌, ◌≤◌}
use native.Mathlib.Omega.{arith}
use lib.ListN.{length, get_or}
use lib.Dec.{ltb}
use lib.IntN.{suc_ℤ}
use borrow.Author.Tests.{ltb-true, ltb-false}
use Rattle.model.specs.Walk.{Tried, refused, done}
use Rattle.model.specs.IntMap.{get}
use Rattle.model.specs.State.{MemoryState}
use Rattle.model.specs.Access.{index, ◌>>=◌, read_register}
use Rattle.area.specs.Cells.{blank}
use Rattle.area.specs.declared.Cell.{Cell}
use Rattle.intmap.specs.Find.{place, has_entry, seek_place, seek_found}
use Rattle.intmap.specs.Get.{index_of, read_runs, Judges, Index}
use Rattle.intmap.specs.Map.{levels, runs_at, IsMap}
use Rattle.intmap.specs.Pack.{key_of, class_key}
use Rattle.intmap.specs.Pick.{pick}
use Rattle.intmap.specs.Runs.{size, sizes}
use Rattle.intmap.specs.Signed.{offset, int_of}
use Rattle.intmap.specs.Swap.{lookup}
use Rattle.intmap.specs.declared.Place.{Place}
use Rattle.intmap.specs.declared.IntMap.{IntMap}
use Rattle.intmap.proofs.FindLaws.{seek_here, seek_on, entry_is, entry_other}
use Rattle.intmap.proofs.RunLaws.{size-pos}
use Rattle.intmap.proofs.SignedLaws.{index_below, index_above, index_within, int_suc}
use Rattle.intmap.proofs.Swapped.{seek_some, seek_none}
use Rattle.encoding.proofs.HeldRead.{told_register}
use Rattle.state.specs.Leads.{HoldsMap}
use Rattle.copy_arms.specs.Gaps.{Next, gap_if, gap, Gap}

-- ---- a search

-- what w, that a search for k among n entries from p on led to, tells of searches for other keys
record Past (cs : List Cell) (d k n p : ℕ) (w : Place) : Type 0 where
  pub absent : (key : ℕ) → k ≤ key → (0 < w.left → key < key_of (get_or cs w.at blank)) → seek_found cs d key n p ≡ false
  pub least : 0 < w.left → k ≤ key_of (get_or cs w.at blank)
  pub within : 0 < w.left → w.at < p + sizes (size cs d) n p
  pub found : 0 < w.left → seek_found cs d (key_of (get_or cs w.at blank)) n p ≡ true

module _ (cs : List Cell) (d k : ℕ) where
  past_end : (p : ℕ) → Past cs d k zero p (place p 0)
  unfolding seek_place has_entry
  past_end p = record { absent = λ key le h. refl; least = λ lt. absurd (omega arith); within = λ lt. absurd (omega arith); found = λ lt. absurd (omega arith) }

  -- the first entry is the one
  past_here : (n p : ℕ) → k ≤ key_of (get_or cs p blank) → Past cs d k (suc n) p (place p (suc n))
  unfolding sizes
  past_here n p le =
      record {
        absent = λ key from h.
            (let below : key < key_of (get_or cs p blank) = h (omega arith) in
            sym (ap (has_entry cs key) (seek_here cs d key (suc n) p (get_or cs p blank) (omega arith) refl (omega arith))) ∙ entry_other cs key (place p (suc n)) (λ e. omega (arith, e, below)));
        least = λ lt. le;
        within = λ lt. omega (arith, size-pos cs d p);
        found = λ lt.
            sym (ap (has_entry cs (key_of (get_or cs p blank))) (seek_here cs d (key_of (get_or cs p blank)) (suc n) p (get_or cs p blank) (omega arith) refl (omega arith))) ∙ entry_is cs (key_of (get_or cs p blank)) (place p (suc n)) (omega arith) refl;
      }

  -- the first entry is passed, by a search for any key that is not below k
  past_on : (n p : ℕ) (w : Place) → key_of (get_or cs p blank) < k → Past cs d k n (p + size cs d p) w → Past cs d k (suc n) p w
  unfolding sizes
  past_on n p w lt past =
      record {
        absent = λ key from h. on key from false (past.absent key from h);
        least = past.least;
        within = λ some_left. omega (arith, past.within some_left);
        found = λ some_left. on (key_of (get_or cs w.at blank)) (past.least some_left) true (past.found some_left);
      }
    where
      on : (key : ℕ) → k ≤ key → (t : Bool) → seek_found cs d key n (p + size cs d p) ≡ t → seek_found cs d key (suc n) p ≡ t
      on key from t e =
          let less : n ≡ suc n - 1 = omega arith in
          sym (ap (λ j. seek_found cs d key j (p + size cs d p)) less ∙ ap (has_entry cs key) (seek_on cs d key (suc n) p (size cs d p) (get_or cs p blank) (omega arith) refl (omega arith) refl)) ∙ e

  past : (n p : ℕ) → Past cs d k n p (seek_place cs d k n p)
  unfolding seek_place
  past zero p = past_end p
  past (suc n) p = go (ltb (key_of (get_or cs p blank)) k) refl (past n (p + size cs d p))
    where
      go : (t : Bool) → ltb (key_of (get_or cs p blank)) k ≡ t → Past cs d k n (p + size cs d p) (seek_place cs d k n (p + size cs d p))
          → Past cs d k (suc n) p (pick t (seek_place cs d k n (p + size cs d p)) (place p (suc n)))
      go true e ih = past_on n p (seek_place cs d k n (p + size cs d p)) (ltb-true (key_of (get_or cs p blank)) k e) ih
      go false e ih = past_here n p (ltb-false (key_of (get_or cs p blank)) k e)

-- ---- the next register

module _ (cs : List Cell) (a : IntMap) (k : ℕ) (few : k ≤ 65535) (sought : ℕ) (se : sought ≡ class_key 0 k) (w : Place) (we : w ≡ seek_place cs levels sought a.len a.base) where
  led : Past cs levels sought a.len a.base w
  led = subst (Past cs levels sought a.len a.base) (sym we) (past cs levels sought a.len a.base)

  lacks : (i : ℕ) → k ≤ i → (0 < w.left → class_key 0 i < key_of (get_or cs w.at blank)) → lookup (class_key 0 i) (runs_at cs a) ≡ None
  lacks i le h = seek_none cs levels (class_key 0 i) a.len a.base (led.absent (class_key 0 i) (omega arith) h)

  pub next_end : w.left ≡ 0 → Next cs a k 65536
  next_end h = record { from = omega arith; upto = omega arith; absent = λ i le lt. lacks i le (λ some_left. absurd (omega arith)); present = λ lt. absurd (omega arith) }

  module _ (some_left : w.left ≡ 0 → ⊥) where
    pub next_within : IsMap cs a → w.at < length cs
    next_within is = omega (arith, led.within (omega arith), is.used, is.inside)

    module _ (c : Cell) (ce : c ≡ get_or cs w.at blank) (key : ℕ) (ke : key ≡ key_of c) where
      key_is : key ≡ key_of (get_or cs w.at blank)
      key_is = ke ∙ ap key_of ce

      pub next_other : 131071 < key → Next cs a k 65536
      next_other h =
          record { from = omega arith; upto = omega arith; absent = λ i le lt. lacks i le (λ left. omega (arith, key_is)); present = λ lt. absurd (omega arith) }

      pub next_above : sought ≤ key
      next_above = omega (arith, key_is, led.least (omega arith))

      pub next_here : key ≤ 131071 → Next cs a k (key - 65536)
      next_here h =
          let found = ap (λ j. seek_found cs levels j a.len a.base) key_is ∙ led.found (omega arith) in
          let own : class_key 0 (key - 65536) ≡ key = omega (arith, next_above) in
          record {
            from = omega (arith, next_above);
            upto = omega arith;
            absent = λ i le lt. lacks i le (λ left. omega (arith, key_is));
            present = λ lt lacked. none-some _ (sym lacked ∙ ap (λ j. lookup j (runs_at cs a)) own ∙ seek_some cs levels key a.len a.base found);
          }

-- ---- the definition's registers

-- a judged index, as a number above 0
abbrev told : Tried ℕ → ℕ
told (refused n) = 0
told (done k) = suc k

pub index-place : (i k : ℕ) → index (int_of i) ≡ done k → (offset ≤ i) × (i - offset ≡ k)
index-place i k e = go (ltb i offset) refl (ltb (65535 + offset) i) refl
  where
    go : (s : Bool) → ltb i offset ≡ s → (t : Bool) → ltb (65535 + offset) i ≡ t → (offset ≤ i) × (i - offset ≡ k)
    go true low t high = absurd (omega (arith, ap told (sym e ∙ index_below i (ltb-true i offset low))))
    go false low true high = absurd (omega (arith, ap told (sym e ∙ index_above i (ltb-true (65535 + offset) i high))))
    go false low false high = let above = ltb-false i offset low in (above, omega (arith, ap told (sym e ∙ index_within i above (ltb-false (65535 + offset) i high))))

module _ (limit bound : ℕ) (cs : List Cell) (a : IntMap) (m : MemoryState) (h : HoldsMap limit bound cs a m) (i k : ℕ) (is : i ≡ offset + k) where
  looks_up : k ≤ 65535 → read_runs 0 (int_of i) (runs_at cs a) ≡ done (lookup (class_key 0 k) (runs_at cs a))
  unfolding read_runs
  looks_up le =
      let same : i - offset ≡ k = omega arith in
      ap (λ t. t >>= λ j. done (lookup (class_key 0 j) (runs_at cs a))) (index_within i (omega arith) (omega arith) ∙ ap done same)

  reads_none : k ≤ 65535 → lookup (class_key 0 k) (runs_at cs a) ≡ None → read_register (int_of i) m ≡ done None
  reads_none le e = (told_register h (int_of i)).absent (looks_up le ∙ ap done e)

  stops_some : (n : ℕ) → k ≤ 65535 → (lookup (class_key 0 k) (runs_at cs a) ≡ None → ⊥) → gap_if (read_register (int_of i) m) n ≡ 0
  stops_some n le there = go (lookup (class_key 0 k) (runs_at cs a)) refl
    where
      go : (o : Option (List Cell)) → lookup (class_key 0 k) (runs_at cs a) ≡ o → gap_if (read_register (int_of i) m) n ≡ 0
      go None e = absurd (there e)
      go (Some run) e = ap (λ t. gap_if t n) ((told_register h (int_of i)).present run (looks_up le ∙ ap done e)).answer

  stops_above : (n : ℕ) → 65535 < k → gap_if (read_register (int_of i) m) n ≡ 0
  unfolding read_register
  stops_above n lt = ap (λ t. gap_if (t >>= λ j. done (get j m.r)) n) (index_above i (omega arith))

module _ (limit bound : ℕ) (cs : List Cell) (a : IntMap) (m : MemoryState) (h : HoldsMap limit bound cs a m) where
  -- the registers before the next one, or n of them if those are fewer
  gap_next : (n i k r : ℕ) → i ≡ offset + k → Next cs a k r → (r - k < n → gap n (int_of i) m ≡ r - k) × (n ≤ r - k → gap n (int_of i) m ≡ n)
  unfolding gap
  gap_next zero i k r is next = (λ lt. absurd (omega arith), λ le. refl)
  gap_next (suc n) i k r is next = go (ltb k r) refl (gap_next n (i + 1) (k + 1) r)
    where
      on : k < r → gap_if (read_register (int_of i) m) (gap n (suc_ℤ (int_of i)) m) ≡ suc (gap n (int_of (i + 1)) m)
      on lt =
          ap (λ t. gap_if t (gap n (suc_ℤ (int_of i)) m)) (reads_none limit bound cs a m h i k is (omega (arith, next.upto)) (next.absent k (omega arith) lt))
          ∙ ap (λ j. suc (gap n j m)) (int_suc i)

      later : k < r → Next cs a (k + 1) r
      later lt = record { from = omega arith; upto = next.upto; absent = λ j le. next.absent j (omega arith); present = next.present }

      stops : r ≤ k → (t : Bool) → ltb r 65536 ≡ t → gap_if (read_register (int_of i) m) (gap n (suc_ℤ (int_of i)) m) ≡ 0
      stops le true e =
          let same : r ≡ k = omega (arith, next.from) in
          let few = ltb-true r 65536 e in
          stops_some limit bound cs a m h i k is (gap n (suc_ℤ (int_of i)) m) (omega arith) (λ lacked. next.present few (ap (λ j. lookup (class_key 0 j) (runs_at cs a)) same ∙ lacked))
      stops le false e = stops_above limit bound cs a m h i k is (gap n (suc_ℤ (int_of i)) m) (omega (arith, next.from, ltb-false r 65536 e))

      go : (t : Bool) → ltb k r ≡ t → (i + 1 ≡ offset + (k + 1) → Next cs a (k + 1) r → (r - (k + 1) < n → gap n (int_of (i + 1)) m ≡ r - (k + 1)) × (n ≤ r - (k + 1) → gap n (int_of (i + 1)) m ≡ n))
          → (r - k < suc n → gap_if (read_register (int_of i) m) (gap n (suc_ℤ (int_of i)) m) ≡ r - k) × (suc n ≤ r - k → gap_if (read_register (int_of i) m) (gap n (suc_ℤ (int_of i)) m) ≡ suc n)
      go true e ih =
          let lt = ltb-true k r e in
          let rest = ih (omega arith) (later lt) in
          (λ few. on lt ∙ omega (arith, rest.0 (omega arith)), λ many. on lt ∙ ap suc (rest.1 (omega arith)))
      go false e ih =
          let le = ltb-false k r e in
          (λ few. stops le (ltb r 65536) refl ∙ omega (arith, next.from), λ many. absurd (omega arith))

pub gap-zero : (cs : List Cell) (a : IntMap) (i n : ℕ) → n ≡ 0 → Gap cs a i n 0
unfolding gap
gap-zero cs a i n e = record { most = omega arith; says = λ limit bound m h. sym (ap (λ k. gap k (int_of i) m) e) }

module _ (cs : List Cell) (a : IntMap) (i n : ℕ) (x : Index) (judged : Judges i x) where
  pub gap_bad : (t : Refusal) → x ≡ Err t → Gap cs a i n 0
  gap_bad t e = record { most = omega arith; says = λ limit bound m h. sym (go n m) }
    where
      bad : index (int_of i) ≡ refused (number_of t)
      bad = sym judged.answer ∙ ap index_of e

      go : (n : ℕ) (m : MemoryState) → gap n (int_of i) m ≡ 0
      go zero m = unfold gap in refl
      go (suc n) m = unfold gap read_register in ap (λ u. gap_if (u >>= λ j. done (get j m.r)) (gap n (suc_ℤ (int_of i)) m)) bad

  module _ (k r : ℕ) (e : x ≡ Ok k) (next : Next cs a k r) where
    here : i ≡ offset + k
    here = let p = index-place i k (sym judged.answer ∙ ap index_of e) in omega (arith, p.0, p.1)

    pub gap_least : (f : ℕ) → f ≡ min n (r - k) → Gap cs a i n f
    gap_least f e = record { most = omega arith; says = λ limit bound m h. go (ltb (r - k) n) refl (gap_next limit bound cs a m h n i k r here next) }
      where
        go : {g : ℕ} (t : Bool) → ltb (r - k) n ≡ t → (r - k < n → g ≡ r - k) × (n ≤ r - k → g ≡ n) → f ≡ g
        go true lt both = omega (arith, both.0 (ltb-true (r - k) n lt), ltb-true (r - k) n lt)
        go false le both = omega (arith, both.1 (ltb-false (r - k) n le), ltb-false (r - k) n le)
