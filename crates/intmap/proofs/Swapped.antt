-- What a search finds is what the key has by `lookup`, and above all keys it leads behind all entries. What the area holds once other runs stand
-- in the place of what was found is `swap`. Assumes nothing.
use mathlib.Core.Path.{◌≡◌, refl, sym, ap, ap₂, ◌∙◌}
use mathlib.Core.List.{List, [], ◌∷◌, ◌++◌}
use mathlib.Core.Bool.{Bool, true, false}
use Rattle.std.specs.Prelude.{None, Some, Ok, Err}
use Prim.Native.Nat.{ℕ, zero, suc, ◌+◌, ◌-◌, ◌<◌, ◌≤◌}
use native.Mathlib.Omega.{arith}
use lib.ListN.{get_or}
use lib.Dec.{eqb, ltb}
use Rattle.area.specs.Cells.{blank}
use Rattle.area.specs.declared.Cell.{Cell}
use Rattle.intmap.specs.Pack.{key_of}
use Rattle.intmap.specs.Pick.{pick}
use Rattle.intmap.specs.Runs.{size, sizes, Agree}
use Rattle.intmap.specs.Find.{place, has_entry, seek_place, seek_found, seek}
use Rattle.intmap.specs.declared.Place.{Place}
use Rattle.intmap.specs.Entries.{Runs, span, entries, key_run}
use Rattle.intmap.specs.Swap.{swap, lookup}
use Rattle.intmap.proofs.RunLaws.{size-pos}
use Rattle.intmap.proofs.SameCells.{size_same}
use Rattle.intmap.proofs.FindLaws.{entry_told, entry_first, answered_ok, answered_err, seek_past, seek_from, seek-pos}
use Rattle.intmap.proofs.EntryLaws.{key-span, entry-same, entries-same}
use Rattle.intmap.proofs.SwapLaws.{Under}

module _ (cs : List Cell) (d key : ℕ) where
  key_first : (n p : ℕ) → key_run (span cs p (size cs d p)) ≡ key_of (get_or cs p blank)
  key_first n p = key-span cs p (size cs d p) (size-pos cs d p)

  -- what a search finds is what the key has
  pub seek_some : (n p : ℕ) → seek_found cs d key n p ≡ true → lookup key (entries cs d n p) ≡ Some (span cs (seek_place cs d key n p).at (size cs d (seek_place cs d key n p).at))
  unfolding seek_place lookup entries
  seek_some zero p h = absurd (omega (arith, (entry_told cs key (place p 0) h).0))
  seek_some (suc n) p h = rw (key_first n p) (go (ltb (key_of (get_or cs p blank)) key) h (seek_some n (p + size cs d p)))
    where
      go : (t : Bool) → has_entry cs key (pick t (seek_place cs d key n (p + size cs d p)) (place p (suc n))) ≡ true
          → (seek_found cs d key n (p + size cs d p) ≡ true → lookup key (entries cs d n (p + size cs d p)) ≡ Some (span cs (seek_place cs d key n (p + size cs d p)).at (size cs d (seek_place cs d key n (p + size cs d p)).at)))
          → pick t (lookup key (entries cs d n (p + size cs d p))) (pick (eqb (key_of (get_or cs p blank)) key) (Some (span cs p (size cs d p))) None)
          ≡ Some (span cs (pick t (seek_place cs d key n (p + size cs d p)) (place p (suc n))).at (size cs d (pick t (seek_place cs d key n (p + size cs d p)) (place p (suc n))).at))
      go true h ih = ih h
      go false h ih = ap (λ (b : Bool). pick b (Some (span cs p (size cs d p))) None) (sym (entry_first cs key n p) ∙ h)

  pub seek_none : (n p : ℕ) → seek_found cs d key n p ≡ false → lookup key (entries cs d n p) ≡ None
  unfolding seek_place lookup entries
  seek_none zero p h = refl
  seek_none (suc n) p h = rw (key_first n p) (go (ltb (key_of (get_or cs p blank)) key) h (seek_none n (p + size cs d p)))
    where
      go : (t : Bool) → has_entry cs key (pick t (seek_place cs d key n (p + size cs d p)) (place p (suc n))) ≡ false
          → (seek_found cs d key n (p + size cs d p) ≡ false → lookup key (entries cs d n (p + size cs d p)) ≡ None)
          → pick t (lookup key (entries cs d n (p + size cs d p))) (pick (eqb (key_of (get_or cs p blank)) key) (Some (span cs p (size cs d p))) None) ≡ None
      go true h ih = ih h
      go false h ih = ap (λ (b : Bool). pick b (Some (span cs p (size cs d p))) None) (sym (entry_first cs key n p) ∙ h)

  -- by its answer
  pub seek_ok : (n p : ℕ) (w : Place) → Ok w ≡ seek cs d key n p → lookup key (entries cs d n p) ≡ Some (span cs w.at (size cs d w.at))
  seek_ok n p w e = let f = answered_ok cs d key n p w e in rw f.0 (seek_some n p f.1)

  pub seek_err : (n p : ℕ) (w : Place) → Err w ≡ seek cs d key n p → lookup key (entries cs d n p) ≡ None
  seek_err n p w e = seek_none n p (answered_err cs d key n p w e).1

  -- where all keys are lower, it leads behind them
  pub seek_under : (n p : ℕ) → Under key (entries cs d n p) → (seek_place cs d key n p).left ≡ 0
  unfolding entries
  seek_under zero p u = unfold seek_place in refl
  seek_under (suc n) p u = ap (λ w. w.left) (seek_past cs d key n p (omega (arith, key_first n p, u.0))) ∙ seek_under n (p + size cs d p) u.1

append_nil : (l : Runs) → l ++ [] ≡ l
append_nil [] = refl
append_nil (x ∷ l) = ap (λ (t : Runs). x ∷ t) (append_nil l)

-- ---- es is cs with the k runs rs of m cells at q

module _ (cs es : List Cell) (d key q k m : ℕ) (rs : Runs)
    (before : (j : ℕ) → j < q → get_or es j blank ≡ get_or cs j blank)
    (new : (j : ℕ) → entries es d (k + j) q ≡ rs ++ entries es d j (q + m))
  where
    first_kept : (p : ℕ) → p + size cs d p ≤ q → Agree cs p es p (size cs d p)
    first_kept p le j lt = before (p + j) (omega arith)

    -- an entry before the place stays
    one_more : (n p : ℕ) (rest : Runs) → p + size cs d p ≤ q → entries es d (k + n) (p + size cs d p) ≡ rest → entries es d (k + suc n) p ≡ span cs p (size cs d p) ∷ rest
    unfolding entries
    one_more n p rest le e =
        let a = first_kept p le in
        let s : k + suc n ≡ suc (k + n) = omega arith in
        rw s (ap₂ (λ (r : List Cell) (l : Runs). r ∷ l) (entry-same cs es d p p a) (rw (size_same cs es d p p a) e))

    -- with a key that is not there
    pub swapped_new : (n p : ℕ) → (seek_place cs d key n p).at ≡ q → seek_found cs d key n p ≡ false → Agree cs q es (q + m) (p + sizes (size cs d) n p - q) → entries es d (k + n) p ≡ swap key rs (entries cs d n p)
    unfolding seek_place sizes swap entries
    swapped_new zero p at h a = ap (entries es d (k + 0)) at ∙ new 0 ∙ append_nil rs
    swapped_new (suc n) p at h a = rw (key_first cs d key n p) (go (ltb (key_of (get_or cs p blank)) key) at h (swapped_new n (p + size cs d p)))
      where
        go : (t : Bool) → (pick t (seek_place cs d key n (p + size cs d p)) (place p (suc n))).at ≡ q
            → has_entry cs key (pick t (seek_place cs d key n (p + size cs d p)) (place p (suc n))) ≡ false
            → ((seek_place cs d key n (p + size cs d p)).at ≡ q → seek_found cs d key n (p + size cs d p) ≡ false → Agree cs q es (q + m) (p + size cs d p + sizes (size cs d) n (p + size cs d p) - q) → entries es d (k + n) (p + size cs d p) ≡ swap key rs (entries cs d n (p + size cs d p)))
            → entries es d (k + suc n) p ≡ pick t (span cs p (size cs d p) ∷ swap key rs (entries cs d n (p + size cs d p))) (pick (eqb (key_of (get_or cs p blank)) key) (rs ++ entries cs d n (p + size cs d p)) (rs ++ span cs p (size cs d p) ∷ entries cs d n (p + size cs d p)))
        go true at h ih =
            let f = seek_from cs d key n (p + size cs d p) in
            one_more n p _ (omega arith) (ih at h (λ j lt. a j (omega arith)))
        go false at h ih =
            let s = ap (λ (x : ℕ). sizes (size cs d) (suc n) x) at in
            ap (entries es d (k + suc n)) at ∙ new (suc n)
            ∙ ap (λ (l : Runs). rs ++ l) (entries-same cs es d (suc n) q (q + m) (λ j lt. a j (omega arith)) ∙ ap (entries cs d (suc n)) (sym at))
            ∙ ap (λ (b : Bool). pick b (rs ++ entries cs d n (p + size cs d p)) (rs ++ span cs p (size cs d p) ∷ entries cs d n (p + size cs d p))) (sym h ∙ entry_first cs key n p)

    -- with one that is
    pub swapped_old : (n p : ℕ) → (seek_place cs d key n p).at ≡ q → seek_found cs d key n p ≡ true → Agree cs (q + size cs d q) es (q + m) (p + sizes (size cs d) n p - q - size cs d q) → entries es d (k + (n - 1)) p ≡ swap key rs (entries cs d n p)
    unfolding seek_place sizes swap entries
    swapped_old zero p at h a = absurd (omega (arith, (entry_told cs key (place p 0) h).0))
    swapped_old (suc n) p at h a = rw (key_first cs d key n p) (go (ltb (key_of (get_or cs p blank)) key) at h (swapped_old n (p + size cs d p)))
      where
        go : (t : Bool) → (pick t (seek_place cs d key n (p + size cs d p)) (place p (suc n))).at ≡ q
            → has_entry cs key (pick t (seek_place cs d key n (p + size cs d p)) (place p (suc n))) ≡ true
            → ((seek_place cs d key n (p + size cs d p)).at ≡ q → seek_found cs d key n (p + size cs d p) ≡ true → Agree cs (q + size cs d q) es (q + m) (p + size cs d p + sizes (size cs d) n (p + size cs d p) - q - size cs d q) → entries es d (k + (n - 1)) (p + size cs d p) ≡ swap key rs (entries cs d n (p + size cs d p)))
            → entries es d (k + (suc n - 1)) p ≡ pick t (span cs p (size cs d p) ∷ swap key rs (entries cs d n (p + size cs d p))) (pick (eqb (key_of (get_or cs p blank)) key) (rs ++ entries cs d n (p + size cs d p)) (rs ++ span cs p (size cs d p) ∷ entries cs d n (p + size cs d p)))
        go true at h ih =
            let f = seek_from cs d key n (p + size cs d p) in
            let some_left : 0 < n = seek-pos cs d key n (p + size cs d p) h in
            let e : suc n - 1 ≡ suc (n - 1) = omega arith in
            rw e (one_more (n - 1) p _ (omega arith) (ih at h (λ j lt. a j (omega arith))))
        go false at h ih =
            let e : suc n - 1 ≡ n = omega arith in
            let z = ap (size cs d) at in
            let s : sizes (size cs d) n (q + size cs d q) ≡ sizes (size cs d) n (p + size cs d p) = ap (λ (x : ℕ). sizes (size cs d) n (x + size cs d x)) (sym at) in
            rw e (ap (entries es d (k + n)) at ∙ new n)
            ∙ ap (λ (l : Runs). rs ++ l) (entries-same cs es d n (q + size cs d q) (q + m) (λ j lt. a j (omega arith)) ∙ ap (λ (x : ℕ). entries cs d n (x + size cs d x)) (sym at))
            ∙ ap (λ (b : Bool). pick b (rs ++ entries cs d n (p + size cs d p)) (rs ++ span cs p (size cs d p) ∷ entries cs d n (p + size cs d p))) (sym h ∙ entry_first cs key n p)
