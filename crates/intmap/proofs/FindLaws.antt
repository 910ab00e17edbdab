-- The laws of a search: what each turn of its loop leaves, what it answers, and where what it finds lies. Assumes nothing.
use mathlib.Core.Path.{◌≡◌, refl, sym, ap, ap₂, ◌∙◌}
use mathlib.Core.List.{List}
use mathlib.Core.Logic.{◌⊎◌, inl, inr}
use mathlib.Core.Bool.{Bool, ◌&&◌, true, false, true≢false}
use Prim.Native.Nat.{ℕ, zero, suc, ◌+◌, ◌-◌, ◌<◌, ◌≤◌}
use native.Mathlib.Omega.{arith}
use lib.ListN.{get_or}
use lib.Dec.{eqb, ltb}
use borrow.Author.Tests.{ltb-true, ltb-false, lt-ltb, le-ltb, eqb-true, eq-eqb}
use Rattle.std.specs.Prelude.{Ok, Err}
use Rattle.area.specs.Cells.{blank}
use Rattle.area.specs.declared.Cell.{Cell}
use Rattle.intmap.specs.Pack.{key_of}
use Rattle.intmap.specs.Pick.{pick}
use Rattle.intmap.specs.Runs.{size, sizes}
use Rattle.intmap.specs.Find.{place, has_entry, seek_place, seek_found, Sought, seek, spot}
use Rattle.intmap.specs.declared.Place.{Place}
use Rattle.intmap.proofs.RunLaws.{size-pos, sizes_step}

module _ (cs : List Cell) (d key : ℕ) where
  pub seek_end : (n at : ℕ) → n ≤ 0 → place at 0 ≡ seek_place cs d key n at
  unfolding seek_place
  seek_end zero at h = refl
  seek_end (suc n) at h = absurd (omega arith)

  pub seek_here : (n at : ℕ) (x : Cell) → 0 < n → x ≡ get_or cs at blank → key ≤ key_of x → place at n ≡ seek_place cs d key n at
  unfolding seek_place
  seek_here zero at x lt e h = absurd (omega arith)
  seek_here (suc n) at x lt e h = rw (← e, le-ltb (key_of x) key h)

  pub seek_on : (n at r : ℕ) (x : Cell) → 0 < n → x ≡ get_or cs at blank → key_of x < key → r ≡ size cs d at → seek_place cs d key (n - 1) (at + r) ≡ seek_place cs d key n at
  unfolding seek_place
  seek_on zero at r x lt e h g = absurd (omega arith)
  seek_on (suc n) at r x lt e h g = let z : suc n - 1 ≡ n = omega arith in rw (z, g, ← e, lt-ltb (key_of x) key h)

  -- an entry whose key is below is passed
  pub seek_past : (n at : ℕ) → key_of (get_or cs at blank) < key → seek_place cs d key (suc n) at ≡ seek_place cs d key n (at + size cs d at)
  unfolding seek_place
  seek_past n at lt = rw (lt-ltb (key_of (get_or cs at blank)) key lt)

-- ---- an entry with the key

module _ (cs : List Cell) (key : ℕ) (w : Place) where
  pub entry_told : has_entry cs key w ≡ true → (0 < w.left) × (key_of (get_or cs w.at blank) ≡ key)
  unfolding has_entry
  entry_told h = go (ltb 0 w.left) refl h
    where
      go : (b : Bool) → ltb 0 w.left ≡ b → b && eqb (key_of (get_or cs w.at blank)) key ≡ true → (0 < w.left) × (key_of (get_or cs w.at blank) ≡ key)
      go true e t = (ltb-true 0 w.left e, eqb-true (key_of (get_or cs w.at blank)) key t)
      go false e t = absurd (true≢false (sym t))

  pub entry_is : 0 < w.left → key_of (get_or cs w.at blank) ≡ key → has_entry cs key w ≡ true
  unfolding has_entry
  entry_is lt e = ap₂ (λ s t. s && t) (lt-ltb 0 w.left lt) (eq-eqb (key_of (get_or cs w.at blank)) key e)

  pub entry_other : (key_of (get_or cs w.at blank) ≡ key → ⊥) → has_entry cs key w ≡ false
  entry_other ne = go (has_entry cs key w) refl
    where
      go : (b : Bool) → has_entry cs key w ≡ b → b ≡ false
      go true e = absurd (ne (entry_told e).1)
      go false e = refl

-- the first of some entries
pub entry_first : (cs : List Cell) (key n p : ℕ) → has_entry cs key (place p (suc n)) ≡ eqb (key_of (get_or cs p blank)) key
unfolding has_entry
entry_first cs key n p = ap (λ b. b && eqb (key_of (get_or cs p blank)) key) (lt-ltb 0 (suc n) (omega arith))

-- ---- what it answers

module _ (cs : List Cell) (d key n p : ℕ) where
  pub answers_found : seek_found cs d key n p ≡ true → Ok (seek_place cs d key n p) ≡ seek cs d key n p
  unfolding seek
  answers_found e = rw e refl

  pub answers_none : seek_found cs d key n p ≡ false → Err (seek_place cs d key n p) ≡ seek cs d key n p
  unfolding seek
  answers_none e = rw e refl

module _ (cs : List Cell) (d key n p : ℕ) (w : Place) where
  pub answers_there : w ≡ seek_place cs d key n p → 0 < w.left → key_of (get_or cs w.at blank) ≡ key → Ok w ≡ seek cs d key n p
  unfolding seek
  answers_there e lt k = rw (← e, entry_is cs key w lt k)

  pub answers_other : w ≡ seek_place cs d key n p → (key_of (get_or cs w.at blank) ≡ key → ⊥) → Err w ≡ seek cs d key n p
  unfolding seek
  answers_other e ne = rw (← e, entry_other cs key w ne)

  pub answers_end : w ≡ seek_place cs d key n p → w.left ≡ 0 → Err w ≡ seek cs d key n p
  unfolding seek has_entry
  answers_end e z = rw (← e, le-ltb 0 w.left (omega (arith, z)))

  pub answered_ok : Ok w ≡ seek cs d key n p → (w ≡ seek_place cs d key n p) × (seek_found cs d key n p ≡ true)
  unfolding seek
  answered_ok e = go (seek_found cs d key n p) refl e
    where
      go : (b : Bool) → seek_found cs d key n p ≡ b → Ok w ≡ pick b (Ok (seek_place cs d key n p)) (Err (seek_place cs d key n p)) → (w ≡ seek_place cs d key n p) × (seek_found cs d key n p ≡ true)
      go true h f = (cc, h)
      go false h f = absurd (cc)

  pub answered_err : Err w ≡ seek cs d key n p → (w ≡ seek_place cs d key n p) × (seek_found cs d key n p ≡ false)
  unfolding seek
  answered_err e = go (seek_found cs d key n p) refl e
    where
      go : (b : Bool) → seek_found cs d key n p ≡ b → Err w ≡ pick b (Ok (seek_place cs d key n p)) (Err (seek_place cs d key n p)) → (w ≡ seek_place cs d key n p) × (seek_found cs d key n p ≡ false)
      go true h f = absurd (cc)
      go false h f = (cc, h)

pub sought_place : (cs : List Cell) (d key n p : ℕ) → spot (seek cs d key n p) ≡ seek_place cs d key n p
unfolding seek
sought_place cs d key n p = go (seek_found cs d key n p)
  where
    go : (b : Bool) → spot (pick b (Ok (seek_place cs d key n p)) (Err (seek_place cs d key n p))) ≡ seek_place cs d key n p
    go true = refl
    go false = refl

-- where it led, found or not
pub led_to : (cs : List Cell) (d key n p : ℕ) (s : Sought) (w : Place) → (s ≡ Ok w) ⊎ (s ≡ Err w) → s ≡ seek cs d key n p → w ≡ seek_place cs d key n p
led_to cs d key n p s w (inl e) f = (answered_ok cs d key n p w (sym e ∙ f)).0
led_to cs d key n p s w (inr e) f = (answered_err cs d key n p w (sym e ∙ f)).0

-- ---- where what it finds lies

module _ (cs : List Cell) (d key : ℕ) where
  pub seek_from : (n p : ℕ) → p ≤ (seek_place cs d key n p).at
  unfolding seek_place
  seek_from zero p = omega arith
  seek_from (suc n) p = go (ltb (key_of (get_or cs p blank)) key) (seek_from n (p + size cs d p))
    where
      go : (t : Bool) → p + size cs d p ≤ (seek_place cs d key n (p + size cs d p)).at → p ≤ (pick t (seek_place cs d key n (p + size cs d p)) (place p (suc n))).at
      go true ih = omega arith
      go false ih = omega arith

  -- the entries from there on end where all do
  pub seek_ends : (n p : ℕ) → (seek_place cs d key n p).at + sizes (size cs d) (seek_place cs d key n p).left (seek_place cs d key n p).at ≡ p + sizes (size cs d) n p
  unfolding seek_place sizes
  seek_ends zero p = refl
  seek_ends (suc n) p = go (ltb (key_of (get_or cs p blank)) key) (seek_ends n (p + size cs d p))
    where
      go : (t : Bool) → (seek_place cs d key n (p + size cs d p)).at + sizes (size cs d) (seek_place cs d key n (p + size cs d p)).left (seek_place cs d key n (p + size cs d p)).at ≡ p + size cs d p + sizes (size cs d) n (p + size cs d p)
          → (pick t (seek_place cs d key n (p + size cs d p)) (place p (suc n))).at + sizes (size cs d) (pick t (seek_place cs d key n (p + size cs d p)) (place p (suc n))).left (pick t (seek_place cs d key n (p + size cs d p)) (place p (suc n))).at ≡ p + (size cs d p + sizes (size cs d) n (p + size cs d p))
      go true ih = omega (arith, ih)
      go false ih = refl

  pub seek_upto : (n p : ℕ) → (seek_place cs d key n p).at ≤ p + sizes (size cs d) n p
  seek_upto n p = omega (arith, seek_ends n p)

  pub seek_left : (n p : ℕ) → seek_found cs d key n p ≡ true → 0 < (seek_place cs d key n p).left
  seek_left n p h = (entry_told cs key (seek_place cs d key n p) h).0

  pub seek_key : (n p : ℕ) → seek_found cs d key n p ≡ true → key_of (get_or cs (seek_place cs d key n p).at blank) ≡ key
  seek_key n p h = (entry_told cs key (seek_place cs d key n p) h).1

  pub seek_whole : (n p : ℕ) → seek_found cs d key n p ≡ true → (seek_place cs d key n p).at + size cs d (seek_place cs d key n p).at ≤ p + sizes (size cs d) n p
  seek_whole n p h = omega (arith, seek_ends n p, sizes_step (size cs d) (seek_place cs d key n p).left (seek_place cs d key n p).at (seek_left n p h))

  -- a search with no entry left ends behind all
  pub seek_behind : (n p : ℕ) → (seek_place cs d key n p).left ≡ 0 → seek_place cs d key n p ≡ place (p + sizes (size cs d) n p) 0
  unfolding sizes
  seek_behind n p h = ap₂ place (omega (arith, seek_ends n p, ap (λ k. sizes (size cs d) k (seek_place cs d key n p).at) h)) h

  -- nor does one that ends where they do
  pub seek_last : (n p : ℕ) → (seek_place cs d key n p).at ≡ p + sizes (size cs d) n p → (seek_place cs d key n p).left ≡ 0
  seek_last n p h = go (ltb 0 (seek_place cs d key n p).left) refl
    where
      go : (b : Bool) → ltb 0 (seek_place cs d key n p).left ≡ b → (seek_place cs d key n p).left ≡ 0
      go true e = absurd (omega (arith, h, seek_ends n p, size-pos cs d (seek_place cs d key n p).at, sizes_step (size cs d) (seek_place cs d key n p).left (seek_place cs d key n p).at (ltb-true 0 (seek_place cs d key n p).left e)))
      go false e = omega (arith, ltb-false 0 (seek_place cs d key n p).left e)

  -- what a search ends at is not below the key
  pub seek_least : (n p : ℕ) → 0 < (seek_place cs d key n p).left → key ≤ key_of (get_or cs (seek_place cs d key n p).at blank)
  unfolding seek_place
  seek_least zero p h = absurd (omega (arith, h))
  seek_least (suc n) p h = go (ltb (key_of (get_or cs p blank)) key) refl h (seek_least n (p + size cs d p))
    where
      go : (t : Bool) → ltb (key_of (get_or cs p blank)) key ≡ t → 0 < (pick t (seek_place cs d key n (p + size cs d p)) (place p (suc n))).left
          → (0 < (seek_place cs d key n (p + size cs d p)).left → key ≤ key_of (get_or cs (seek_place cs d key n (p + size cs d p)).at blank))
          → key ≤ key_of (get_or cs (pick t (seek_place cs d key n (p + size cs d p)) (place p (suc n))).at blank)
      go true l h ih = ih h
      go false l h ih = ltb-false (key_of (get_or cs p blank)) key l

  pub seek_stop : (n p : ℕ) → (seek_place cs d key n p).at < p + sizes (size cs d) n p → key ≤ key_of (get_or cs (seek_place cs d key n p).at blank)
  seek_stop n p h = go (ltb 0 (seek_place cs d key n p).left) refl
    where
      go : (b : Bool) → ltb 0 (seek_place cs d key n p).left ≡ b → key ≤ key_of (get_or cs (seek_place cs d key n p).at blank)
      go true e = seek_least n p (ltb-true 0 (seek_place cs d key n p).left e)
      go false e = absurd (omega (arith, h, ap (λ (w : Place). w.at) (seek_behind n p (omega (arith, ltb-false 0 (seek_place cs d key n p).left e)))))

pub seek-pos : (cs : List Cell) (d key n p : ℕ) → seek_found cs d key n p ≡ true → 0 < n
unfolding seek_place
seek-pos cs d key zero p h = absurd (omega (arith, (entry_told cs key (place p 0) h).0))
seek-pos cs d key (suc n) p h = omega arith

-- where what was found lies
pub found_within : (cs : List Cell) (d key n p : ℕ) (w : Place) → w ≡ seek_place cs d key n p → (p ≤ w.at) × (w.at ≤ p + sizes (size cs d) n p)
found_within cs d key n p w e = rw e (seek_from cs d key n p, seek_upto cs d key n p)

pub found-whole : (cs : List Cell) (d key n p : ℕ) (w : Place) → Ok w ≡ seek cs d key n p → w.at + size cs d w.at ≤ p + sizes (size cs d) n p
found-whole cs d key n p w e = let f = answered_ok cs d key n p w e in rw f.0 (seek_whole cs d key n p f.1)

-- ---- a search for a key above that of an entry

module _ (cs : List Cell) (d low key : ℕ) (less : low < key) where
  -- it goes beyond the entry
  pub seek_beyond : (n p : ℕ) → seek_found cs d low n p ≡ true → (seek_place cs d low n p).at + size cs d (seek_place cs d low n p).at ≤ (seek_place cs d key n p).at
  unfolding seek_place
  seek_beyond zero p h = absurd (omega (arith, (entry_told cs low (place p 0) h).0))
  seek_beyond (suc n) p h = go (ltb (key_of (get_or cs p blank)) low) refl h (seek_beyond n (p + size cs d p))
    where
      go : (t : Bool) → ltb (key_of (get_or cs p blank)) low ≡ t → has_entry cs low (pick t (seek_place cs d low n (p + size cs d p)) (place p (suc n))) ≡ true
          → (seek_found cs d low n (p + size cs d p) ≡ true → (seek_place cs d low n (p + size cs d p)).at + size cs d (seek_place cs d low n (p + size cs d p)).at ≤ (seek_place cs d key n (p + size cs d p)).at)
          → (pick t (seek_place cs d low n (p + size cs d p)) (place p (suc n))).at + size cs d (pick t (seek_place cs d low n (p + size cs d p)) (place p (suc n))).at ≤ (seek_place cs d key (suc n) p).at
      go true l h ih = let lt = ltb-true (key_of (get_or cs p blank)) low l in rw (seek_past cs d key n p (omega (arith, lt, less))) (ih h)
      go false l h ih = let e = (entry_told cs low (place p (suc n)) h).1 in rw (seek_past cs d key n p (omega (arith, e, less))) (seek_from cs d key n (p + size cs d p))

-- a search for a lower key ends no later
pub seek_mono : (cs : List Cell) (d low key : ℕ) → low ≤ key → (n p : ℕ) → (seek_place cs d low n p).at ≤ (seek_place cs d key n p).at
unfolding seek_place
seek_mono cs d low key le zero p = omega arith
seek_mono cs d low key le (suc n) p = go (ltb (key_of (get_or cs p blank)) low) refl (seek_mono cs d low key le n (p + size cs d p))
  where
    go : (t : Bool) → ltb (key_of (get_or cs p blank)) low ≡ t → (seek_place cs d low n (p + size cs d p)).at ≤ (seek_place cs d key n (p + size cs d p)).at → (pick t (seek_place cs d low n (p + size cs d p)) (place p (suc n))).at ≤ (seek_place cs d key (suc n) p).at
    go true l ih = let lt = ltb-true (key_of (get_or cs p blank)) low l in rw (seek_past cs d key n p (omega (arith, lt, le))) ih
    go false l ih = seek_from cs d key (suc n) p
