-- `swap` and `lookup` by the first run's key, and in two lists of runs one after the other, by where the key belongs. Assumes nothing.
use mathlib.Core.Path.{◌≡◌, refl, sym, ap, ◌∙◌}
use mathlib.Core.Bool.{Bool, true, false}
use Rattle.std.specs.Prelude.{Option, None, Some}
use mathlib.Core.List.{List, [], ◌∷◌, ◌++◌, append-nil, append_assoc}
use Prim.Native.Nat.{ℕ, ◌+◌, ◌<◌, ◌≤◌}
use native.Mathlib.Omega.{arith}
use lib.Dec.{eqb, ltb}
use lib.ListN.{length}
use borrow.Author.Tests.{eq-eqb, ne_eqb, lt-ltb, le-ltb}
use Rattle.area.specs.declared.Cell.{Cell}
use Rattle.intmap.specs.Pick.{pick}
use Rattle.intmap.specs.Entries.{key_run, total, Runs}
use Rattle.intmap.specs.Swap.{swap, lookup}

-- the first key is at least `low`
abbrev pub From : ℕ → Runs → Type 0
From low [] = Unit {0}
From low (r ∷ rs) = low ≤ key_run r

-- every key is below `high`
abbrev pub Under : ℕ → Runs → Type 0
Under high [] = Unit {0}
Under high (r ∷ rs) = (key_run r < high) × Under high rs

pub from_append : (low : ℕ) (a b : Runs) → From low a → From low b → From low (a ++ b)
from_append low [] b f g = g
from_append low (r ∷ a) b f g = f

-- keys are below a higher bound too, and stay below one if runs below it are put among them
pub under_more : (low high : ℕ) (rs : Runs) → low ≤ high → Under low rs → Under high rs
under_more low high [] le u = tt
under_more low high (r ∷ rs) le u = (omega (arith, u.0), under_more low high rs le u.1)

under_append : (high : ℕ) (a b : Runs) → Under high a → Under high b → Under high (a ++ b)
under_append high [] b u v = v
under_append high (r ∷ a) b u v = (u.0, under_append high a b u.1 v)

pub under-swap : (key high : ℕ) (new rs : Runs) → Under high new → Under high rs → Under high (swap key new rs)
unfolding swap
under-swap key high new [] u v = u
under-swap key high new (r ∷ rs) u v = by (ltb (key_run r) key) (eqb (key_run r) key) (under-swap key high new rs u v.1)
  where
    by : (s t : Bool) → Under high (swap key new rs) → Under high (pick s (r ∷ swap key new rs) (pick t (new ++ rs) (new ++ r ∷ rs)))
    by true t rest = (v.0, rest)
    by false true rest = under_append high new rs u v.1
    by false false rest = under_append high new (r ∷ rs) u v

-- the first run by its key
module _ (key : ℕ) (r : List Cell) (rs : Runs) where
  module _ (h : key_run r < key) where
    pub swap_less : (new : Runs) → swap key new (r ∷ rs) ≡ r ∷ swap key new rs
    unfolding swap
    swap_less new = rw (lt-ltb (key_run r) key h)

    pub lookup_less : lookup key (r ∷ rs) ≡ lookup key rs
    unfolding lookup
    lookup_less = rw (lt-ltb (key_run r) key h)

  module _ (h : key_run r ≡ key) where
    pub swap_same : (new : Runs) → swap key new (r ∷ rs) ≡ new ++ rs
    unfolding swap
    swap_same new = rw (le-ltb (key_run r) key (omega arith), eq-eqb (key_run r) key h)

    pub lookup_same : lookup key (r ∷ rs) ≡ Some r
    unfolding lookup
    lookup_same = rw (le-ltb (key_run r) key (omega arith), eq-eqb (key_run r) key h)

-- no run has the key, nor any that is less
module _ (key : ℕ) where
  pub swap_from : (new rs : Runs) → From (key + 1) rs → swap key new rs ≡ new ++ rs
  unfolding swap
  swap_from new [] h = sym (append-nil new)
  swap_from new (r ∷ rs) h = rw (le-ltb (key_run r) key (omega arith), ne_eqb (key_run r) key (omega arith))

  pub lookup_from : (rs : Runs) → From (key + 1) rs → lookup key rs ≡ None
  unfolding lookup
  lookup_from [] h = refl
  lookup_from (r ∷ rs) h = rw (le-ltb (key_run r) key (omega arith), ne_eqb (key_run r) key (omega arith))

-- all keys of the first list are less
module _ (key : ℕ) where
  pub swap_under : (new a b : Runs) → Under key a → swap key new (a ++ b) ≡ a ++ swap key new b
  swap_under new [] b u = refl
  swap_under new (r ∷ a) b u = swap_less key r (a ++ b) u.0 new ∙ ap (λ l. r ∷ l) (swap_under new a b u.1)

  pub lookup_under : (a b : Runs) → Under key a → lookup key (a ++ b) ≡ lookup key b
  lookup_under [] b u = refl
  lookup_under (r ∷ a) b u = lookup_less key r (a ++ b) u.0 ∙ lookup_under a b u.1

-- the second list begins above the key
module _ (key : ℕ) (b : Runs) (f : From (key + 1) b) where
  pub swap_before : (new a : Runs) → swap key new (a ++ b) ≡ swap key new a ++ b
  unfolding swap
  swap_before new [] = swap_from key new b f
  swap_before new (r ∷ a) = by (ltb (key_run r) key) (eqb (key_run r) key) (swap_before new a)
    where
      by : (t u : Bool) → swap key new (a ++ b) ≡ swap key new a ++ b
          → pick t (r ∷ swap key new (a ++ b)) (pick u (new ++ (a ++ b)) (new ++ r ∷ (a ++ b))) ≡ pick t (r ∷ swap key new a) (pick u (new ++ a) (new ++ r ∷ a)) ++ b
      by true u rest = ap (λ l. r ∷ l) rest
      by false true rest = sym (append_assoc new a b)
      by false false rest = sym (append_assoc new (r ∷ a) b)

  pub lookup_before : (a : Runs) → lookup key (a ++ b) ≡ lookup key a
  unfolding lookup
  lookup_before [] = lookup_from key b f
  lookup_before (r ∷ a) = ap (λ o. pick (ltb (key_run r) key) o (pick (eqb (key_run r) key) (Some r) None)) (lookup_before a)

-- how many cells there are then
abbrev pub cells_of : Option (List Cell) → ℕ
cells_of None = 0
cells_of (Some r) = length r

pub total_append : (a b : Runs) → total (a ++ b) ≡ total a + total b
unfolding total
total_append [] b = omega arith
total_append (r ∷ a) b = omega (arith, total_append a b)

pub total-swap : (key : ℕ) (new rs : Runs) → total (swap key new rs) + cells_of (lookup key rs) ≡ total rs + total new
unfolding total swap lookup
total-swap key new [] = omega arith
total-swap key new (r ∷ rs) = by (ltb (key_run r) key) (eqb (key_run r) key) (total-swap key new rs)
  where
    by : (t u : Bool) → total (swap key new rs) + cells_of (lookup key rs) ≡ total rs + total new
        → total (pick t (r ∷ swap key new rs) (pick u (new ++ rs) (new ++ r ∷ rs))) + cells_of (pick t (lookup key rs) (pick u (Some r) None)) ≡ length r + total rs + total new
    by true u rest = omega arith
    by false true rest = omega (arith, total_append new rs)
    by false false rest = omega (arith, total_append new (r ∷ rs))
