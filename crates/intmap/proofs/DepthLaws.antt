-- The laws of nesting: what it is of each kind of column, and what a loop over columns goes by. Assumes nothing.
use mathlib.Core.Path.{◌≡◌, refl, ap}
use mathlib.Core.List.{List, ◌∷◌}
use mathlib.Core.Bool.{Bool, true, false}
use Prim.Native.Nat.{ℕ, zero, suc, ◌+◌, ◌-◌, ◌<◌, ◌≤◌, max}
use native.Mathlib.Omega.{arith}
use lib.ListN.{get_or}
use lib.Dec.{eqb}
use borrow.Author.Tests.{eq-eqb, ne_eqb}
use Rattle.area.specs.Cells.{blank}
use Rattle.area.specs.declared.Cell.{Cell}
use Rattle.intmap.specs.Pack.{tag_of}
use Rattle.intmap.specs.Runs.{size, sizes, whole}
use Rattle.intmap.specs.Entries.{Runs, span, entries}
use Rattle.intmap.specs.Depth.{deepest, under, nesting, nestings}

pub nesting-none : (cs : List Cell) (d p : ℕ) → d ≡ 0 → 0 ≡ nesting cs d p
unfolding nesting
nesting-none cs d p e = rw e

pub nesting-single : (cs : List Cell) (d p : ℕ) (x : Cell) → x ≡ get_or cs p blank → (tag_of x ≡ 2 → ⊥) → 0 ≡ nesting cs d p
unfolding nesting under
nesting-single cs zero p x e h = refl
nesting-single cs (suc d) p x e h = rw (← e, ne_eqb (tag_of x) 2 h)

pub nesting_record : (cs : List Cell) (d p : ℕ) (x : Cell) → x ≡ get_or cs p blank → 0 < d → tag_of x ≡ 2 → nestings cs (d - 1) x.payload (p + 1) + 1 ≡ nesting cs d p
unfolding nesting nestings under
nesting_record cs zero p x e f h = absurd (omega arith)
nesting_record cs (suc d) p x e f h = let q : suc d - 1 ≡ d = omega arith in rw (← e, eq-eqb (tag_of x) 2 h, q)

pub nestings_end : (cs : List Cell) (d n p b s : ℕ) → n ≤ 0 → max b (nestings cs d n p) ≡ s → b ≡ s
unfolding nestings deepest
nestings_end cs d zero p b s h e = omega arith
nestings_end cs d (suc n) p b s h e = absurd (omega arith)

pub nestings-turn : (cs : List Cell) (d n at k r b b' x s : ℕ) → 0 < n → r ≡ size cs d (at + k) → x ≡ nesting cs d (at + k) → b' ≡ max b x → max b (nestings cs d n (at + k)) ≡ s → max b' (nestings cs d (n - 1) (at + (k + r))) ≡ s
unfolding nestings deepest
nestings-turn cs d zero at k r b b' x s h g y w e = absurd (omega arith)
nestings-turn cs d (suc n) at k r b b' x s h g y w e =
    let q : suc n - 1 ≡ n = omega arith in
    let a : at + (k + r) ≡ at + k + size cs d (at + k) = omega arith in
    rw (q, a) (omega arith)

-- at most as deep as was asked for
module _ (e f : ℕ → ℕ) (d : ℕ) (each : (p : ℕ) → e p ≤ d) where
  deepest_most : (n p : ℕ) → deepest e f n p ≤ d
  unfolding deepest
  deepest_most zero p = omega arith
  deepest_most (suc n) p = omega (arith, each p, deepest_most n (p + f p))

under_most : (t : Bool) (m d : ℕ) → m ≤ d → under t m ≤ suc d
unfolding under
under_most true m d h = omega arith
under_most false m d h = omega arith

pub nesting_most : (cs : List Cell) (d p : ℕ) → nesting cs d p ≤ d
unfolding nesting
nesting_most cs zero p = omega arith
nesting_most cs (suc d) p = under_most (eqb (tag_of (get_or cs p blank)) 2) _ d (deepest_most (nesting cs d) (size cs d) d (nesting_most cs d) (get_or cs p blank).payload (p + 1))

-- where records nest no deeper than d, one level more makes no difference
module _ (e f g : ℕ → ℕ) (d : ℕ) (one : (p : ℕ) → e p ≤ d → f p ≡ g p) where
  sizes_deep : (n p : ℕ) → deepest e g n p ≤ d → sizes f n p ≡ sizes g n p
  unfolding sizes deepest
  sizes_deep zero p h = refl
  sizes_deep (suc n) p h =
      let x : f p ≡ g p = one p (omega arith) in
      rw x (ap (λ (y : ℕ). g p + y) (sizes_deep n (p + g p) (omega arith)))

  whole_deep : (t : Bool) (n p : ℕ) → under t (deepest e g n (p + 1)) ≤ suc d → whole f t n p ≡ whole g t n p
  unfolding whole under
  whole_deep true n p h = ap (λ (y : ℕ). 1 + y) (sizes_deep n (p + 1) (omega arith))
  whole_deep false n p h = refl

whole_flat : (g : ℕ → ℕ) (t : Bool) (m n p : ℕ) → under t m ≤ 0 → 1 ≡ whole g t n p
unfolding whole under
whole_flat g true m n p h = absurd (omega arith)
whole_flat g false m n p h = refl

pub size_deep : (cs : List Cell) (d p : ℕ) → nesting cs (suc d) p ≤ d → size cs d p ≡ size cs (suc d) p
unfolding size nesting
size_deep cs zero p h = whole_flat (size cs 0) (eqb (tag_of (get_or cs p blank)) 2) _ (get_or cs p blank).payload p h
size_deep cs (suc d) p h = whole_deep (nesting cs (suc d)) (size cs d) (size cs (suc d)) d (size_deep cs d) (eqb (tag_of (get_or cs p blank)) 2) (get_or cs p blank).payload p h

pub columns_deep : (cs : List Cell) (d n p : ℕ) → nestings cs (suc d) n p ≤ d → sizes (size cs d) n p ≡ sizes (size cs (suc d)) n p
unfolding nestings
columns_deep cs d n p h = sizes_deep (nesting cs (suc d)) (size cs d) (size cs (suc d)) d (size_deep cs d) n p h

pub entries_deep : (cs : List Cell) (d n p : ℕ) → nestings cs (suc d) n p ≤ d → entries cs d n p ≡ entries cs (suc d) n p
unfolding nestings deepest entries
entries_deep cs d zero p h = refl
entries_deep cs d (suc n) p h =
    let e : size cs d p ≡ size cs (suc d) p = size_deep cs d p (omega arith) in
    rw e (ap (λ (l : Runs). span cs p (size cs (suc d) p) ∷ l) (entries_deep cs d n (p + size cs (suc d) p) (omega arith)))
