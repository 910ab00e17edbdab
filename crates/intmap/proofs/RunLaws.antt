-- The laws of columns as runs: how many cells each kind takes, what a loop over columns goes by, and when two compare the same. Assumes nothing.
use mathlib.Core.Path.{◌≡◌, refl, sym, ap, ap₂, ◌∙◌}
use mathlib.Core.List.{List}
use mathlib.Core.Bool.{Bool, true, false, ◌&&◌, false≢true}
use Prim.Native.Nat.{ℕ, zero, suc, ◌+◌, ◌-◌, ◌<◌, ◌≤◌}
use native.Mathlib.Omega.{arith}
use lib.ListN.{get_or}
use lib.Dec.{eqb}
use borrow.Author.Tests.{eq-eqb, ne_eqb, eqb-true}
use Rattle.area.specs.Cells.{blank, cells, Inside}
use Rattle.area.specs.declared.Cell.{Cell}
use Rattle.intmap.specs.Pack.{tag_of}
use Rattle.intmap.specs.Runs.{sizes, whole, size, IsColumn, same_cell, each_same, inside, eq_column, eq_columns}

pub size_none : (cs : List Cell) (d at : ℕ) → d ≡ 0 → 1 ≡ size cs d at
unfolding size
size_none cs d at e = rw e

pub size-single : (cs : List Cell) (d at : ℕ) (x : Cell) → x ≡ get_or cs at blank → (tag_of x ≡ 2 → ⊥) → 1 ≡ size cs d at
unfolding size whole
size-single cs zero at x e h = refl
size-single cs (suc d) at x e h = rw (← e, ne_eqb (tag_of x) 2 h)

pub size_record : (cs : List Cell) (d at : ℕ) (x : Cell) → x ≡ get_or cs at blank → 0 < d → tag_of x ≡ 2 → 1 + sizes (size cs (d - 1)) x.payload (at + 1) ≡ size cs d at
unfolding size whole
size_record cs zero at x e f h = absurd (omega arith)
size_record cs (suc d) at x e f h = let p : suc d - 1 ≡ d = omega arith in rw (← e, eq-eqb (tag_of x) 2 h, p)

-- a record with no columns
pub size-empty : (cs : List Cell) (d at : ℕ) (x : Cell) → x ≡ get_or cs at blank → tag_of x ≡ 2 → x.payload ≡ 0 → 1 ≡ size cs d at
unfolding sizes size
size-empty cs zero at x e h z = refl
size-empty cs (suc d) at x e h z = ap (λ n. 1 + sizes (size cs (suc d - 1)) n (at + 1)) (sym z) ∙ size_record cs (suc d) at x e (omega arith) h

-- a loop over columns: k cells are behind it, and n columns are ahead
pub sizes_end : (f : ℕ → ℕ) (n at k s : ℕ) → n ≤ 0 → k + sizes f n (at + k) ≡ s → k ≡ s
unfolding sizes
sizes_end f zero at k s le h = omega arith
sizes_end f (suc n) at k s le h = absurd (omega arith)

pub sizes_step : (f : ℕ → ℕ) (n at : ℕ) → 0 < n → sizes f n at ≡ f at + sizes f (n - 1) (at + f at)
unfolding sizes
sizes_step f zero at lt = absurd (omega arith)
sizes_step f (suc n) at lt = let e : suc n - 1 ≡ n = omega arith in rw e

pub sizes_room : (f : ℕ → ℕ) (n at k s : ℕ) → 0 < n → k + sizes f n (at + k) ≡ s → k + f (at + k) ≤ s
sizes_room f n at k s lt h = omega (arith, sizes_step f n (at + k) lt)

pub sizes-turn : (f : ℕ → ℕ) (n at k r s : ℕ) → 0 < n → r ≡ f (at + k) → k + sizes f n (at + k) ≡ s → k + r + sizes f (n - 1) (at + (k + r)) ≡ s
sizes-turn f n at k r s lt e h =
    let a : at + (k + r) ≡ at + k + f (at + k) = omega arith in
    rw a (omega (arith, sizes_step f n (at + k) lt))

-- the same, where the place that the next turn begins at is given
pub sizes_then : (f : ℕ → ℕ) (n at k r s k' : ℕ) → k' ≡ k + r → 0 < n → r ≡ f (at + k) → k + sizes f n (at + k) ≡ s → k' + sizes f (n - 1) (at + k') ≡ s
sizes_then f n at k r s k' e lt g h = rw e (sizes-turn f n at k r s lt g h)

whole_pos : (f : ℕ → ℕ) (b : Bool) (n p : ℕ) → 1 ≤ whole f b n p
unfolding whole
whole_pos f true n p = omega arith
whole_pos f false n p = omega arith

pub size-pos : (cs : List Cell) (d at : ℕ) → 1 ≤ size cs d at
unfolding size
size-pos cs zero at = omega arith
size-pos cs (suc d) at = whole_pos (size cs d) (eqb (tag_of (get_or cs at blank)) 2) (get_or cs at blank).payload at

-- a column's first cell lies within the area
pub first-inside : (xs : List ℕ) (d at : ℕ) → IsColumn (cells xs) d at → Inside xs at 1
first-inside xs d at is = record { within = omega (arith, is.fits, size-pos (cells xs) d at); small = is.small }

-- what the first part and the second of a test that holds say
pub and_left : (x y : Bool) → x && y ≡ true → x ≡ true
and_left true y h = refl
and_left false y h = absurd (false≢true h)

pub and_right : (x y : Bool) → x && y ≡ true → y ≡ true
and_right true y h = h
and_right false y h = absurd (false≢true h)

and-false : (x : Bool) → x && false ≡ false
and-false true = refl
and-false false = refl

module _ (e : ℕ → ℕ → Bool) (f : ℕ → ℕ) (long : (a b : ℕ) → e a b ≡ true → f b ≡ f a) where
  each_sizes : (n a b : ℕ) → each_same e f n a b ≡ true → sizes f n b ≡ sizes f n a
  unfolding each_same sizes
  each_sizes zero a b h = refl
  each_sizes (suc n) a b h =
      ap₂ (λ (x y : ℕ). x + y) (long a b (and_left (e a b) _ h)) (each_sizes n (a + f a) (b + f b) (and_right (e a b) _ h))

  inside_whole : (t : Bool) (n a b : ℕ) → inside t (each_same e f n (a + 1) (b + 1)) ≡ true → whole f t n b ≡ whole f t n a
  unfolding inside whole
  inside_whole true n a b h = ap (λ (x : ℕ). 1 + x) (each_sizes n (a + 1) (b + 1) h)
  inside_whole false n a b h = refl

-- columns that are the same are as long
pub same_size : (cs : List Cell) (d a b : ℕ) → eq_column cs d a b ≡ true → size cs d b ≡ size cs d a
unfolding eq_column size
same_size cs zero a b h = refl
same_size cs (suc d) a b h =
    let x = get_or cs a blank in
    let y = get_or cs b blank in
    let w = and_left (same_cell x y) _ h in
    let head : x.head ≡ y.head = eqb-true _ _ (and_left (eqb x.head y.head) _ w) in
    let payload : x.payload ≡ y.payload = eqb-true _ _ (and_right (eqb x.head y.head) _ w) in
    rw (← head, ← payload) (inside_whole (eq_column cs d) (size cs d) (same_size cs d) _ _ _ _ (and_right (same_cell x y) _ h))

module _ (cs : List Cell) (a b : ℕ) (x y : Cell) (p : x ≡ get_or cs a blank) (q : y ≡ get_or cs b blank) where
  pub eq_heads : (d : ℕ) → (x.head ≡ y.head → ⊥) → false ≡ eq_column cs d a b
  unfolding eq_column
  eq_heads zero h = rw (← p, ← q, ne_eqb _ _ h)
  eq_heads (suc d) h = rw (← p, ← q, ne_eqb _ _ h)

  pub eq_loads : (d : ℕ) → (x.payload ≡ y.payload → ⊥) → false ≡ eq_column cs d a b
  unfolding eq_column
  eq_loads zero g = rw (← p, ← q, ne_eqb _ _ g, and-false)
  eq_loads (suc d) g = rw (← p, ← q, ne_eqb _ _ g, and-false)

  pub eq_none : (d : ℕ) → x.head ≡ y.head → x.payload ≡ y.payload → d ≡ 0 → true ≡ eq_column cs d a b
  unfolding eq_column
  eq_none d h g z = rw (z, ← p, ← q, eq-eqb _ _ h, eq-eqb _ _ g)

  pub eq_single : (d : ℕ) → x.head ≡ y.head → x.payload ≡ y.payload → (tag_of x ≡ 2 → ⊥) → true ≡ eq_column cs d a b
  unfolding eq_column inside
  eq_single zero h g z = rw (← p, ← q, eq-eqb _ _ h, eq-eqb _ _ g)
  eq_single (suc d) h g z = rw (← p, ← q, eq-eqb _ _ h, eq-eqb _ _ g, ne_eqb _ _ z)

  pub eq_record : (d : ℕ) → x.head ≡ y.head → x.payload ≡ y.payload → 0 < d → tag_of x ≡ 2 → eq_columns cs (d - 1) x.payload (a + 1) (b + 1) ≡ eq_column cs d a b
  unfolding eq_column eq_columns inside
  eq_record zero h g f z = absurd (omega arith)
  eq_record (suc d) h g f z = let e : suc d - 1 ≡ d = omega arith in rw (e, ← p, ← q, eq-eqb _ _ h, eq-eqb _ _ g, eq-eqb _ _ z)

module _ (cs : List Cell) (d : ℕ) where
  pub eqs_end : (n a b : ℕ) → n ≤ 0 → true ≡ eq_columns cs d n a b
  unfolding eq_columns each_same
  eqs_end zero a b h = refl
  eqs_end (suc n) a b h = absurd (omega arith)

  pub eqs_stop : (n a b : ℕ) → 0 < n → eq_column cs d a b ≡ false → eq_columns cs d n a b ≡ false
  unfolding eq_columns each_same
  eqs_stop zero a b h e = absurd (omega arith)
  eqs_stop (suc n) a b h e = rw e

  pub eqs_turn : (n a b k r : ℕ) → 0 < n → eq_column cs d (a + k) (b + k) ≡ true → r ≡ size cs d (a + k) → eq_columns cs d (n - 1) (a + (k + r)) (b + (k + r)) ≡ eq_columns cs d n (a + k) (b + k)
  unfolding eq_columns each_same
  eqs_turn zero a b k r h e g = absurd (omega arith)
  eqs_turn (suc n) a b k r h e g =
      let x : a + (k + r) ≡ a + k + size cs d (a + k) = omega arith in
      let y : b + (k + r) ≡ b + k + size cs d (b + k) = omega (arith, same_size cs d (a + k) (b + k) e) in
      let z : suc n - 1 ≡ n = omega arith in
      rw (x, y, z, e)

pub same-cell : (x y : Cell) → x.head ≡ y.head → x.payload ≡ y.payload → x ≡ y
same-cell x y p q = λ i. record { head = p i; payload = q i }

-- a loop of n turns: what is left in turn k, after it, and at the end
pub some_left : {n k : ℕ} → k < n → 0 < n - k
some_left lt = omega (arith, lt)

pub one_less : (n k : ℕ) → n - (k + 1) ≡ n - k - 1
one_less n k = omega arith

pub none_left : {n k : ℕ} → n ≤ k → n - k ≤ 0
none_left le = omega (arith, le)

-- a loop that goes on from `at` itself
pub sizes_on : (f : ℕ → ℕ) (n at r m : ℕ) → 0 < n → r ≡ f at → at + sizes f n at ≤ m → at + r + sizes f (n - 1) (at + r) ≤ m
sizes_on f n at r m lt e h = rw e (omega (arith, sizes_step f n at lt))
