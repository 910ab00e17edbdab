-- Laws of specs/Moves.antt: what stands where after a move, and a turn of each loop that moves. Assumes nothing.
use mathlib.Core.Path.{◌≡◌, refl, sym, ap, ap₂, ◌∙◌}
use mathlib.Core.List.{List}
use Prim.Native.Nat.{ℕ, zero, suc, ◌+◌, ◌-◌, ◌<◌, ◌≤◌}
use native.Mathlib.Omega.{arith}
use native.Mathlib.Decide.{ℕ_discrete}
use native.Mathlib.Nat.{add-zero, add-suc, suc-add}
use native.Mathlib.Numerals.{add-one}
use lib.ListN.{length, get_or, set, length-set}
use lib.Seq.{get_or-set_same, get_or-set_other, set-get_or, set_comm}
use Rattle.area.specs.Cells.{blank, cells, CellsNow}
use Rattle.area.specs.Moves.{moved}
use Rattle.area.specs.declared.Cell.{Cell}

pub length_moved : (cs : List Cell) (f t n : ℕ) → length (moved cs f t n) ≡ length cs
unfolding moved
length_moved cs f t zero = refl
length_moved cs f t (suc n) = simp length-set (length_moved cs f t n)

-- onto its own place
pub moved_same : (cs : List Cell) (f n : ℕ) → moved cs f f n ≡ cs
unfolding moved
moved_same cs f zero = refl
moved_same cs f (suc n) = ap (λ l. set l (f + n) (get_or cs (f + n) blank)) (moved_same cs f n) ∙ set-get_or cs (f + n) blank

pub moved_nowhere : (xs : List ℕ) (f t n : ℕ) → t ≡ f → CellsNow xs xs (moved (cells xs) f t n)
moved_nowhere xs f t n e = record { same = refl; bytes = refl; rest = λ j le. refl; cells = sym (ap (λ x. moved (cells xs) f x n) e ∙ moved_same (cells xs) f n) }

-- what is not written is as it was
pub moved_below : (cs : List Cell) (f t n j : ℕ) → j < t → get_or (moved cs f t n) j blank ≡ get_or cs j blank
unfolding moved
moved_below cs f t zero j h = refl
moved_below cs f t (suc n) j h = get_or-set_other (moved cs f t n) (t + n) j (get_or cs (f + n) blank) blank (omega arith) ∙ moved_below cs f t n j h

pub moved_above : (cs : List Cell) (f t n j : ℕ) → t + n ≤ j → get_or (moved cs f t n) j blank ≡ get_or cs j blank
unfolding moved
moved_above cs f t zero j h = refl
moved_above cs f t (suc n) j h = get_or-set_other (moved cs f t n) (t + n) j (get_or cs (f + n) blank) blank (omega arith) ∙ moved_above cs f t n j (omega arith)

-- what is written is what stood there before
pub moved_in : (cs : List Cell) (f t n i : ℕ) → t + n ≤ length cs → i < n → get_or (moved cs f t n) (t + i) blank ≡ get_or cs (f + i) blank
unfolding moved
moved_in cs f t zero i r h = absurd (omega arith)
moved_in cs f t (suc n) i r h = go (ℕ_discrete i n) (λ lt. moved_in cs f t n i (omega arith) lt)
  where
    go : Dec (i ≡ n) → (i < n → get_or (moved cs f t n) (t + i) blank ≡ get_or cs (f + i) blank) → get_or (set (moved cs f t n) (t + n) (get_or cs (f + n) blank)) (t + i) blank ≡ get_or cs (f + i) blank
    go (yes e) ih = rw e (get_or-set_same (moved cs f t n) (t + n) (get_or cs (f + n) blank) blank (omega (arith, length_moved cs f t n)))
    go (no d) ih = get_or-set_other (moved cs f t n) (t + n) (t + i) (get_or cs (f + n) blank) blank (λ e. d (omega arith)) ∙ ih (omega arith)

pub moved_none : (cs : List Cell) (f t n : ℕ) → n ≡ 0 → cs ≡ moved cs f t n
unfolding moved
moved_none cs f t n e = rw e

-- nothing is moved yet
pub turn-first : (xs : List ℕ) (f t n : ℕ) → n ≡ 0 → CellsNow xs xs (moved (cells xs) f t n)
turn-first xs f t n e = record { same = refl; bytes = refl; rest = λ j le. refl; cells = moved_none (cells xs) f t n e }

-- one cell more after the last, and before the first
last : (cs : List Cell) (f t n : ℕ) → set (moved cs f t n) (t + n) (get_or cs (f + n) blank) ≡ moved cs f t (n + 1)
unfolding moved
last cs f t n = rw add-one

first : (cs : List Cell) (f t n : ℕ) → set (moved cs (suc f) (suc t) n) t (get_or cs f blank) ≡ moved cs f t (suc n)
unfolding moved
first cs f t zero = simp add-zero
first cs f t (suc n) =
    set_comm (moved cs (suc f) (suc t) n) (suc t + n) t (get_or cs (suc f + n) blank) (get_or cs f blank) (omega arith)
    ∙ rw (first cs f t n) (simp (add-suc, suc-add))

-- a turn of the loop that copies the first first, from xs, with ys before it and zs after it
pub turn_down :
    (xs ys zs : List ℕ) (c : Cell) (f t i : ℕ) →
    t ≤ f →
    CellsNow xs ys (moved (cells xs) f t i) →
    c ≡ get_or (cells ys) (f + i) blank →
    CellsNow ys zs (set (cells ys) (t + i) c) →
    CellsNow xs zs (moved (cells xs) f t (i + 1))
turn_down xs ys zs c f t i le done read put =
    let cs : List Cell = cells xs in
    let was : c ≡ get_or cs (f + i) blank = read ∙ ap (λ l. get_or l (f + i) blank) done.cells ∙ moved_above cs f t i (f + i) (omega arith) in
    record {
      same = put.same ∙ done.same;
      bytes = put.bytes ∙ done.bytes;
      rest = λ j le. put.rest j (omega (arith, done.same)) ∙ done.rest j le;
      cells = put.cells ∙ ap₂ (λ l d. set l (t + i) d) done.cells was ∙ last cs f t i;
    }

-- a turn of the loop that copies the last first: i are left
pub turn_up :
    (xs ys zs : List ℕ) (c : Cell) (f t n i : ℕ) →
    f ≤ t →
    0 < i →
    i ≤ n →
    CellsNow xs ys (moved (cells xs) (f + i) (t + i) (n - i)) →
    c ≡ get_or (cells ys) (f + (i - 1)) blank →
    CellsNow ys zs (set (cells ys) (t + (i - 1)) c) →
    CellsNow xs zs (moved (cells xs) (f + (i - 1)) (t + (i - 1)) (n - (i - 1)))
turn_up xs ys zs c f t n i le lt most done read put =
    let cs : List Cell = cells xs in
    let was : c ≡ get_or cs (f + (i - 1)) blank = read ∙ ap (λ l. get_or l (f + (i - 1)) blank) done.cells ∙ moved_below cs (f + i) (t + i) (n - i) (f + (i - 1)) (omega arith) in
    let p : f + i ≡ suc (f + (i - 1)) = omega arith in
    let q : t + i ≡ suc (t + (i - 1)) = omega arith in
    let r : n - (i - 1) ≡ suc (n - i) = omega arith in
    record {
      same = put.same ∙ done.same;
      bytes = put.bytes ∙ done.bytes;
      rest = λ j le. put.rest j (omega (arith, done.same)) ∙ done.rest j le;
      cells = put.cells ∙ ap₂ (λ l d. set l (t + (i - 1)) d) done.cells was ∙ rw (p, q, r) (first cs (f + (i - 1)) (t + (i - 1)) (n - i));
    }
