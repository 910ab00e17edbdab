-- What a word's number is, and what +1, −1, =, ≤, positive, a difference, the low byte, an index, a count and a row are through the offset.
-- Assumes nothing.
use mathlib.Core.Path.{◌≡◌, refl, sym, ap, ap₂, subst, ◌∙◌}
use mathlib.Core.Bool.{Bool, true, false, cond}
use Rattle.std.specs.Prelude.{None, slice_get}
use mathlib.Core.List.{List}
use Prim.Native.Nat.{ℕ, zero, suc, ◌+◌, ◌-◌, ◌%◌, ◌<◌, ◌≤◌}
use native.Mathlib.Omega.{arith}
use native.Mathlib.Decide.{dec_lt}
use lib.Dec.{leb, ltb, eqb}
use lib.IntN.{ℤ, pos, negsuc, suc_ℤ, pred_ℤ, sub_ℕ, ◌-ℤ◌}
use lib.Signed.{le_z}
use borrow.Author.Tests.{ltb-true, lt-ltb, le-ltb, leb-true, le-leb, lt-leb, eqb-true, eq-eqb}
use Rattle.model.specs.Walk.{refused, done}
use Rattle.model.specs.Row.{Row}
use Rattle.model.specs.Equality.{eq_int}
use Rattle.model.specs.Offer.{turns, row_at}
use Rattle.model.specs.Access.{index, index_if, count_of}
use Rattle.model.specs.IfPosArm.{is_positive}
use Rattle.model.specs.RegisterArms.{low_byte}
use Rattle.model.proofs.Same.{int_decides}
use Rattle.intmap.specs.Signed.{offset, int_if, int_of, word_of, Small}

-- a word below the offset, and one that is not
module _ (w : ℕ) where
  pub int_below : w < offset → int_of w ≡ negsuc (offset - 1 - w)
  unfolding int_of
  int_below h = ap (λ b. int_if b w) (lt-ltb w offset h)

  pub int_above : offset ≤ w → int_of w ≡ pos (w - offset)
  unfolding int_of
  int_above h = ap (λ b. int_if b w) (le-ltb w offset h)

  -- an index, a number of columns, a row of the listing
  pub index_below : w < offset → index (int_of w) ≡ refused 6
  unfolding index
  index_below h = ap index (int_below h)

  pub index_above : 65535 + offset < w → index (int_of w) ≡ refused 7
  unfolding index
  index_above h = ap index (int_above (omega arith)) ∙ ap (λ b. index_if b (w - offset)) (lt-leb (w - offset) 65535 (omega arith))

  pub index_within : offset ≤ w → w ≤ 65535 + offset → index (int_of w) ≡ done (w - offset)
  unfolding index
  index_within h g = ap index (int_above h) ∙ ap (λ b. index_if b (w - offset)) (le-leb (w - offset) 65535 (omega arith))

  pub count_below : w < offset → count_of (int_of w) ≡ refused 6
  unfolding count_of
  count_below h = ap count_of (int_below h)

  pub count_above : offset ≤ w → count_of (int_of w) ≡ done (w - offset)
  unfolding count_of
  count_above h = ap count_of (int_above h)

  pub row_below : (rows : List Row) → w < offset → row_at rows (int_of w) ≡ None
  unfolding row_at
  row_below rows h = ap (row_at rows) (int_below h)

  pub row_above : (rows : List Row) → offset ≤ w → row_at rows (int_of w) ≡ slice_get rows (w - offset)
  unfolding row_at
  row_above rows h = ap (row_at rows) (int_above h)

-- two tests that imply one another
pub iff : {p q : Bool} → (p ≡ true → q ≡ true) → (q ≡ true → p ≡ true) → p ≡ q
iff {p = true} f g = sym (f refl)
iff {p = false} {q = true} f g = g refl
iff {p = false} {q = false} f g = refl

-- either way
by_sign : (P : ℕ → Type 0) (w : ℕ) → (w < offset → P w) → (offset ≤ w → P w) → P w
by_sign P w below above = go (dec_lt w offset)
  where
    go : Dec (w < offset) → P w
    go (yes h) = below h
    go (no h) = above (omega arith)

-- words and numbers, there and back
pub word_int : (w : ℕ) → word_of (int_of w) ≡ w
word_int w = by_sign (λ w. word_of (int_of w) ≡ w) w (λ h. ap word_of (int_below w h) ∙ omega arith) (λ h. ap word_of (int_above w h) ∙ omega arith)

pub int_word : (bound : ℕ) (i : ℤ) → bound ≤ offset → Small bound i → int_of (word_of i) ≡ i
int_word bound (pos k) h s = int_above (offset + k) (omega arith) ∙ ap pos (omega arith)
int_word bound (negsuc k) h s = int_below (offset - 1 - k) (omega arith) ∙ ap negsuc (omega arith)

pub int_injective : (w v : ℕ) → int_of w ≡ int_of v → w ≡ v
int_injective w v e = sym (word_int w) ∙ ap word_of e ∙ word_int v

pub word-injective : (bound : ℕ) (i j : ℤ) → bound ≤ offset → Small bound i → Small bound j → word_of i ≡ word_of j → i ≡ j
word-injective bound i j h p q e = sym (int_word bound i h p) ∙ ap int_of e ∙ int_word bound j h q

-- the word of a small number
pub word-least : (bound : ℕ) (i : ℤ) → Small bound i → offset ≤ word_of i + bound
word-least bound (pos k) s = omega arith
word-least bound (negsuc k) s = omega arith

pub word_most : (bound : ℕ) (i : ℤ) → Small bound i → word_of i ≤ offset + bound
word_most bound (pos k) s = omega arith
word_most bound (negsuc k) s = omega arith

-- and the number of a word that is near the offset
pub small_int : (bound w : ℕ) → offset ≤ w + bound → w ≤ offset + bound → Small bound (int_of w)
small_int bound w =
    by_sign (λ w. offset ≤ w + bound → w ≤ offset + bound → Small bound (int_of w)) w
    (λ h p q. subst (Small bound) (sym (int_below w h)) (omega arith))
    (λ h p q. subst (Small bound) (sym (int_above w h)) (omega arith))

pub small_more : (bound more : ℕ) (i : ℤ) → bound ≤ more → Small bound i → Small more i
small_more bound more (pos k) h s = omega arith
small_more bound more (negsuc k) h s = omega arith

-- one more and one less
pub int_suc : (w : ℕ) → suc_ℤ (int_of w) ≡ int_of (w + 1)
int_suc w =
    by_sign (λ w. suc_ℤ (int_of w) ≡ int_of (w + 1)) w
    (λ h. ap suc_ℤ (int_below w h) ∙ go (offset - 1 - w) refl h)
    (λ h. ap suc_ℤ (int_above w h) ∙ ap pos (omega arith) ∙ sym (int_above (w + 1) (omega arith)))
  where
    go : (n : ℕ) → offset - 1 - w ≡ n → w < offset → suc_ℤ (negsuc n) ≡ int_of (w + 1)
    go zero e h = ap pos (omega arith) ∙ sym (int_above (w + 1) (omega arith))
    go (suc n) e h = ap negsuc (omega arith) ∙ sym (int_below (w + 1) (omega arith))

pub int_pred : (w : ℕ) → 0 < w → pred_ℤ (int_of w) ≡ int_of (w - 1)
int_pred w =
    by_sign (λ w. 0 < w → pred_ℤ (int_of w) ≡ int_of (w - 1)) w
    (λ h g. ap pred_ℤ (int_below w h) ∙ ap negsuc (omega arith) ∙ sym (int_below (w - 1) (omega arith)))
    (λ h g. ap pred_ℤ (int_above w h) ∙ go (w - offset) refl h)
  where
    go : (n : ℕ) → w - offset ≡ n → offset ≤ w → pred_ℤ (pos n) ≡ int_of (w - 1)
    go zero e h = ap negsuc (omega arith) ∙ sym (int_below (w - 1) (omega arith))
    go (suc n) e h = ap pos (omega arith) ∙ sym (int_above (w - 1) (omega arith))

-- of a number: its word, and how small it stays
pub word-suc : (bound : ℕ) (i : ℤ) → bound < offset → Small bound i → word_of (suc_ℤ i) ≡ word_of i + 1
word-suc bound (pos k) h s = omega arith
word-suc bound (negsuc zero) h s = omega arith
word-suc bound (negsuc (suc k)) h s = omega arith

pub word_pred : (i : ℤ) → word_of (pred_ℤ i) ≡ word_of i - 1
word_pred (pos zero) = omega arith
word_pred (pos (suc k)) = omega arith
word_pred (negsuc k) = omega arith

pub small_suc : (bound : ℕ) (i : ℤ) → Small bound i → Small (bound + 1) (suc_ℤ i)
small_suc bound (pos k) s = omega arith
small_suc bound (negsuc zero) s = omega arith
small_suc bound (negsuc (suc k)) s = omega arith

pub small_pred : (bound : ℕ) (i : ℤ) → Small bound i → Small (bound + 1) (pred_ℤ i)
small_pred bound (pos zero) s = omega arith
small_pred bound (pos (suc k)) s = omega arith
small_pred bound (negsuc k) s = omega arith

-- the same, at most, positive
pub int_same : (w v : ℕ) → eq_int (int_of w) (int_of v) ≡ eqb w v
int_same w v =
    iff (λ h. eq-eqb w v (int_injective w v (int_decides.sound (int_of w) (int_of v) h)))
    (λ h. ap (λ x. eq_int (int_of w) (int_of x)) (sym (eqb-true w v h)) ∙ int_decides.reflexive (int_of w))

same_order : (a b c d : ℕ) → (a ≤ b → c ≤ d) → (c ≤ d → a ≤ b) → leb a b ≡ leb c d
same_order a b c d f g = iff (λ h. le-leb c d (f (leb-true a b h))) (λ h. le-leb a b (g (leb-true c d h)))

order_below : (w v : ℕ) → w < offset → le_z (negsuc (offset - 1 - w)) (int_of v) ≡ leb w v
order_below w v h =
    by_sign (λ v. le_z (negsuc (offset - 1 - w)) (int_of v) ≡ leb w v) v
    (λ g. ap (le_z (negsuc (offset - 1 - w))) (int_below v g) ∙ same_order (offset - 1 - v) (offset - 1 - w) w v (omega arith) (omega arith))
    (λ g. ap (le_z (negsuc (offset - 1 - w))) (int_above v g) ∙ sym (le-leb w v (omega arith)))

order_above : (w v : ℕ) → offset ≤ w → le_z (pos (w - offset)) (int_of v) ≡ leb w v
order_above w v h =
    by_sign (λ v. le_z (pos (w - offset)) (int_of v) ≡ leb w v) v
    (λ g. ap (le_z (pos (w - offset))) (int_below v g) ∙ sym (lt-leb w v (omega arith)))
    (λ g. ap (le_z (pos (w - offset))) (int_above v g) ∙ same_order (w - offset) (v - offset) w v (omega arith) (omega arith))

pub int_order : (w v : ℕ) → le_z (int_of w) (int_of v) ≡ leb w v
int_order w v =
    by_sign (λ w. le_z (int_of w) (int_of v) ≡ leb w v) w
    (λ h. ap (λ i. le_z i (int_of v)) (int_below w h) ∙ order_below w v h)
    (λ h. ap (λ i. le_z i (int_of v)) (int_above w h) ∙ order_above w v h)

pub int_positive : (w : ℕ) → is_positive (int_of w) ≡ ltb offset w
int_positive w =
    by_sign (λ w. is_positive (int_of w) ≡ ltb offset w) w
    (λ h. ap is_positive (int_below w h) ∙ sym (le-ltb offset w (omega arith)))
    (λ h. ap is_positive (int_above w h) ∙ go (w - offset) refl h)
  where
    go : (n : ℕ) → w - offset ≡ n → offset ≤ w → is_positive (pos n) ≡ ltb offset w
    go zero e h = sym (le-ltb offset w (omega arith))
    go (suc n) e h = sym (lt-ltb offset w (omega arith))

-- how many times a loop turns that a number tells
pub int_turns : (w : ℕ) → turns (int_of w) ≡ w - offset
int_turns w = by_sign (λ w. turns (int_of w) ≡ w - offset) w (λ h. ap turns (int_below w h) ∙ omega arith) (λ h. ap turns (int_above w h))

turns_subtract : (a b : ℕ) → turns (sub_ℕ a b) ≡ a - b
turns_subtract a b = by (ltb a b) refl
  where
    by : (t : Bool) → ltb a b ≡ t → turns (cond t (negsuc (b - suc a)) (pos (a - b))) ≡ a - b
    by true e = omega (arith, ltb-true a b e)
    by false e = refl

turns_difference : (i j : ℤ) → Small offset i → Small offset j → turns (i -ℤ j) ≡ word_of i - word_of j
turns_difference (pos a) (pos zero) p q = omega arith
turns_difference (pos a) (pos (suc b)) p q = turns_subtract a (suc b) ∙ omega arith
turns_difference (pos a) (negsuc b) p q = omega arith
turns_difference (negsuc a) (pos zero) p q = turns_subtract 0 (suc a) ∙ omega arith
turns_difference (negsuc a) (pos (suc b)) p q = omega arith
turns_difference (negsuc a) (negsuc b) p q = turns_subtract (suc b) (suc a) ∙ omega arith

pub int_difference : (w v : ℕ) → w ≤ offset + offset → v ≤ offset + offset → turns (int_of w -ℤ int_of v) ≡ w - v
int_difference w v p q =
    turns_difference (int_of w) (int_of v) (small_int offset w (omega arith) p) (small_int offset v (omega arith) q) ∙ ap₂ ◌-◌ (word_int w) (word_int v)

-- the low byte
pub int_low : (w : ℕ) → low_byte (int_of w) ≡ w % 256
unfolding low_byte
int_low w =
    by_sign (λ w. low_byte (int_of w) ≡ w % 256) w
    (λ h. ap low_byte (int_below w h) ∙ omega arith)
    (λ h. ap low_byte (int_above w h) ∙ omega arith)
