-- Decimal numbers: what one turn of the reader does, and the rule on leading zeros. Assumes nothing.
use mathlib.Core.Path.{◌≡◌, refl, sym, ap, ◌∙◌}
use mathlib.Core.Bool.{Bool, true, false, ◌&&◌, not, ◌||◌}
use Rattle.std.specs.Prelude.{Option, None, Some}
use mathlib.Core.List.{List, [], ◌∷◌}
use Prim.Native.Nat.{ℕ, ◌+◌, ◌*◌, ◌-◌, ◌≤◌, ◌<◌}
use native.Mathlib.Omega.{arith}
use native.Mathlib.Numerals.{add-one}
use lib.Dec.{leb, eqb}
use lib.ListN.{length, get_or, drop, drop_of_length-le}
use lib.Seq.{drop-cons}
use borrow.Author.Tests.{le-leb, lt-leb, leb-true, eq-eqb, ne_eqb}
use Rattle.type_info.specs.Ascii.{within}
use Rattle.model.specs.Reader.{◌then◌, only_if, ended, read_if}
use Rattle.model.specs.Numbers.{is_digit, read_digits, read_natural, read_up_to}
use Rattle.model.proofs.TestLaws.{cases, within-true}
use Rattle.model.proofs.ReaderLaws.{never, some_same, only_if-some, then_some}
use Rattle.text.specs.Digits.{digit_of, digits_up_to}

pub within_below : (low high b : ℕ) → b < low → within low high b ≡ false
within_below low high b h = ap (λ x. x && leb b high) (lt-leb low b h)

pub within_both : (low high b : ℕ) → low ≤ b → b ≤ high → within low high b ≡ true
within_both low high b h k = (within-true low high b).1 (h, k)

digit : (most n b : ℕ) (t : List ℕ) → is_digit b ≡ true → digits_up_to most n (b ∷ t) ≡ digits_up_to most (n * 10 + (b - 48)) t
unfolding digits_up_to read_digits
digit most n b t e = rw e

no_digit : (most n b : ℕ) (t : List ℕ) → is_digit b ≡ false → digits_up_to most n (b ∷ t) ≡ None
unfolding digits_up_to read_digits
no_digit most n b t e = rw e

-- more digits make it no smaller
above_most : (most n : ℕ) (t : List ℕ) → most < n → digits_up_to most n t ≡ None
unfolding digits_up_to read_digits
above_most most n [] h = rw lt-leb
above_most most n (b ∷ t) h = cases (is_digit b) (λ e. digit most n b t e ∙ above_most most (n * 10 + (b - 48)) t (omega arith)) (no_digit most n b t)

module _ (t : List ℕ) (i most n : ℕ) where
  module _ (h : i < length t) where
    pub byte_other : None ≡ digit_of (get_or t i 0) → None ≡ digits_up_to most n (drop i t)
    byte_other e = cases (is_digit (get_or t i 0)) (λ d. never (e ∙ ap (λ x. only_if x (Some (get_or t i 0 - 48))) d)) (λ d. sym (rw (drop-cons t i 0 h) (no_digit most n _ _ d)))

    pub digit_on : {d : ℕ} → Some d ≡ digit_of (get_or t i 0) → digits_up_to most (n * 10 + d) (drop (i + 1) t) ≡ digits_up_to most n (drop i t)
    digit_on {d} e = then_digit (is_digit (get_or t i 0)) refl e
      where
        then_digit : (x : Bool) → is_digit (get_or t i 0) ≡ x → Some d ≡ only_if x (Some (get_or t i 0 - 48)) → digits_up_to most (n * 10 + d) (drop (i + 1) t) ≡ digits_up_to most n (drop i t)
        then_digit false k e = never (sym e)
        then_digit true k e = rw (some_same e) (sym (rw (add-one, drop-cons t i 0 h) (digit most n _ _ k)))

    pub digit_over : {d : ℕ} → Some d ≡ digit_of (get_or t i 0) → most < n * 10 + d → None ≡ digits_up_to most n (drop i t)
    digit_over {d} e o = sym (above_most most (n * 10 + d) (drop (i + 1) t) o) ∙ digit_on e

    pub number_over : most < n * 10 → None ≡ digits_up_to most n (drop i t)
    number_over o = sym (rw (drop-cons t i 0 h) (cases (is_digit (get_or t i 0)) (λ d. digit most n _ _ d ∙ above_most most _ _ (omega arith)) (no_digit most n _ _)))

  pub digits_end : length t ≤ i → n ≤ most → Some n ≡ digits_up_to most n (drop i t)
  unfolding digits_up_to read_digits
  digits_end h p = rw (drop_of_length-le t h, le-leb n most p)

-- a number without leading zeros
abbrev up_to : ℕ → Option ℕ → Option ℕ
up_to most o = o then λ n. only_if (leb n most) (Some n)

as_up_to : (most : ℕ) (t : List ℕ) {o : Option ℕ} → o ≡ read_natural t → up_to most o ≡ read_up_to most t
unfolding read_up_to read_if
as_up_to most t e = ap (up_to most) e

first-digit : (b : ℕ) (t : List ℕ) (test : Bool) → not (eqb b 48) || ended t ≡ test → only_if test (read_digits 0 (b ∷ t)) ≡ read_natural (b ∷ t)
unfolding read_natural
first-digit b t test e = ap (λ x. only_if x (read_digits 0 (b ∷ t))) (sym e)

pub empty-number : (t : List ℕ) (most : ℕ) → length t ≡ 0 → None ≡ read_up_to most t
unfolding read_natural
empty-number [] most e = as_up_to most [] refl
empty-number (b ∷ t) most e = absurd (omega (arith, e))

pub one-digit : (t : List ℕ) (most : ℕ) → length t ≡ 1 → digits_up_to most 0 t ≡ read_up_to most t
unfolding digits_up_to
one-digit [] most e = absurd (omega (arith, e))
one-digit (b ∷ []) most e = as_up_to most (b ∷ []) (first-digit b [] true (cases (eqb b 48) (λ h. rw h) (λ h. rw h)))
one-digit (b ∷ d ∷ t) most e = absurd (omega (arith, e))

pub one_byte : (t : List ℕ) (most : ℕ) → length t ≡ 1 → digits_up_to most 0 (get_or t 0 0 ∷ []) ≡ read_up_to most t
unfolding digits_up_to
one_byte [] most e = absurd (omega (arith, e))
one_byte (b ∷ []) most e = as_up_to most (b ∷ []) (first-digit b [] true (cases (eqb b 48) (λ h. rw h) (λ h. rw h)))
one_byte (b ∷ d ∷ t) most e = absurd (omega (arith, e))

pub leading_zero : (t : List ℕ) (most : ℕ) → (length t ≡ 0 → ⊥) → (length t ≡ 1 → ⊥) → get_or t 0 0 ≡ 48 → None ≡ read_up_to most t
leading_zero [] most n o e = absurd (n refl)
leading_zero (b ∷ []) most n o e = absurd (o refl)
leading_zero (b ∷ d ∷ t) most n o e = as_up_to most (b ∷ d ∷ t) (first-digit b (d ∷ t) false (rw (eq-eqb b 48 e)))

pub other_digit : (t : List ℕ) (most : ℕ) → (length t ≡ 0 → ⊥) → (get_or t 0 0 ≡ 48 → ⊥) → digits_up_to most 0 t ≡ read_up_to most t
unfolding digits_up_to
other_digit [] most n o = absurd (n refl)
other_digit (b ∷ t) most n o = as_up_to most (b ∷ t) (first-digit b t true (rw (ne_eqb b 48 o)))

-- what is read is at most the greatest allowed
pub up_to_bound : (most : ℕ) (t : List ℕ) {n : ℕ} → Some n ≡ read_up_to most t → n ≤ most
unfolding read_up_to read_if
up_to_bound most t {n} e = then_some (read_natural t) (sym e) λ m is kept.
    let (small, same) = only_if-some (leb m most) kept in
    omega (arith, leb-true m most small, some_same same)
