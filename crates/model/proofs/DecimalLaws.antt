-- Laws of decimal numbers: each reader accepts exactly what its printer prints, and no printing holds an LF. Assumes nothing.
use mathlib.Core.Path.{◌≡◌, refl, sym, ap, ◌∙◌, subst}
use mathlib.Core.Bool.{true, false, not, ◌||◌, and-eq-true_iff, false≢true}
use Rattle.std.specs.Prelude.{Option, Some}
use mathlib.Core.List.{List, [], ◌∷◌, ◌++◌, append_assoc, append-nil}
use Prim.Native.Nat.{ℕ, zero, suc, ◌+◌, ◌*◌, ◌-◌, ◌/◌, ◌%◌, ◌≤◌, ◌<◌}
use native.Mathlib.Omega.{arith}
use lib.Dec.{ltb, eqb}
use lib.IntN.{ℤ, pos, negsuc}
use borrow.Author.Tests.{lt-ltb, le-ltb, ltb-true, ltb-false, le-leb, leb-true, eq-eqb, ne_eqb, eqb-true, eqb-false}
use Rattle.type_info.specs.All.{all_of}
use Rattle.model.specs.Reader.{◌then◌, only_if, ended, read_if}
use Rattle.model.specs.Numbers.{digits, print_natural, print_signed, is_digit, read_digits, read_natural, read_up_to, read_index, negative, signed_if, read_signed, Int32}
use Rattle.model.proofs.TestLaws.{cases, within-true, all_of_weaker, all_of_append}
use Rattle.model.proofs.ReaderLaws.{Any, never, some_same, then_some, only_if-true, only_if-some, exactly, reads, only}
use Rattle.model.proofs.FieldLaws.{NoLf, within_no_lf, Value, if_value}

-- Decimal, printed: a digit, or one more digit behind a number that is not 0.
digits_low : (most n : ℕ) → n < 10 → digits (suc most) n ≡ (48 + n) ∷ []
unfolding digits
digits_low most n h = rw (lt-ltb n 10 h, digits)

digits_high : (most n : ℕ) → 10 ≤ n → digits (suc most) n ≡ digits most (n / 10) ++ ((48 + n % 10) ∷ [])
unfolding digits
digits_high most n h = rw (le-ltb n 10 h, digits)

digits-enough : (f g n : ℕ) → n < f → n < g → digits f n ≡ digits g n
digits-enough zero g n h k = absurd (omega arith)
digits-enough (suc f) zero n h k = absurd (omega arith)
digits-enough (suc f) (suc g) n h k =
    cases (ltb n 10)
    (λ e. digits_low f n (ltb-true n 10 e) ∙ sym (digits_low g n (ltb-true n 10 e)))
    (λ e. let high : 10 ≤ n = ltb-false n 10 e in
    digits_high f n high ∙ ap (λ s. s ++ ((48 + n % 10) ∷ [])) (digits-enough f g (n / 10) (omega arith) (omega arith)) ∙ sym (digits_high g n high))

pub print_digit : (n : ℕ) → n < 10 → print_natural n ≡ (48 + n) ∷ []
unfolding print_natural
print_digit n h = digits_low n n h

pub print_more : (n d : ℕ) → 1 ≤ n → d < 10 → print_natural (n * 10 + d) ≡ print_natural n ++ ((48 + d) ∷ [])
unfolding print_natural
print_more n d h k =
    let tenth : (n * 10 + d) / 10 ≡ n = omega arith in
    let last : (n * 10 + d) % 10 ≡ d = omega arith in
    digits_high (n * 10 + d) (n * 10 + d) (omega arith) ∙ rw (tenth, last) (ap (λ s. s ++ ((48 + d) ∷ [])) (digits-enough (n * 10 + d) (suc n) n (omega arith) (omega arith)))

-- every number is a digit, or has one more digit than a number that is not 0
pub by_digits : (P : ℕ → Type 0) → ((n : ℕ) → n < 10 → P n) → ((n d : ℕ) → 1 ≤ n → d < 10 → P n → P (n * 10 + d)) → (n : ℕ) → P n
by_digits P low more n = go (suc n) n (omega arith)
  where
    go : (most n : ℕ) → n < most → P n
    go zero n h = absurd (omega arith)
    go (suc most) n h =
        cases (ltb n 10)
        (λ e. low n (ltb-true n 10 e))
        (λ e. let high : 10 ≤ n = ltb-false n 10 e in
        let is : n / 10 * 10 + n % 10 ≡ n = omega arith in
        subst P is (more (n / 10) (n % 10) (omega arith) (omega arith) (go most (n / 10) (omega arith))))

-- Decimal, read.
pub digit_range : (b : ℕ) → is_digit b ≡ true → (48 ≤ b) × (b ≤ 57)
digit_range b e = (within-true 48 57 b).0 e

pub digit-is : (d : ℕ) → d < 10 → is_digit (48 + d) ≡ true
digit-is d h = (within-true 48 57 (48 + d)).1 (omega arith)

one-digit : (n d : ℕ) → d < 10 → read_digits n ((48 + d) ∷ []) ≡ Some (n * 10 + d)
unfolding read_digits
one-digit n d h = only_if-true (digit-is d h) ∙ ap Some (omega arith)

-- one more digit
digits_more : (s : List ℕ) (a n d : ℕ) → d < 10 → read_digits a s ≡ Some n → read_digits a (s ++ ((48 + d) ∷ [])) ≡ Some (n * 10 + d)
unfolding read_digits
digits_more [] a n d h e = ap (λ x. read_digits x ((48 + d) ∷ [])) (some_same e) ∙ one-digit n d h
digits_more (b ∷ s) a n d h e =
    let (good, rest) = only_if-some (is_digit b) e in
    only_if-true good ∙ digits_more s (a * 10 + (b - 48)) n d h rest

-- what begins with 0 is 0
zero-alone : (s : List ℕ) (n : ℕ) → ended s ≡ true → read_digits 0 (48 ∷ s) ≡ Some n → (s ≡ []) × (n ≡ 0)
unfolding read_digits
zero-alone [] n y e = (refl, sym (some_same e))
zero-alone (c ∷ s) n y e = absurd (false≢true y)

zero-first : (b : ℕ) (s : List ℕ) (n : ℕ) → eqb b 48 ≡ true → read_natural (b ∷ s) ≡ Some n → (s ≡ []) × (n ≡ 0)
unfolding read_natural
zero-first b s n y e =
    let (plain, rest) = only_if-some (not (eqb b 48) || ended s) e in
    zero-alone s n (ap (λ x. not x || ended s) (sym y) ∙ plain) (ap (λ x. read_digits 0 (x ∷ s)) (sym (eqb-true b 48 y)) ∙ rest)

-- what begins with another digit
other_first : (b : ℕ) (s : List ℕ) → eqb b 48 ≡ false → read_natural (b ∷ s) ≡ read_digits 0 (b ∷ s)
unfolding read_natural
other_first b s y = only_if-true (ap (λ x. not x || ended s) y)

natural_more : (s : List ℕ) (n d : ℕ) → 1 ≤ n → d < 10 → read_natural s ≡ Some n → read_natural (s ++ ((48 + d) ∷ [])) ≡ Some (n * 10 + d)
unfolding read_natural
natural_more [] n d h k e = never e
natural_more (b ∷ s) n d h k e =
    cases (eqb b 48)
    (λ y. absurd (omega (arith, (zero-first b s n y e).1)))
    (λ y. other_first b (s ++ ((48 + d) ∷ [])) y ∙ digits_more (b ∷ s) 0 n d k (sym (other_first b s y) ∙ e))

natural_print : (n : ℕ) → read_natural (print_natural n) ≡ Some n
unfolding read_natural
natural_print = by_digits (λ n. read_natural (print_natural n) ≡ Some n)
    (λ n h. rw (print_digit n h) (only_if-true (cases (eqb (48 + n) 48) (λ y. ap (λ x. not x || true) y) (λ y. ap (λ x. not x || true) y)) ∙ one-digit 0 n h ∙ ap Some (omega arith)))
    (λ n d h k is. rw (print_more n d h k) (natural_more (print_natural n) n d h k is))

digits_back : (s : List ℕ) (a n : ℕ) → 1 ≤ a → read_digits a s ≡ Some n → print_natural a ++ s ≡ print_natural n
unfolding read_digits
digits_back [] a n h e = append-nil (print_natural a) ∙ ap print_natural (some_same e)
digits_back (b ∷ s) a n h e =
    let (good, rest) = only_if-some (is_digit b) e in
    let (low, high) = digit_range b good in
    let same : 48 + (b - 48) ≡ b = omega arith in
    ap (λ x. print_natural a ++ (x ∷ s)) (sym same)
    ∙ sym (append_assoc (print_natural a) ((48 + (b - 48)) ∷ []) s)
    ∙ ap (λ x. x ++ s) (sym (print_more a (b - 48) h (omega arith)))
    ∙ digits_back s (a * 10 + (b - 48)) n (omega arith) rest

natural_back : (t : List ℕ) (n : ℕ) → read_natural t ≡ Some n → t ≡ print_natural n
unfolding read_natural read_digits
natural_back [] n e = never e
natural_back (b ∷ s) n e =
    cases (eqb b 48)
    (λ y. let (nothing_left, zero_is) = zero-first b s n y e in
    let p : b ≡ 48 = eqb-true b 48 y in
    rw (nothing_left, zero_is, p) (sym (print_digit 0 (omega arith))))
    (λ y. let (good, rest) = only_if-some (is_digit b) (sym (other_first b s y) ∙ e) in
    let (low, high) = digit_range b good in
    let other : b ≡ 48 → ⊥ = eqb-false b 48 y in
    let same : 48 + (0 * 10 + (b - 48)) ≡ b = omega arith in
    ap (λ x. x ∷ s) (sym same)
    ∙ ap (λ x. x ++ s) (sym (print_digit (0 * 10 + (b - 48)) (omega arith)))
    ∙ digits_back s (0 * 10 + (b - 48)) n (omega (arith, other)) rest)

-- a printed number is digits
print_digits : (n : ℕ) → all_of is_digit (print_natural n) ≡ true
print_digits = by_digits (λ n. all_of is_digit (print_natural n) ≡ true)
    (λ n h. rw (print_digit n h) (single n h))
    (λ n d h k is. rw (print_more n d h k) (all_of_append is_digit (print_natural n) ((48 + d) ∷ []) is (single d k)))
  where
    single : (d : ℕ) → d < 10 → all_of is_digit ((48 + d) ∷ []) ≡ true
    single d h = (and-eq-true_iff (is_digit (48 + d)) true).1 (digit-is d h, refl)

pub natural_value : Value read_natural Any print_natural
natural_value = record {
  exact = exactly (λ n _. natural_print n) (λ t n e. (tt, natural_back t n e));
  one_line = λ n _. all_of_weaker (λ b e. within_no_lf 48 57 b (omega arith) e) (print_natural n) (print_digits n);
}

pub up_to-value : (most : ℕ) → Value (read_up_to most) (λ n. n ≤ most) print_natural
unfolding read_up_to
up_to-value most = if_value natural_value (λ n. (λ h. leb-true n most h.1, λ h. (tt, le-leb n most h)))

pub index-value : (k : ℕ) → Value (read_index k) Any (λ _. print_natural k)
unfolding read_index
index-value k = record {
  exact = exactly
      (λ _ _. ap (λ o. o then λ n. only_if (eqb n k) (Some tt)) (reads natural_value.exact tt) ∙ only_if-true (eq-eqb k k refl))
      (λ t _ e. then_some (read_natural t) e λ n is kept.
      (tt, (only natural_value.exact is).1 ∙ ap print_natural (eqb-true n k (only_if-some (eqb n k) kept).0)));
  one_line = λ _ _. natural_value.one_line k tt;
}

-- Signed numbers.
signed_plain : (t : List ℕ) {o : Option ℕ} → all_of is_digit t ≡ true → read_up_to 2147483647 t ≡ o → read_signed t ≡ (o then λ n. Some (pos n))
unfolding read_signed read_up_to read_if read_natural
signed_plain [] h e = ap (λ o. o then λ n. Some (pos n)) e
signed_plain (b ∷ s) h e =
    let digit = digit_range b ((and-eq-true_iff (is_digit b) (all_of is_digit s)).0 h).0 in
    ap (λ x. signed_if x b s) (ne_eqb b 45 (λ is. absurd (omega (arith, is, digit)))) ∙ ap (λ o. o then λ n. Some (pos n)) e

signed_print : (z : ℤ) → Int32 z → read_signed (print_signed z) ≡ Some z
unfolding print_signed read_signed negative
signed_print (pos n) h = signed_plain (print_natural n) (print_digits n) (reads (up_to-value 2147483647).exact h)
signed_print (negsuc n) h = ap (λ o. o then negative) (reads (up_to-value 2147483648).exact (omega arith))

negative_back : (n : ℕ) (z : ℤ) → n ≤ 2147483648 → negative n ≡ Some z → Int32 z × (45 ∷ print_natural n ≡ print_signed z)
unfolding negative print_signed
negative_back zero z h e = never e
negative_back (suc n) z h e = subst (λ y. Int32 y × (45 ∷ print_natural (suc n) ≡ print_signed y)) (some_same e) (omega arith, refl)

signed_back : (t : List ℕ) (z : ℤ) → read_signed t ≡ Some z → Int32 z × (t ≡ print_signed z)
unfolding read_signed print_signed
signed_back [] z e = never e
signed_back (b ∷ s) z e =
    cases (eqb b 45)
    (λ y. then_some (read_up_to 2147483648 s) (ap (λ x. signed_if x b s) (sym y) ∙ e) λ n is kept.
    let (small, text) = only (up_to-value 2147483648).exact is in
    let (good, minus) = negative_back n z small kept in
    (good, ap (λ x. x ∷ s) (eqb-true b 45 y) ∙ ap (λ x. 45 ∷ x) text ∙ minus))
    (λ y. then_some (read_up_to 2147483647 (b ∷ s)) (ap (λ x. signed_if x b s) (sym y) ∙ e) λ n is kept.
    subst (λ x. Int32 x × (b ∷ s ≡ print_signed x)) (some_same kept) (only (up_to-value 2147483647).exact is))

signed_line : (z : ℤ) → NoLf (print_signed z)
unfolding print_signed
signed_line (pos n) = natural_value.one_line n tt
signed_line (negsuc n) = natural_value.one_line (suc n) tt

pub signed_value : Value read_signed Int32 print_signed
signed_value = record { exact = exactly signed_print signed_back; one_line = λ z _. signed_line z }
