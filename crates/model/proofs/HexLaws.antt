-- Laws of hexadecimal bytes: the reader accepts exactly what the printer prints, and no printing holds an LF. Assumes nothing.
use mathlib.Core.Path.{◌≡◌, refl, sym, ap, ◌∙◌, subst}
use mathlib.Core.Bool.{Bool, true, false, not}
use Rattle.std.specs.Prelude.{Some}
use mathlib.Core.List.{List, [], ◌∷◌}
use Prim.Native.Nat.{ℕ, ◌+◌, ◌*◌, ◌-◌, ◌/◌, ◌%◌, ◌≤◌, ◌<◌}
use native.Mathlib.Omega.{arith}
use lib.Dec.{ltb, eqb}
use borrow.Author.Tests.{lt-ltb, le-ltb, ltb-true, ltb-false, ne_eqb}
use Rattle.type_info.specs.Ascii.{within}
use Rattle.type_info.specs.All.{All, all_nil, all_cons}
use Rattle.model.specs.Numbers.{is_digit, hex_digit_if, hex_digit, print_hex, hex_value_if, hex_value, read_hex}
use Rattle.model.proofs.TestLaws.{cases, within-true, within_above}
use Rattle.model.proofs.ReaderLaws.{never, some_same, then_some, exactly}
use Rattle.model.proofs.FieldLaws.{NoLf, Value}
use Rattle.model.proofs.DecimalLaws.{digit_range, digit-is}

-- one digit
hex_digit_low : (x : ℕ) → x < 10 → hex_digit x ≡ 48 + x
unfolding hex_digit
hex_digit_low x h = ap (λ b. hex_digit_if b x) (lt-ltb x 10 h)

hex_digit_high : (x : ℕ) → 10 ≤ x → hex_digit x ≡ 87 + x
unfolding hex_digit
hex_digit_high x h = ap (λ b. hex_digit_if b x) (le-ltb x 10 h)

hex_value_low : (c : ℕ) → is_digit c ≡ true → hex_value c ≡ Some (c - 48)
unfolding hex_value
hex_value_low c e = ap (λ b. hex_value_if b (within 97 102 c) c) e

hex_value_high : (c : ℕ) {letter : Bool} → is_digit c ≡ false → within 97 102 c ≡ letter → hex_value c ≡ hex_value_if false letter c
unfolding hex_value
hex_value_high c digit e = ap (λ b. hex_value_if b (within 97 102 c) c) digit ∙ ap (λ b. hex_value_if false b c) e

hex_value_print : (x : ℕ) → x < 16 → hex_value (hex_digit x) ≡ Some x
hex_value_print x h =
    cases (ltb x 10)
    (λ e. let low : x < 10 = ltb-true x 10 e in
    rw (hex_digit_low x low) (hex_value_low (48 + x) (digit-is x low) ∙ ap Some (omega arith)))
    (λ e. let high : 10 ≤ x = ltb-false x 10 e in
    rw (hex_digit_high x high) (hex_value_high (87 + x) (within_above 48 57 (87 + x) (omega arith)) ((within-true 97 102 (87 + x)).1 (omega arith)) ∙ ap Some (omega arith)))

hex_value_back : (c x : ℕ) → hex_value c ≡ Some x → (x < 16) × (c ≡ hex_digit x)
hex_value_back c x e =
    cases (is_digit c)
    (λ y. let range = digit_range c y in
    let is : c - 48 ≡ x = some_same (sym (hex_value_low c y) ∙ e) in
    (omega arith, sym (hex_digit_low x (omega arith) ∙ omega arith)))
    (λ y. cases (within 97 102 c)
    (λ w. let range = (within-true 97 102 c).0 w in
    let is : c - 87 ≡ x = some_same (sym (hex_value_high c y w) ∙ e) in
    (omega arith, sym (hex_digit_high x (omega arith) ∙ omega arith)))
    (λ w. never (sym (hex_value_high c y w) ∙ e)))

-- all bytes
hex_print : {bs : List ℕ} → All (λ b. b < 256) bs → read_hex (print_hex bs) ≡ Some bs
unfolding read_hex print_hex
hex_print all_nil = refl
hex_print (all_cons {x = b} {xs = bs} h more) =
    rw (hex_value_print (b / 16) (omega arith), hex_value_print (b % 16) (omega arith), hex_print more) (ap (λ x. Some (x ∷ bs)) (omega arith))

hex_back : (t bs : List ℕ) → read_hex t ≡ Some bs → All (λ b. b < 256) bs × (t ≡ print_hex bs)
unfolding read_hex print_hex
hex_back [] bs e = subst (λ x. All (λ b. b < 256) x × ([] ≡ print_hex x)) (some_same e) (all_nil, refl)
hex_back (c ∷ []) bs e = never e
hex_back (c ∷ d ∷ t) bs e =
    then_some (hex_value c) e λ x x-is e.
    then_some (hex_value d) e λ y y-is e.
    then_some (read_hex t) e λ more more-is e.
    let (x-small, c-is) = hex_value_back c x x-is in
    let (y-small, d-is) = hex_value_back d y y-is in
    let (small, t-is) = hex_back t more more-is in
    let high : (x * 16 + y) / 16 ≡ x = omega arith in
    let low : (x * 16 + y) % 16 ≡ y = omega arith in
    subst (λ z. All (λ b. b < 256) z × (c ∷ d ∷ t ≡ print_hex z)) (some_same e) (all_cons {x = x * 16 + y} (omega arith) small, rw (high, low, c-is, d-is, t-is))

hex_digit_line : (x : ℕ) → not (eqb (hex_digit x) 10) ≡ true
hex_digit_line x = ap not (ne_eqb (hex_digit x) 10 (λ e. cases (ltb x 10) (λ y. absurd (omega (arith, e, hex_digit_low x (ltb-true x 10 y)))) (λ y. absurd (omega (arith, e, hex_digit_high x (ltb-false x 10 y))))))

hex_line : (bs : List ℕ) → NoLf (print_hex bs)
unfolding print_hex
hex_line [] = refl
hex_line (b ∷ bs) = rw (hex_digit_line (b / 16), hex_digit_line (b % 16)) (hex_line bs)

pub hex_value_lem : Value read_hex (All (λ b. b < 256)) print_hex
hex_value_lem = record { exact = exactly (λ bs h. hex_print h) hex_back; one_line = λ bs _. hex_line bs }
