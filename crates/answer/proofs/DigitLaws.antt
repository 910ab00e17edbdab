-- The digits of a number: how many there are, and that the library writes the same. Assumes nothing.
use Rattle.std.proofs.Common.{◌≡◌, ℕ, zero, suc, ◌+◌, ◌*◌, ◌/◌, ◌%◌, ◌^◌, ◌≤◌, ◌<◌, [], ◌∷◌, ◌++◌, length, sym, ap, ◌∙◌, arith, length-append}
use Rattle.std.proofs.lemmas.Fmt.{decimal_by_steps, length-decimal-le}
use Rattle.std.specs.Fmt.{decimal}
use Rattle.std.specs.Prelude.{Option, Some, None, IfSome, IfNone}
use Rattle.std.specs.Option.{unwrap_or}
use Rattle.model.specs.Numbers.{print_natural}
use Rattle.model.specs.AnswerText.{most_counted}
use Rattle.model.proofs.DecimalLaws.{print_digit, print_more}
use Rattle.answer.specs.Writing.{Sized}

-- a number of more than one digit is the last one behind those of its tenth part
print_high : (n : ℕ) → 10 ≤ n → print_natural n ≡ print_natural (n / 10) ++ ((48 + n % 10) ∷ [])
print_high n h =
    let is : n / 10 * 10 + n % 10 ≡ n = omega arith in
    ap print_natural (sym is) ∙ print_more (n / 10) (n % 10) (omega arith) (omega arith)

pub print_decimal : (n : ℕ) → n < 2 ^ 64 → decimal n ≡ print_natural n
print_decimal n h =
    decimal_by_steps (λ m ds. ds ≡ print_natural m)
    (λ m l. sym (print_digit m l))
    (λ m ds l e. ap (λ x. x ++ ((48 + m % 10) ∷ [])) e ∙ sym (print_high m l))
    n h

-- one more than the logarithm
print_size : (k n : ℕ) → 10 ^ k ≤ n → n < 10 * 10 ^ k → length (print_natural n) ≡ k + 1
print_size zero n l h = ap length (print_digit n (omega arith))
print_size (suc k) n l h =
    let more : 10 ^ k ≤ n / 10 = omega arith in
    let less : n / 10 < 10 * 10 ^ k = omega arith in
    let some : 10 ≤ n = omega arith in
    omega (arith, ap length (print_high n some), length-append (print_natural (n / 10)) ((48 + n % 10) ∷ []), print_size k (n / 10) more less)

length_ten : (n : ℕ) → n ≤ most_counted → length (print_natural n) ≤ 10
length_ten n h = rw (← print_decimal n (omega arith)) (length-decimal-le 10 n (omega arith) (omega arith) (omega arith))

pub digits_sized : (n : ℕ) (o : Option ℕ) → n ≤ most_counted → IfNone o (n ≡ 0) → IfSome o (λ k. 10 ^ k ≤ n) → IfSome o (λ k. n < 10 * 10 ^ k) → Sized (print_natural n) 10 (unwrap_or o 0 + 1)
digits_sized n None small none low high = record { is = sym (ap length (print_digit n (omega arith))); small = omega arith }
digits_sized n (Some k) small none low high = let e = print_size k n low high in record { is = sym e; small = omega (arith, length_ten n small) }
