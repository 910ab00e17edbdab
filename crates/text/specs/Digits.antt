-- Digits with a greatest number: what model's `read_up_to` asks once the rule on leading zeros is met. Assumes nothing.
use Rattle.std.specs.Prelude.{Option, Some, List, ℕ, ◌-◌, leb}
use Rattle.model.specs.Reader.{◌then◌, only_if}
use Rattle.model.specs.Numbers.{is_digit, read_digits}

-- the value of a digit
abbrev pub digit_of : ℕ → Option ℕ
digit_of b = only_if (is_digit b) (Some (b - 48))

-- the number of the digits of t behind those of n, if it is at most `most`
unfoldable pub digits_up_to : ℕ → ℕ → List ℕ → Option ℕ
digits_up_to most n t = read_digits n t then λ m. only_if (leb m most) (Some m)
