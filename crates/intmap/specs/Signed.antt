-- Signed numbers as unsigned words: 9,223,372,036,854,775,808, which is 2^63, stands for 0, one more for 1, one less for −1. Assumes nothing.
use Rattle.std.specs.Prelude.{Bool, true, false, ℕ, ◌+◌, ◌-◌, ◌<◌, ◌≤◌, ltb, ℤ, pos, negsuc}

-- the word of 0
abbrev pub offset : ℕ
offset = 9223372036854775808

abbrev pub int_if : Bool → ℕ → ℤ
int_if true w = negsuc (offset - 1 - w)
int_if false w = pos (w - offset)

-- the number that a word stands for
unfoldable pub int_of : ℕ → ℤ
int_of w = int_if (ltb w offset) w

-- the word of a number
abbrev pub word_of : ℤ → ℕ
word_of (pos k) = offset + k
word_of (negsuc k) = offset - 1 - k

-- from −bound to bound
abbrev pub Small : ℕ → ℤ → Type 0
Small bound (pos k) = k ≤ bound
Small bound (negsuc k) = k < bound
