-- Numbers and bytes as text, printed and read. 01, "The call": P1 to P3 are signed 32-bit; every number is decimal without leading zeros
-- or `-0`; P4's bytes are two lowercase hexadecimal digits each. In ASCII `-` is 45, `0` to `9` are 48 to 57, `a` to `f` are 97 to 102.
-- Assumes nothing.
use Rattle.std.specs.Prelude.{Bool, true, false, not, ◌||◌, List, [], ◌∷◌, ◌++◌, ℕ, zero, suc, ◌+◌, ◌*◌, ◌-◌, ◌/◌, ◌%◌, ◌≤◌, leb, ltb, eqb, ℤ, pos, negsuc, Option, None, Some}
use Rattle.type_info.specs.Ascii.{within}
use Rattle.model.specs.Reader.{◌then◌, only_if, ended, read_if}

-- Decimal, printed: the last digit stands behind those of the tenth part. The first number bounds how many digits there are.
unfoldable pub digits : ℕ → ℕ → List ℕ
digits zero n = []
digits (suc most) n = elim (ltb n 10) [ true ↦ (48 + n) ∷ [] | false ↦ digits most (n / 10) ++ ((48 + n % 10) ∷ []) ]

unfoldable pub print_natural : ℕ → List ℕ
print_natural n = digits (suc n) n

unfoldable pub print_signed : ℤ → List ℕ
print_signed (pos n) = print_natural n
print_signed (negsuc n) = 45 ∷ print_natural (suc n)

-- Decimal, read.
abbrev pub is_digit : ℕ → Bool
is_digit b = within 48 57 b

-- digits behind those of n
unfoldable pub read_digits : ℕ → List ℕ → Option ℕ
read_digits n [] = Some n
read_digits n (b ∷ t) = only_if (is_digit b) (read_digits (n * 10 + (b - 48)) t)

-- a number that begins with 0 is that digit alone
unfoldable pub read_natural : List ℕ → Option ℕ
read_natural [] = None
read_natural (b ∷ t) = only_if (not (eqb b 48) || ended t) (read_digits 0 (b ∷ t))

-- at most so much
unfoldable pub read_up_to : ℕ → List ℕ → Option ℕ
read_up_to most = read_if (λ n. leb n most) read_natural

-- an item's own number, k and no other
unfoldable pub read_index : ℕ → List ℕ → Option (Unit {0})
read_index k t = read_natural t then λ n. only_if (eqb n k) (Some tt)

-- minus n; minus 0 is not written
unfoldable pub negative : ℕ → Option ℤ
negative zero = None
negative (suc n) = Some (negsuc n)

-- whether it begins with a minus sign
abbrev pub signed_if : Bool → ℕ → List ℕ → Option ℤ
signed_if true b t = read_up_to 2147483648 t then negative
signed_if false b t = read_up_to 2147483647 (b ∷ t) then λ n. Some (pos n)

unfoldable pub read_signed : List ℕ → Option ℤ
read_signed [] = None
read_signed (b ∷ t) = signed_if (eqb b 45) b t

-- signed 32-bit: -2,147,483,648 to 2,147,483,647
abbrev pub Int32 : ℤ → Type 0
Int32 (pos n) = n ≤ 2147483647
Int32 (negsuc n) = n ≤ 2147483647

-- Hexadecimal, printed.
abbrev pub hex_digit_if : Bool → ℕ → ℕ
hex_digit_if true x = 48 + x
hex_digit_if false x = 87 + x

unfoldable pub hex_digit : ℕ → ℕ
hex_digit x = hex_digit_if (ltb x 10) x

unfoldable pub print_hex : List ℕ → List ℕ
print_hex [] = []
print_hex (b ∷ bs) = hex_digit (b / 16) ∷ hex_digit (b % 16) ∷ print_hex bs

-- Hexadecimal, read: whether it is a digit, and whether it is a letter `a` to `f`.
abbrev pub hex_value_if : Bool → Bool → ℕ → Option ℕ
hex_value_if true letter c = Some (c - 48)
hex_value_if false true c = Some (c - 87)
hex_value_if false false c = None

unfoldable pub hex_value : ℕ → Option ℕ
hex_value c = hex_value_if (is_digit c) (within 97 102 c) c

unfoldable pub read_hex : List ℕ → Option (List ℕ)
read_hex [] = Some []
read_hex (c ∷ []) = None
read_hex (c ∷ d ∷ t) = hex_value c then λ x. hex_value d then λ y. read_hex t then λ bs. Some ((x * 16 + y) ∷ bs)
