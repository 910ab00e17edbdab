-- UTF-8 by RFC 3629, section 4: the grammar, and the same as a test.
-- The ABNF's names are kept: UTF8-octets = *( UTF8-char ), UTF8-char = UTF8-1 / UTF8-2 / UTF8-3 / UTF8-4. Assumes nothing.
use Rattle.std.specs.Prelude.{◌≡◌, Bool, true, false, List, [], ◌∷◌, ◌++◌, ℕ, ◌≤◌, Option, None, Some}
use Rattle.type_info.specs.Ascii.{within}

-- the bytes from first to last, %xFIRST-LAST
pub record Range : Type 0 where
  pub first : ℕ
  pub last : ℕ

infix 80 ◌‥◌
abbrev pub ◌‥◌ : ℕ → ℕ → Range
a ‥ b = record { first = a; last = b }

-- UTF8-tail, and the alternatives of each UTF8-n: a range for each of its bytes
abbrev pub tail : Range
tail = 0x80 ‥ 0xBF

abbrev pub utf8_1 : List (List Range)
utf8_1 = (0x00 ‥ 0x7F ∷ []) ∷ []

abbrev pub utf8_2 : List (List Range)
utf8_2 = (0xC2 ‥ 0xDF ∷ tail ∷ []) ∷ []

abbrev pub utf8_3 : List (List Range)
utf8_3 =
    (0xE0 ‥ 0xE0 ∷ 0xA0 ‥ 0xBF ∷ tail ∷ [])
    ∷ (0xE1 ‥ 0xEC ∷ tail ∷ tail ∷ [])
    ∷ (0xED ‥ 0xED ∷ 0x80 ‥ 0x9F ∷ tail ∷ [])
    ∷ (0xEE ‥ 0xEF ∷ tail ∷ tail ∷ [])
    ∷ []

abbrev pub utf8_4 : List (List Range)
utf8_4 =
    (0xF0 ‥ 0xF0 ∷ 0x90 ‥ 0xBF ∷ tail ∷ tail ∷ [])
    ∷ (0xF1 ‥ 0xF3 ∷ tail ∷ tail ∷ tail ∷ [])
    ∷ (0xF4 ‥ 0xF4 ∷ 0x80 ‥ 0x8F ∷ tail ∷ tail ∷ [])
    ∷ []

unfoldable pub utf8_char : List (List Range)
utf8_char = utf8_1 ++ utf8_2 ++ utf8_3 ++ utf8_4

-- bytes that lie in a row of ranges, one in each
pub data Sequence : List Range → List ℕ → Type 0 where
  empty : Sequence [] []
  byte : {r : Range} {rs : List Range} {b : ℕ} {s : List ℕ} → r.first ≤ b → b ≤ r.last → Sequence rs s → Sequence (r ∷ rs) (b ∷ s)

-- the bytes match one of the alternatives
pub data OneOf : List (List Range) → List ℕ → Type 0 where
  this : {a : List Range} {more : List (List Range)} {s : List ℕ} → Sequence a s → OneOf (a ∷ more) s
  later : {a : List Range} {more : List (List Range)} {s : List ℕ} → OneOf more s → OneOf (a ∷ more) s

-- a concatenation of characters
pub data Utf8Octets : List ℕ → Type 0 where
  empty : Utf8Octets []
  char : {s : List ℕ} (c rest : List ℕ) → OneOf utf8_char c → Utf8Octets rest → s ≡ c ++ rest → Utf8Octets s

-- the same as a test: `expected` are the ranges still to be read of the character at hand

-- whether a byte lies in a range
unfoldable pub in_range : Range → ℕ → Bool
in_range r b = within r.first r.last b

abbrev pub some_if : Bool → List Range → Option (List Range) → Option (List Range)
some_if true rs other = Some rs
some_if false rs other = other

-- what a character that begins with this byte has still to come
unfoldable pub begun : List (List Range) → ℕ → Option (List Range)
begun [] b = None
begun ([] ∷ more) b = begun more b
begun ((r ∷ rs) ∷ more) b = some_if (in_range r b) rs (begun more b)

unfoldable pub after_byte : List Range → ℕ → Option (List Range)
after_byte [] b = begun utf8_char b
after_byte (r ∷ rs) b = some_if (in_range r b) rs None

abbrev pub is_empty : List Range → Bool
is_empty [] = true
is_empty (r ∷ rs) = false

unfoldable pub reads : List Range → List ℕ → Bool
reads expected [] = is_empty expected
reads expected (b ∷ s) = elim (after_byte expected b) [ None ↦ false | Some rest ↦ reads rest s ]

unfoldable pub is_utf8 : List ℕ → Bool
is_utf8 s = reads [] s

-- what the check says: the test's value, and the grammar both ways
pub record Checked (s : List ℕ) (r : Bool) : Type 0 where
  pub is : r ≡ is_utf8 s
  pub sound : r ≡ true → Utf8Octets s
  pub complete : Utf8Octets s → r ≡ true
