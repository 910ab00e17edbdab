-- The classes of bytes behind the UTF-8 check: bytes of one class lie in the same ranges of RFC 3629's grammar.
-- 01, "Leaves": a table of 256 byte classes stands behind the check. What the check says is in specs/Utf8.antt alone. Assumes nothing.
use Rattle.std.specs.Prelude.{◌≡◌, Bool, true, false, ◌||◌, List, [], ◌∷◌, ℕ, ◌≤◌, ◌<◌, get_or, Option, None, Some}
use Rattle.type_info.specs.Utf8.{Range, ◌‥◌, tail, in_range, after_byte}

-- the bytes of each class, by its number
unfoldable pub classes : List (List Range)
classes =
    (0x00 ‥ 0x7F ∷ [])
    ∷ (0x80 ‥ 0x8F ∷ [])
    ∷ (0x90 ‥ 0x9F ∷ [])
    ∷ (0xA0 ‥ 0xBF ∷ [])
    ∷ (0xC2 ‥ 0xDF ∷ [])
    ∷ (0xE0 ‥ 0xE0 ∷ [])
    ∷ (0xE1 ‥ 0xEC ∷ 0xEE ‥ 0xEF ∷ [])
    ∷ (0xED ‥ 0xED ∷ [])
    ∷ (0xF0 ‥ 0xF0 ∷ [])
    ∷ (0xF1 ‥ 0xF3 ∷ [])
    ∷ (0xF4 ‥ 0xF4 ∷ [])
    ∷ (0xC0 ‥ 0xC1 ∷ 0xF5 ‥ 0xFF ∷ [])
    ∷ []

unfoldable pub in_any : List Range → ℕ → Bool
in_any [] b = false
in_any (r ∷ rs) b = in_range r b || in_any rs b

unfoldable pub in_class : ℕ → ℕ → Bool
in_class c b = in_any (get_or classes c []) b

-- c is the class of the byte b
pub record ClassOf (b c : ℕ) : Type 0 where
  pub small : c < 12
  pub has : in_class c b ≡ true

-- the states of the check: what is expected next, by the state's number; 8 is the refusing one
unfoldable pub expectations : List (Option (List Range))
expectations =
    Some []
    ∷ Some (tail ∷ [])
    ∷ Some (tail ∷ tail ∷ [])
    ∷ Some (tail ∷ tail ∷ tail ∷ [])
    ∷ Some (0xA0 ‥ 0xBF ∷ tail ∷ [])
    ∷ Some (0x80 ‥ 0x9F ∷ tail ∷ [])
    ∷ Some (0x90 ‥ 0xBF ∷ tail ∷ tail ∷ [])
    ∷ Some (0x80 ‥ 0x8F ∷ tail ∷ tail ∷ [])
    ∷ []

unfoldable pub expectation : ℕ → Option (List Range)
expectation q = get_or expectations q None

abbrev pub or_none : Option (List Range) → List Range
or_none None = []
or_none (Some rs) = rs

unfoldable pub expected : ℕ → List Range
expected q = or_none (expectation q)

-- r is the state behind q and a byte of the class c
pub record StateAfter (q c r : ℕ) : Type 0 where
  pub small : r ≤ 8
  pub is : (b : ℕ) → in_class c b ≡ true → expectation r ≡ after_byte (expected q) b
