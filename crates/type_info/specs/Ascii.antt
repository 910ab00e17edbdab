-- ASCII text as a list of bytes: a literal's bytes, lower case, and the comparisons of the Rust's `str`.
-- From the Rust: `to_ascii_lowercase`, `==`, `starts_with` and `contains` on `str`. Assumes nothing.
use Rattle.std.specs.Prelude.{Bool, true, false, ◌&&◌, ◌||◌, List, [], ◌∷◌, map, ℕ, ◌+◌, leb, eqb}
use Prim.Native.Char.{code}
use Prim.Native.String.{String, [] as []ˢ, ◌∷◌ as ◌∷ˢ◌}

-- the bytes of a literal
unfoldable pub ascii : String → List ℕ
ascii []ˢ = []
ascii (c ∷ˢ s) = code c ∷ ascii s

-- from low to high, both included
abbrev pub within : ℕ → ℕ → ℕ → Bool
within low high b = leb low b && leb b high

abbrev pub lower_if : Bool → ℕ → ℕ
lower_if true b = b + 32
lower_if false b = b

-- `A` to `Z` become `a` to `z`
unfoldable pub lower_byte : ℕ → ℕ
lower_byte b = lower_if (within 65 90 b) b

unfoldable pub lowercase : List ℕ → List ℕ
lowercase s = map lower_byte s

-- `s == t`
unfoldable pub equals : List ℕ → List ℕ → Bool
equals [] [] = true
equals [] (b ∷ t) = false
equals (a ∷ s) [] = false
equals (a ∷ s) (b ∷ t) = eqb a b && equals s t

-- `s.starts_with(word)`
unfoldable pub starts_with : List ℕ → List ℕ → Bool
starts_with s [] = true
starts_with [] (w ∷ ws) = false
starts_with (a ∷ s) (w ∷ ws) = eqb a w && starts_with s ws

-- `s.contains(word)`
unfoldable pub contains : List ℕ → List ℕ → Bool
contains [] word = starts_with [] word
contains (a ∷ s) word = starts_with (a ∷ s) word || contains s word
