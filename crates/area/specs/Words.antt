-- The bytes of the area as 64-bit words, least byte first; bytes past the last whole word are in no word. Assumes nothing.
use Rattle.std.specs.Prelude.{◌≡◌, ◌⊎◌, List, [], ◌∷◌, ℕ, zero, suc, ◌+◌, ◌*◌, ◌/◌, ◌%◌, ◌<◌, ◌≤◌, length, get_or, set}

-- f 0, f 1 and so on, n of them
unfoldable pub tabulate : {A : Type 0} → ℕ → (ℕ → A) → List A
tabulate zero f = []
tabulate (suc n) f = f zero ∷ tabulate n (λ k. f (suc k))

-- the number that these bytes make, the least first
abbrev pub number : List ℕ → ℕ
number [] = 0
number (b ∷ bs) = b + 256 * number bs

-- the eight bytes from p on
abbrev pub eight : List ℕ → ℕ → List ℕ
eight xs p = get_or xs p 0 ∷ get_or xs (p + 1) 0 ∷ get_or xs (p + 2) 0 ∷ get_or xs (p + 3) 0 ∷ get_or xs (p + 4) 0 ∷ get_or xs (p + 5) 0 ∷ get_or xs (p + 6) 0 ∷ get_or xs (p + 7) 0 ∷ []

unfoldable pub words : List ℕ → List ℕ
words xs = tabulate (length xs / 8) (λ i. number (eight xs (i * 8)))

-- xs with n bytes of v from p on
unfoldable pub with_bytes : List ℕ → ℕ → ℕ → ℕ → List ℕ
with_bytes xs p zero v = xs
with_bytes xs p (suc n) v = with_bytes (set xs p (v % 256)) (p + 1) n (v / 256)

-- a store of the word at i: it is v now, no byte outside it is another, and nothing grew or shrank
pub record WordsNow (entry exit : List ℕ) (i v : ℕ) : Type 0 where
  pub same : length (words exit) ≡ length (words entry)
  pub bytes : length exit ≡ length entry
  pub others : (j : ℕ) → (j < i * 8) ⊎ (i * 8 + 8 ≤ j) → get_or exit j 0 ≡ get_or entry j 0
  pub words : words exit ≡ set (words entry) i v
