-- What tests say: a test's two sides, ranges, and tests on every byte of a text. Assumes nothing.
use mathlib.Core.Path.{◌≡◌, refl, ap, ◌∙◌}
use mathlib.Core.Logic.{◌↔◌}
use mathlib.Core.Bool.{Bool, true, false, ◌&&◌, and-eq-true_iff}
use mathlib.Core.List.{List, [], ◌∷◌, ◌++◌}
use Prim.Native.Nat.{ℕ, ◌≤◌, ◌<◌}
use lib.Dec.{leb}
use borrow.Author.Tests.{le-leb, lt-leb, leb-true}
use Rattle.type_info.specs.Ascii.{within}
use Rattle.type_info.specs.All.{all_of}

-- a test's two sides
pub cases : {P : Type 0} (b : Bool) → (b ≡ true → P) → (b ≡ false → P) → P
cases true f g = f refl
cases false f g = g refl

-- a range
pub within-true : (low high b : ℕ) → (within low high b ≡ true) ↔ ((low ≤ b) × (b ≤ high))
within-true low high b = (
  λ e. let (above, below) = (and-eq-true_iff (leb low b) (leb b high)).0 e in (leb-true low b above, leb-true b high below),
  λ h. (and-eq-true_iff (leb low b) (leb b high)).1 (le-leb low b h.0, le-leb b high h.1),
)

pub within_above : (low high b : ℕ) → high < b → within low high b ≡ false
within_above low high b h = cases (leb low b) (λ e. ap (λ x. x && leb b high) e ∙ lt-leb b high h) (λ e. ap (λ x. x && leb b high) e)

-- a test on every byte: a weaker one, and two texts
pub all_of_weaker : {test weaker : ℕ → Bool} → ((b : ℕ) → test b ≡ true → weaker b ≡ true) → (s : List ℕ) → all_of test s ≡ true → all_of weaker s ≡ true
all_of_weaker w [] e = refl
all_of_weaker {test} {weaker} w (b ∷ s) e =
    let (first, rest) = (and-eq-true_iff (test b) (all_of test s)).0 e in
    (and-eq-true_iff (weaker b) (all_of weaker s)).1 (w b first, all_of_weaker w s rest)

pub all_of_append : (test : ℕ → Bool) (s t : List ℕ) → all_of test s ≡ true → all_of test t ≡ true → all_of test (s ++ t) ≡ true
all_of_append test [] t e h = h
all_of_append test (b ∷ s) t e h =
    let (first, rest) = (and-eq-true_iff (test b) (all_of test s)).0 e in
    (and-eq-true_iff (test b) (all_of test (s ++ t))).1 (first, all_of_append test s t rest h)
