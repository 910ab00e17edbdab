-- The `_` of a `match` on a number: the number is none of the others'. Assumes nothing.
use mathlib.Core.Path.{◌≡◌, refl, sym, ap, ◌∙◌}
use mathlib.Core.Bool.{Bool, true, false, ◌&&◌, ◌||◌, true≢false, and-eq-true_iff}
use Rattle.std.specs.Prelude.{None}
use mathlib.Core.List.{List, [], ◌∷◌}
use Prim.Native.Nat.{ℕ, zero, suc, ◌+◌, ◌≤◌}
use native.Mathlib.Omega.{arith}
use lib.Dec.{eqb}
use borrow.Author.Tests.{ne_eqb, eqb-true}
use Rattle.model.specs.IntMap.{Entry, get, get_if}
use Rattle.model.proofs.TestLaws.{cases}

-- as the prover says it: the last arm's number first
unfoldable pub NoneOf : ℕ → List ℕ → Type 0
NoneOf x [] = Unit
NoneOf x (k ∷ ks) = NoneOf x ks × (x ≡ k → ⊥)

unfoldable pub one_of : ℕ → List ℕ → Bool
one_of x [] = false
one_of x (k ∷ ks) = eqb x k || one_of x ks

pub none_of : (x : ℕ) (ks : List ℕ) → NoneOf x ks → one_of x ks ≡ false
unfolding NoneOf one_of
none_of x [] h = refl
none_of x (k ∷ ks) h = ap (λ b. b || one_of x ks) (ne_eqb x k h.1) ∙ none_of x ks h.0

-- a number that is one of them is another
pub others : (x y : ℕ) (ks : List ℕ) → NoneOf x ks → one_of y ks ≡ true → eqb y x ≡ false
others x y ks h e = cases (eqb y x) (λ s. absurd (true≢false (sym e ∙ ap (λ k. one_of k ks) (eqb-true y x s) ∙ none_of x ks h))) (λ d. d)

-- every key is one of them
unfoldable pub keys_in : {A : Type 0} → List ℕ → List (Entry A) → Bool
keys_in ks [] = true
keys_in ks (e ∷ es) = one_of e.key ks && keys_in ks es

pub get_other : {A : Type 0} (x : ℕ) (ks : List ℕ) (es : List (Entry A)) → keys_in ks es ≡ true → NoneOf x ks → get x es ≡ None
unfolding keys_in get
get_other x ks [] e h = refl
get_other x ks (a ∷ es) e h =
    let (first, rest) = (and-eq-true_iff (one_of a.key ks) (keys_in ks es)).0 e in
    ap (λ b. get_if b a.value (get x es)) (others x a.key ks h first) ∙ get_other x ks es rest h

-- as the prover says it: `count` numbers from `first` on, the last first
unfoldable pub numbers_from : ℕ → ℕ → List ℕ
numbers_from first zero = []
numbers_from first (suc count) = (first + count) ∷ numbers_from first count

pub number_behind : (n first count : ℕ) → first ≤ n → NoneOf n (numbers_from first count) → first + count ≤ n
unfolding NoneOf numbers_from
number_behind n first zero le none = omega (arith, le)
number_behind n first (suc count) le none = omega (arith, number_behind n first count le none.0, none.1)
