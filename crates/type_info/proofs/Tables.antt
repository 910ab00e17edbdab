-- A rule of a table, shown at all of its entries by one test that is computed. Assumes nothing.
use mathlib.Core.Path.{◌≡◌, refl, ap, ap₂, subst}
use mathlib.Core.Bool.{Bool, true, false, ◌&&◌, ◌||◌, and-eq-true_iff}
use mathlib.Core.List.{List, [], ◌∷◌}
use Rattle.std.specs.Prelude.{Option, None, Some}
use lib.ListN.{get_or}
use Prim.Native.Nat.{ℕ, zero, suc, ◌+◌, ◌-◌, ◌*◌, ◌/◌, ◌%◌, ◌<◌, ◌≤◌}
use native.Mathlib.Omega.{arith}
use borrow.Author.Tests.{eqb-true, eqb-false, ltb-true, leb-true}
use lib.Dec.{eqb, leb, ltb}
use Rattle.type_info.specs.Utf8.{Range, ◌‥◌, utf8_char, in_range, begun, after_byte}
use Rattle.type_info.specs.ByteClass.{classes, in_any, in_class, ClassOf, expectations, expectation, expected, StateAfter}
use Rattle.type_info.specs.declared.utf8.TheConstants.{CLASSES, STATES}
use Rattle.type_info.proofs.Grammar.{range_in}

-- the test passes at each of n numbers from a on
unfoldable pub passes : (ℕ → Bool) → ℕ → ℕ → Bool
passes f a zero = true
passes f a (suc n) = f a && passes f (suc a) n

pub passes_at : (f : ℕ → Bool) (a n : ℕ) → passes f a n ≡ true → (b : ℕ) → a ≤ b → b < a + n → f b ≡ true
unfolding passes
passes_at f a zero e b lo hi = absurd (omega arith)
passes_at f a (suc n) e b lo hi = go (eqb a b) refl ((and-eq-true_iff (f a) (passes f (suc a) n)).0 e) (passes_at f (suc a) n)
  where
    go : (x : Bool) → eqb a b ≡ x → (f a ≡ true) × (passes f (suc a) n ≡ true) → (passes f (suc a) n ≡ true → (c : ℕ) → suc a ≤ c → c < suc a + n → f c ≡ true) → f b ≡ true
    go true ex p rest = subst (λ k. f k ≡ true) (eqb-true a b ex) p.0
    go false ex p rest = rest p.1 b (omega (arith, eqb-false a b ex)) (omega arith)

-- the test passes at each byte of some ranges
unfoldable pub ranges_pass : (ℕ → Bool) → List Range → Bool
ranges_pass f [] = true
ranges_pass f (r ∷ rs) = passes f r.first (suc r.last - r.first) && ranges_pass f rs

pub ranges_at : (f : ℕ → Bool) (rs : List Range) → ranges_pass f rs ≡ true → (b : ℕ) → in_any rs b ≡ true → f b ≡ true
unfolding ranges_pass in_any
ranges_at f [] e b h = cc
ranges_at f (r ∷ rs) e b h = go (in_range r b) refl ((and-eq-true_iff (passes f r.first (suc r.last - r.first)) (ranges_pass f rs)).0 e) h (ranges_at f rs)
  where
    go :
        (x : Bool) →
        in_range r b ≡ x →
        (passes f r.first (suc r.last - r.first) ≡ true) × (ranges_pass f rs ≡ true) →
        (x || in_any rs b) ≡ true →
        (ranges_pass f rs ≡ true → (c : ℕ) → in_any rs c ≡ true → f c ≡ true) →
        f b ≡ true
    go true ex p k rest = let i = range_in r b ex in passes_at f r.first (suc r.last - r.first) p.0 b i.0 (omega (arith, i.0, i.1))
    go false ex p k rest = rest p.1 b k

-- equality of what is expected, as a test
same_ranges : List Range → List Range → Bool
same_ranges [] [] = true
same_ranges [] (r ∷ rs) = false
same_ranges (q ∷ qs) [] = false
same_ranges (q ∷ qs) (r ∷ rs) = eqb q.first r.first && (eqb q.last r.last && same_ranges qs rs)

same_expected : Option (List Range) → Option (List Range) → Bool
same_expected None None = true
same_expected None (Some rs) = false
same_expected (Some qs) None = false
same_expected (Some qs) (Some rs) = same_ranges qs rs

ranges_same : (qs rs : List Range) → same_ranges qs rs ≡ true → qs ≡ rs
unfolding same_ranges
ranges_same [] [] e = refl
ranges_same [] (r ∷ rs) e = cc
ranges_same (q ∷ qs) [] e = cc
ranges_same (q ∷ qs) (r ∷ rs) e =
    let h = (and-eq-true_iff (eqb q.first r.first) (eqb q.last r.last && same_ranges qs rs)).0 e in
    let k = (and-eq-true_iff (eqb q.last r.last) (same_ranges qs rs)).0 h.1 in
    ap₂ (λ x xs. x ∷ xs) (ap₂ (λ x y. x ‥ y) (eqb-true q.first r.first h.0) (eqb-true q.last r.last k.0)) (ranges_same qs rs k.1)

expected-same : (x y : Option (List Range)) → same_expected x y ≡ true → x ≡ y
unfolding same_expected
expected-same None None e = refl
expected-same None (Some rs) e = cc
expected-same (Some qs) None e = cc
expected-same (Some qs) (Some rs) e = ap Some (ranges_same qs rs e)

-- each entry of a table of classes is the class of its byte
pub record ClassTable (table : List ℕ) : Type 0 where
  pub at : (b : ℕ) → b < 256 → ClassOf b (get_or table b 0)

-- each entry of a table of states, at 12 times the state and the class, is the state behind them
pub record StateTable (table : List ℕ) : Type 0 where
  pub at : (q c : ℕ) → q < 8 → c < 12 → StateAfter q c (get_or table (q * 12 + c) 0)

-- an entry of the table of classes, as a test
unfoldable pub class_right : List ℕ → ℕ → Bool
unfolding classes in_any in_class in_range
class_right table b = ltb (get_or table b 0) 12 && in_class (get_or table b 0) b

class_right_lem : (table : List ℕ) → passes (class_right table) 0 256 ≡ true → ClassTable table
unfolding class_right
class_right_lem table e = record { at = entry }
  where
    entry : (b : ℕ) → b < 256 → ClassOf b (get_or table b 0)
    entry b h =
        let k = (and-eq-true_iff (ltb (get_or table b 0) 12) (in_class (get_or table b 0) b)).0 (passes_at (class_right table) 0 256 e b (omega arith) (omega arith)) in
        record { small = ltb-true (get_or table b 0) 12 k.0; has = k.1 }

-- an entry of the table of states, as a test
unfoldable pub state_right : List ℕ → ℕ → Bool
unfolding classes in_range expectation expectations expected after_byte begun utf8_char same_expected same_ranges ranges_pass passes
state_right table k =
    leb (get_or table k 0) 8
    && ranges_pass (λ b. same_expected (expectation (get_or table k 0)) (after_byte (expected (k / 12)) b)) (get_or classes (k % 12) [])

state_right_lem : (table : List ℕ) → passes (state_right table) 0 96 ≡ true → StateTable table
unfolding state_right in_class
state_right_lem table e = record { at = λ q c hq hc. entry q c hq hc }
  where
    right : ℕ → ℕ → ℕ → Bool
    right r i b = same_expected (expectation r) (after_byte (expected i) b)

    moved :
        (q c i j r : ℕ) → i ≡ q → j ≡ c → ranges_pass (right r i) (get_or classes j []) ≡ true → ranges_pass (right r q) (get_or classes c []) ≡ true
    moved q c i j r ei ej h = subst (λ x. ranges_pass (right r x) (get_or classes c []) ≡ true) ei (subst (λ x. ranges_pass (right r i) (get_or classes x []) ≡ true) ej h)

    entry : (q c : ℕ) → q < 8 → c < 12 → StateAfter q c (get_or table (q * 12 + c) 0)
    entry q c hq hc =
        let r = get_or table (q * 12 + c) 0 in
        let k = (and-eq-true_iff (leb r 8) _).0 (passes_at (state_right table) 0 96 e (q * 12 + c) (omega arith) (omega arith)) in
        record {
          small = leb-true r 8 k.0;
          is = λ b h.
              expected-same (expectation r) (after_byte (expected q) b)
              (ranges_at (right r q) (get_or classes c []) (moved q c ((q * 12 + c) / 12) ((q * 12 + c) % 12) r (omega arith) (omega arith) k.1) b h);
        }

-- the tables of the code
pub classes_right : ClassTable CLASSES
unfolding passes class_right
classes_right = class_right_lem CLASSES refl

pub states_right : StateTable STATES
unfolding passes state_right
states_right = state_right_lem STATES refl
