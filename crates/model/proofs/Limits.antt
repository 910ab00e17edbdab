-- What every walk keeps to, however it ends: the charge, the gas, and three handlings of a row in a lineage. Assumes nothing.
use mathlib.Core.Path.{◌≡◌, refl, sym, subst}
use mathlib.Core.Bool.{Bool, true, false}
use Rattle.std.specs.Prelude.{Option}
use mathlib.Core.List.{List, ◌∷◌}
use Prim.Native.Nat.{ℕ, suc, ◌+◌, ◌<◌, ◌≤◌}
use native.Mathlib.Omega.{arith}
use lib.Dec.{eqb}
use borrow.Author.Tests.{ltb-true, eqb-true}
use Rattle.model.specs.Walk.{◌∈◌, one_if, times, count, Tried, Ways, Lineage, Notes, under_limit, notes_of, walk}
use Rattle.model.proofs.Kept.{Keeps, at_end}
use Rattle.model.proofs.Lineages.{Facts, of_handled}

-- no row stands more than three times in a past
abbrev pub Few : List ℕ → Type 0
Few past = (row : ℕ) → count row past ≤ 3

few_more : (row : ℕ) (past : List ℕ) → Few past → under_limit row past ≡ true → Few (row ∷ past)
unfolding times
few_more row past h under q = go (eqb row q) refl
  where
    go : (b : Bool) → eqb row q ≡ b → one_if b + count q past ≤ 3
    go true e = let less : count q past < 3 = subst (λ x. count x past < 3) (eqb-true row q e) (ltb-true (count row past) 3 under) in omega arith
    go false e = omega (arith, h q)

module _
    {M R : Type 0}
    (eq : M → M → Bool)
    (row_of : M → Option ℕ)
    (ways : Bool → M → Tried (Ways M R))
    (units : M → ℕ)
    (gas : ℕ)
    (fresh : M)
    (space : ℕ)
  where
    -- the charge and the gas left make the gas given, and where a gas stop is noted all of it is charged
    record Spent (g : ℕ) (n : Notes M R) : Type 0 where
      sum : n.charged + g ≡ gas
      gone : 0 < n.gasstops → n.charged ≡ gas

    pub record Paid (n : Notes M R) : Type 0 where
      pub most : n.charged ≤ gas
      pub gone : 0 < n.gasstops → n.charged ≡ gas

    spent_keeps : Keeps eq row_of ways units (λ g c ls n. Spent g n) Paid
    spent_keeps =
        record {
          takes = λ p. record { sum = p.sum; gone = p.gone };
          leaves = λ e p. p;
          loops = λ at under p. record { sum = omega arith; gone = λ h. absurd (early p h) };
          empties = λ p. record { sum = p.sum; gone = λ h. omega arith };
          handles = λ h p. record { sum = omega arith; gone = λ i. absurd (early p i) };
          refuses = λ at under p. record { most = omega arith; gone = λ h. absurd (early p h) };
        }
      where
        early : {g : ℕ} {n : Notes M R} → Spent (suc g) n → 0 < n.gasstops → ⊥
        early p h = omega (arith, p.gone h)

    pub paid : Paid (notes_of (walk eq row_of ways units gas fresh space))
    paid =
        at_end eq row_of ways units (λ g c ls n. Spent g n) Paid spent_keeps gas fresh space (record { sum = omega arith; gone = λ h. omega arith })
        (λ g n p. record { most = omega arith; gone = p.gone })

    few_facts : Facts eq row_of ways units fresh (λ hs l. Few l.past) (λ hs l. Few l.past)
    unfolding times
    few_facts =
        record {
          first = λ row. omega arith;
          more = λ h p. p;
          more_handled = λ h p. p;
          handled = λ {l = l} {row = row} at under p. few_more row l.past p under;
          way = λ {l = l} {row = row} at under is p x. subst Few (sym x.same) (few_more row l.past p under);
        }

    -- no lineage handles a row more than three times
    pub thrice : (l : Lineage M) → l ∈ (notes_of (walk eq row_of ways units gas fresh space)).handled → Few l.past
    thrice = of_handled eq row_of ways units fresh (λ hs l. Few l.past) (λ hs l. Few l.past) few_facts gas space
