-- In an answered walk every remembered state was taken from the waiting ones, each once. Assumes nothing.
use mathlib.Core.Path.{◌≡◌, refl}
use mathlib.Core.Logic.{◌⊎◌, inl, inr}
use mathlib.Core.Bool.{Bool}
use Rattle.std.specs.Prelude.{Option}
use mathlib.Core.List.{List, [], ◌∷◌}
use Prim.Native.Nat.{ℕ, ◌+◌, ◌≤◌}
use native.Mathlib.Omega.{arith}
use Rattle.model.specs.Walk.{◌∈◌, times, Tried, Ways, Lineage, mems, Notes, answered, walk}
use Rattle.model.specs.WalkClaims.{Sound, TakenUp}
use Rattle.model.proofs.Kept.{Keeps, row_offers, at_answer}

module _
    {M R : Type 0}
    (eq : M → M → Bool)
    (row_of : M → Option ℕ)
    (ways : Bool → M → Tried (Ways M R))
    (units : M → ℕ)
    (sound : Sound eq)
    (fresh : M)
  where
    -- the claims, with the states that still wait beside those taken
    record Waiting (ls : List (Lineage M)) (n : Notes M R) : Type 0 where
      each : (m : M) → times eq m n.taken + times eq m (mems ls) ≡ times eq m n.remembered + times eq m (fresh ∷ [])
      once : (m : M) → times eq m n.remembered ≤ 1
      all : (m : M) → m ∈ n.remembered → (m ∈ n.taken) ⊎ (m ∈ mems ls)

    waiting_keeps : Keeps eq row_of ways units (λ g c ls n. Waiting ls n) (λ n. Unit {0})
    unfolding times
    waiting_keeps =
        record {
          takes =
              λ p.
              record {
                each = λ m. omega (arith, p.each m);
                once = p.once;
                all = λ m h. elim (p.all m h) [ inl i ↦ inl (inr i) | inr (inl e) ↦ inl (inl e) | inr (inr i) ↦ inr i ];
              };
          leaves = λ e p. p;
          loops = λ at under p. record { each = p.each; once = p.once; all = p.all };
          empties = λ p. record { each = p.each; once = p.once; all = p.all };
          handles =
              λ h p.
              let offers = row_offers eq row_of ways units h in
              record {
                each = λ m. omega (arith, p.each m, offers.sum m);
                once = offers.once sound p.once;
                all =
                    λ m i.
                    elim (offers.only m i) [
                      | inl j ↦ elim (p.all m j) [ inl a ↦ inl a | inr a ↦ inr (offers.waits m a) ]
                      | inr j ↦ inr j
                    ];
              };
          refuses = λ at under p. tt;
        }

    pub all_taken : (gas space : ℕ) (n : Notes M R) → walk eq row_of ways units gas fresh space ≡ answered n → TakenUp eq fresh n
    unfolding times
    all_taken gas space n e =
        record { each = λ m. omega (arith, p.each m); once = p.once; all = λ m h. elim (p.all m h) [ inl i ↦ i | inr i ↦ absurd i ] }
      where
        p : Waiting [] n
        p =
            (at_answer eq row_of ways units (λ g c ls n. Waiting ls n) (λ n. Unit {0}) waiting_keeps gas fresh space
            (record { each = λ m. refl; once = λ m. omega arith; all = λ m h. absurd h }) e).1
