-- Lists of allowed steps, one step longer; and a step as one of the ways that a state offers. Assumes nothing.
use mathlib.Core.Path.{◌≡◌, refl, ap, ◌∙◌}
use mathlib.Core.Bool.{Bool, false}
use Rattle.std.specs.Prelude.{Option, None, Some}
use mathlib.Core.List.{List, [], ◌∷◌, ◌++◌}
use Prim.Native.Nat.{ℕ}
use Rattle.model.specs.Walk.{Tried, refused, done, Ways}
use Rattle.model.specs.Steps.{pick, step_at, step, follow, Reach, Offering}
use Rattle.std.proofs.lemmas.Option.{none-some, same_Some}

module _ {M R : Type 0} (row_of : M → Option ℕ) (ways : Bool → M → Tried (Ways M R)) where
  pub step_offered : {m : M} {w : Ways M R} (k : ℕ) → Offering row_of ways m w → step row_of ways k m ≡ pick k w
  unfolding step step_at
  step_offered k o = rw (o.at, o.is)

  -- a way that a state offers
  pub record Taken (k : ℕ) (m t : M) : Type 0 where
    pub way : Ways M R
    pub offering : Offering row_of ways m way
    pub goes : pick k way ≡ Some t

  pub step_taken : (k : ℕ) (m t : M) → step row_of ways k m ≡ Some t → Taken k m t
  unfolding step step_at
  step_taken k m t e = go (row_of m) refl (ways false m) refl e
    where
      go : (o : Option ℕ) → row_of m ≡ o → (x : Tried (Ways M R)) → ways false m ≡ x → step_at k o x ≡ Some t → Taken k m t
      go None at x is h = absurd (none-some _ h)
      go (Some row) at (refused j) is h = absurd (none-some _ h)
      go (Some row) at (done w) is h = record { way = w; offering = record { row = row; at = at; is = is }; goes = h }

  follow_snoc :
      (ks : List ℕ) (k : ℕ) (a m t : M) →
      follow row_of ways ks a ≡ Some m →
      step row_of ways k m ≡ Some t →
      follow row_of ways (ks ++ (k ∷ [])) a ≡ Some t
  unfolding follow
  follow_snoc [] k a m t e₁ e₂ = rw (ap (step row_of ways k) (same_Some _ _ e₁) ∙ e₂, follow)
  follow_snoc (j ∷ js) k a m t e₁ e₂ = go (step row_of ways j a) e₁ (λ b e. follow_snoc js k b m t e e₂)
    where
      go :
          (o : Option M) →
          ◌≡◌ {A = Option M} (elim o [ None ↦ None | Some b ↦ follow row_of ways js b ]) (Some m) →
          ((b : M) → follow row_of ways js b ≡ Some m → follow row_of ways (js ++ (k ∷ [])) b ≡ Some t) →
          ◌≡◌ {A = Option M} (elim o [ None ↦ None | Some b ↦ follow row_of ways (js ++ (k ∷ [])) b ]) (Some t)
      go None e rest = absurd (none-some _ e)
      go (Some b) e rest = rest b e

  pub nowhere : (a : M) → Reach row_of ways a a
  unfolding follow
  nowhere a = record { steps = []; leads = refl }

  pub further : {a m t : M} {w : Ways M R} (k : ℕ) → Reach row_of ways a m → Offering row_of ways m w → pick k w ≡ Some t → Reach row_of ways a t
  further {a} {m} {t} k h o e = record { steps = h.steps ++ (k ∷ []); leads = follow_snoc h.steps k a m t h.leads (step_offered k o ∙ e) }
