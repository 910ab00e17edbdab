-- What offering a row's branches does to the waiting lineages and to the remembered states. Assumes nothing.
use mathlib.Core.Path.{◌≡◌, refl, sym, ap, subst}
use mathlib.Core.Logic.{◌⊎◌, inl, inr}
use mathlib.Core.Bool.{Bool, true, false, ◌||◌, false≢true}
use mathlib.Core.List.{List, [], ◌∷◌}
use Prim.Native.Nat.{ℕ, ◌+◌, ◌-◌, ◌≤◌}
use native.Mathlib.Omega.{arith}
use lib.Dec.{leb}
use Rattle.model.specs.Walk.{◌∈◌, one_if, times, Lineage, mems, Offered, full, offered, Verdict, dropped, kept, no_space, verdict, known, judge, offer}
use Rattle.model.specs.WalkClaims.{Sound}

-- branches `ms` of a lineage with this past, offered while `ls` wait and `remembered` are remembered, leave `ls'` and `remembered'`
pub record Offers
    {M : Type 0}
    (eq : M → M → Bool)
    (past : List ℕ)
    (ms : List M)
    (ls : List (Lineage M))
    (remembered : List M)
    (ls' : List (Lineage M))
    (remembered' : List M)
    : Type 0
  where
    -- the states that waited wait still
    pub waits : (t : M) → t ∈ mems ls → t ∈ mems ls'
    -- what was remembered is remembered still
    pub stays : (t : M) → t ∈ remembered → t ∈ remembered'
    -- each branch is remembered now
    pub each : Sound eq → (t : M) → t ∈ ms → t ∈ remembered'
    -- what is remembered was so before, or waits now
    pub only : (t : M) → t ∈ remembered' → (t ∈ remembered) ⊎ (t ∈ mems ls')
    -- a lineage that waits now waited before, or is one of the branches
    pub from : (l : Lineage M) → l ∈ ls' → (l ∈ ls) ⊎ ((l.past ≡ past) × (l.mem ∈ ms))
    -- what is remembered more often waits more often, and the other way round
    pub sum : (t : M) → times eq t (mems ls') + times eq t remembered ≡ times eq t (mems ls) + times eq t remembered'
    -- nothing is remembered twice
    pub once : Sound eq → ((t : M) → times eq t remembered ≤ 1) → (t : M) → times eq t remembered' ≤ 1

abbrev AtOffered : {M : Type 0} → (M → M → Bool) → List ℕ → List M → List (Lineage M) → List M → Offered M → Type 0
AtOffered eq past ms ls rem full = Unit {0}
AtOffered eq past ms ls rem (offered ls' rem' sp) = Offers eq past ms ls rem ls' rem'

verdict_dropped : (is_known fits : Bool) → verdict is_known fits ≡ dropped → is_known ≡ true
verdict_dropped true fits e = refl
verdict_dropped false true e = cc
verdict_dropped false false e = cc

verdict-kept : (is_known fits : Bool) → verdict is_known fits ≡ kept → is_known ≡ false
verdict-kept true fits e = cc
verdict-kept false true e = refl
verdict-kept false false e = cc

module _ {M : Type 0} (eq : M → M → Bool) where
  known_sound : Sound eq → (m : M) (xs : List M) → known eq m xs ≡ true → m ∈ xs
  unfolding known
  known_sound sound m [] e = false≢true e
  known_sound sound m (x ∷ xs) e = go (eq x m) refl e (known_sound sound m xs)
    where
      go : (b : Bool) → eq x m ≡ b → b || known eq m xs ≡ true → (known eq m xs ≡ true → m ∈ xs) → m ∈ (x ∷ xs)
      go true e₁ e₂ rest = inl (sound x m e₁)
      go false e₁ e₂ rest = inr (rest e₂)

  unknown_times : (m : M) (xs : List M) → known eq m xs ≡ false → times eq m xs ≡ 0
  unfolding known times
  unknown_times m [] e = refl
  unknown_times m (x ∷ xs) e = go (eq x m) e (unknown_times m xs)
    where
      go : (b : Bool) → b || known eq m xs ≡ false → (known eq m xs ≡ false → times eq m xs ≡ 0) → one_if b + times eq m xs ≡ 0
      go true e₂ rest = absurd (false≢true (sym e₂))
      go false e₂ rest = omega (arith, rest e₂)

  -- a new state is remembered once
  once_more :
      Sound eq →
      (m : M) (xs : List M) →
      known eq m xs ≡ false →
      ((t : M) → times eq t xs ≤ 1) →
      (t : M) →
      times eq t (m ∷ xs) ≤ 1
  unfolding times
  once_more sound m xs e h t = go (eq m t) refl
    where
      go : (b : Bool) → eq m t ≡ b → one_if b + times eq t xs ≤ 1
      go true et = let z : times eq t xs ≡ 0 = subst (λ x. times eq x xs ≡ 0) (sound m t et) (unknown_times m xs e) in omega arith
      go false et = omega (arith, h t)

  one_dropped :
      (past : List ℕ) (m : M) (ms : List M) (ls : List (Lineage M)) (rem : List M) (o : Offered M) →
      known eq m rem ≡ true →
      AtOffered eq past ms ls rem o →
      AtOffered eq past (m ∷ ms) ls rem o
  one_dropped past m ms ls rem full e f = tt
  one_dropped past m ms ls rem (offered ls' rem' sp) e f =
      record {
        waits = f.waits;
        stays = f.stays;
        each = λ sound t h. elim h [ inl i ↦ subst (λ x. x ∈ rem') i (f.stays m (known_sound sound m rem e)) | inr i ↦ f.each sound t i ];
        only = f.only;
        from = λ l h. elim (f.from l h) [ inl i ↦ inl i | inr i ↦ inr (i.0, inr i.1) ];
        sum = f.sum;
        once = f.once;
      }

  one_kept :
      (past : List ℕ) (m : M) (ms : List M) (ls : List (Lineage M)) (rem : List M) (o : Offered M) →
      known eq m rem ≡ false →
      AtOffered eq past ms (record { mem = m; past = past } ∷ ls) (m ∷ rem) o →
      AtOffered eq past (m ∷ ms) ls rem o
  unfolding times
  one_kept past m ms ls rem full e f = tt
  one_kept past m ms ls rem (offered ls' rem' sp) e f =
      record {
        waits = λ t h. f.waits t (inr h);
        stays = λ t h. f.stays t (inr h);
        each = λ sound t h. elim h [ inl i ↦ f.stays t (inl i) | inr i ↦ f.each sound t i ];
        only = λ t h. elim (f.only t h) [ inl (inl i) ↦ inr (f.waits t (inl i)) | inl (inr i) ↦ inl i | inr i ↦ inr i ];
        from =
            λ l h.
            elim (f.from l h) [
              | inl (inl i) ↦ inr (sym (ap (λ x. x.past) i), inl (ap (λ x. x.mem) i))
              | inl (inr i) ↦ inl i
              | inr i ↦ inr (i.0, inr i.1)
            ];
        sum = λ t. omega (arith, f.sum t);
        once = λ sound h. f.once sound (once_more sound m rem e h);
      }

  module _ (units : M → ℕ) where
    at_offer :
        (past : List ℕ) (ms : List M) (ls : List (Lineage M)) (rem : List M) (sp : ℕ) →
        AtOffered eq past ms ls rem (offer eq units past ms ls rem sp)
    unfolding offer judge
    at_offer past [] ls rem sp =
        record {
          waits = λ t h. h;
          stays = λ t h. h;
          each = λ sound t h. absurd h;
          only = λ t h. inl h;
          from = λ l h. inl h;
          sum = λ t. refl;
          once = λ sound h. h;
        }
    at_offer past (m ∷ ms) ls rem sp = go (judge eq units m rem sp) refl (at_offer past ms)
      where
        go :
            (v : Verdict) →
            judge eq units m rem sp ≡ v →
            ((ls' : List (Lineage M)) (rem' : List M) (sp' : ℕ) → AtOffered eq past ms ls' rem' (offer eq units past ms ls' rem' sp')) →
            AtOffered eq past (m ∷ ms) ls rem
            (elim v [
              | dropped ↦ offer eq units past ms ls rem sp
              | kept ↦ offer eq units past ms (record { mem = m; past = past } ∷ ls) (m ∷ rem) (sp - units m)
              | no_space ↦ full
            ])
        go dropped e rest =
            one_dropped past m ms ls rem (offer eq units past ms ls rem sp) (verdict_dropped (known eq m rem) (leb (units m) sp) e) (rest ls rem sp)
        go kept e rest =
            one_kept past m ms ls rem (offer eq units past ms (record { mem = m; past = past } ∷ ls) (m ∷ rem) (sp - units m))
            (verdict-kept (known eq m rem) (leb (units m) sp) e)
            (rest (record { mem = m; past = past } ∷ ls) (m ∷ rem) (sp - units m))
        go no_space e rest = tt

    pub offers :
        (past : List ℕ) (ms : List M) (ls : List (Lineage M)) (rem : List M) (sp : ℕ) {ls' : List (Lineage M)} {rem' : List M} {sp' : ℕ} →
        offer eq units past ms ls rem sp ≡ offered ls' rem' sp' →
        Offers eq past ms ls rem ls' rem'
    offers past ms ls rem sp e = subst (AtOffered eq past ms ls rem) e (at_offer past ms ls rem sp)
