-- A fact of each lineage that a walk still has, handed on to the ways of a handled row, gives a fact of each that was handled, however the
-- walk ends. Assumes nothing.
use mathlib.Core.Path.{◌≡◌, refl, subst}
use mathlib.Core.Logic.{inl, inr}
use mathlib.Core.Bool.{Bool, true}
use Rattle.std.specs.Prelude.{Option, Some}
use mathlib.Core.List.{List, [], ◌∷◌}
use Prim.Native.Nat.{ℕ}
use Rattle.model.specs.Walk.{◌∈◌, Tried, done, Ways, Lineage, add_row, notes_of, handled_before, under_limit, walk}
use Rattle.model.specs.Steps.{WayOf}
use Rattle.model.proofs.Kept.{alive, Keeps, came, at_end}

module _
    {M R : Type 0}
    (eq : M → M → Bool)
    (row_of : M → Option ℕ)
    (ways : Bool → M → Tried (Ways M R))
    (units : M → ℕ)
    (fresh : M)
    (A B : List (Lineage M) → Lineage M → Type 0)
  where
    -- A of the lineages that the walk still has, B of the handled ones; both beside the list of those handled
    pub record Facts : Type 0 where
      -- the fresh start has A
      pub first : A [] (record { mem = fresh; past = [] })
      -- one more handled lineage takes neither away
      pub more : {hs : List (Lineage M)} {l : Lineage M} (h : Lineage M) → A hs l → A (h ∷ hs) l
      pub more_handled : {hs : List (Lineage M)} {l : Lineage M} (h : Lineage M) → B hs l → B (h ∷ hs) l
      -- a lineage whose row is handled gives B
      pub handled :
          {hs : List (Lineage M)} {l : Lineage M} {row : ℕ} →
          row_of l.mem ≡ Some row →
          under_limit row l.past ≡ true →
          A hs l →
          B (add_row row l ∷ hs) (add_row row l)
      -- and hands A on to the row's ways
      pub way :
          {hs : List (Lineage M)} {l : Lineage M} {row : ℕ} {w : Ways M R} {x : Lineage M} →
          row_of l.mem ≡ Some row →
          under_limit row l.past ≡ true →
          ways (handled_before row l.past) l.mem ≡ done w →
          A hs l →
          WayOf w (row ∷ l.past) x →
          A (add_row row l ∷ hs) x

    module _ (facts : Facts) where
      -- B of every handled lineage
      abbrev All : List (Lineage M) → Type 0
      All handled = (l : Lineage M) → l ∈ handled → B handled l

      -- both facts, at a place of the walk
      record Have (ls handled : List (Lineage M)) : Type 0 where
        now : (l : Lineage M) → l ∈ ls → A handled l
        before : All handled

      fewer : {l : Lineage M} {ls handled : List (Lineage M)} → Have (l ∷ ls) handled → Have ls handled
      fewer p = record { now = λ x i. p.now x (inr i); before = p.before }

      grown :
          {row : ℕ} {l : Lineage M} {ls handled : List (Lineage M)} →
          row_of l.mem ≡ Some row →
          under_limit row l.past ≡ true →
          Have (l ∷ ls) handled →
          All (add_row row l ∷ handled)
      grown {row} {l} {ls} {handled} at under p x (inl e) =
          subst (B (add_row row l ∷ handled)) e (facts.handled at under (p.now l (inl refl)))
      grown {row} {l} at under p x (inr i) = facts.more_handled (add_row row l) (p.before x i)

      keeps : Keeps eq row_of ways units (λ g c ls n. Have (alive c ls) n.handled) (λ n. All n.handled)
      keeps =
          record {
            takes = λ p. p;
            leaves = λ e p. fewer p;
            loops = λ at under p. fewer p;
            empties = λ p. fewer p;
            handles =
                λ {row = row} {l = l} h p.
                record {
                  now =
                      λ x i.
                      elim (came eq row_of ways units h x i) [
                        | inl j ↦ facts.more (add_row row l) (p.now x (inr j))
                        | inr j ↦ facts.way h.at h.under h.is (p.now l (inl refl)) j
                      ];
                  before = grown h.at h.under p;
                };
            refuses = grown;
          }

      pub of_handled : (gas space : ℕ) → All (notes_of (walk eq row_of ways units gas fresh space)).handled
      of_handled gas space =
          at_end eq row_of ways units (λ g c ls n. Have (alive c ls) n.handled) (λ n. All n.handled) keeps gas fresh space
          (record { now = λ l i. elim i [ inl e ↦ subst (A []) e facts.first | inr j ↦ absurd j ]; before = λ l i. absurd i })
          (λ g n p. p.before)
