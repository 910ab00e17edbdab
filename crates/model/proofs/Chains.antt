-- The past of a handled state is the rows of a chain of handled states from the fresh start, however the walk ends. Assumes nothing.
use mathlib.Core.Path.{refl}
use mathlib.Core.Logic.{inl, inr}
use mathlib.Core.Bool.{Bool}
use Rattle.std.specs.Prelude.{Option}
use mathlib.Core.List.{List, ◌∷◌}
use Prim.Native.Nat.{ℕ}
use Rattle.model.specs.Walk.{◌∈◌, Tried, Ways, Lineage, add_row, notes_of, walk}
use Rattle.model.specs.Steps.{Born, first, child, Chain}
use Rattle.model.proofs.Lineages.{Facts, of_handled}

module _
    {M R : Type 0}
    (eq : M → M → Bool)
    (row_of : M → Option ℕ)
    (ways : Bool → M → Tried (Ways M R))
    (units : M → ℕ)
    (fresh : M)
  where
    born_more : {hs : List (Lineage M)} {l : Lineage M} (h : Lineage M) → Born row_of ways fresh hs l → Born row_of ways fresh (h ∷ hs) l
    born_more h (first e₁ e₂) = first e₁ e₂
    born_more h (child x i c) = child x (inr i) c

    chain_facts : Facts eq row_of ways units fresh (Born row_of ways fresh) (Chain row_of ways fresh)
    chain_facts =
        record {
          first = first refl refl;
          more = born_more;
          more_handled = λ h c. record { row = c.row; before = c.before; at = c.at; past = c.past; born = born_more h c.born };
          handled = λ {l = l} {row = row} at under b. record { row = row; before = l.past; at = at; past = refl; born = born_more (add_row row l) b };
          way =
              λ {l = l} {row = row} {w = w} at under is b x. child (add_row row l) (inl refl) (record { offers = w; is = is; way = x });
        }

    pub chained :
        (gas space : ℕ) (l : Lineage M) →
        l ∈ (notes_of (walk eq row_of ways units gas fresh space)).handled →
        Chain row_of ways fresh (notes_of (walk eq row_of ways units gas fresh space)).handled l
    chained = of_handled eq row_of ways units fresh (Born row_of ways fresh) (Chain row_of ways fresh) chain_facts
