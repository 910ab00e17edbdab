-- The row that a state stands on is one of the listing's; a state that stands on none is offered no way. Assumes nothing.
use mathlib.Core.Path.{◌≡◌, refl, sym, subst}
use mathlib.Core.Bool.{Bool}
use Rattle.std.specs.Prelude.{Option, None, Some}
use Rattle.std.proofs.lemmas.Option.{none-some, same_Some, slice_get_within}
use mathlib.Core.List.{List}
use Prim.Native.Nat.{ℕ, ◌<◌}
use lib.IntN.{ℤ, pos, negsuc}
use lib.ListN.{length}
use Rattle.model.specs.Row.{Row}
use Rattle.model.specs.State.{MemoryState}
use Rattle.model.specs.Meaning.{Meaning}
use Rattle.model.specs.Offer.{turns, row_at, ends}
use Rattle.model.specs.Explain.{at_row, ways, number_at, row_of}

pub row_at-within : (rows : List Row) (i : ℤ) (x : Row) → row_at rows i ≡ Some x → turns i < length rows
unfolding row_at
row_at-within rows (pos k) x e = slice_get_within rows k x e
row_at-within rows (negsuc k) x e = absurd (none-some x e)

module _ (rows : List Row) (m : MemoryState) where
  pub row_of_within : (k : ℕ) → row_of rows m ≡ Some k → k < length rows
  unfolding row_of
  row_of_within k = go (row_at rows m.program_i) refl
    where
      go : (o : Option Row) → row_at rows m.program_i ≡ o → number_at m o ≡ Some k → k < length rows
      go None e h = absurd (none-some k h)
      go (Some x) e h = subst (λ j. j < length rows) (same_Some (turns m.program_i) k h) (row_at-within rows m.program_i x e)

  pub outside_ends : (meaning : Meaning) (again : Bool) → row_of rows m ≡ None → ways meaning rows again m ≡ ends
  unfolding row_of ways
  outside_ends meaning again = go (row_at rows m.program_i)
    where
      go : (o : Option Row) → number_at m o ≡ None → at_row meaning rows again m o ≡ ends
      go None h = refl
      go (Some x) h = absurd (none-some (turns m.program_i) (sym h))
