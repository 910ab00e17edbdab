-- Tables of texts: a value for each text, and the first whose text passes a test. The arms of a `match` on a `str`, and chains of
-- `starts_with`, are read so. Assumes nothing.
use Rattle.std.specs.Prelude.{Bool, true, ◌&&◌, List, [], ◌∷◌, ℕ, eqb, Option, None, Some}
use Prim.Native.String.{String}
use Rattle.type_info.specs.Ascii.{ascii, equals}
use Rattle.model.specs.Walk.{times}
use Rattle.model.specs.IntMap.{get_if}

pub record Named (A : Type 0) : Type 0 where
  pub text : List ℕ
  pub value : A

module _ {A : Type 0} where
  infix 80 ◌is◌
  abbrev pub ◌is◌ : String → A → Named A
  s is v = record { text = ascii s; value = v }

  -- `test given text` decides, as `equals` and `starts_with` do
  unfoldable pub first_for : (List ℕ → List ℕ → Bool) → List ℕ → List (Named A) → Option A
  first_for test given [] = None
  first_for test given (n ∷ more) = let rest = first_for test given more in get_if (test given n.text) n.value rest

  abbrev pub or_else : A → Option A → A
  or_else other None = other
  or_else other (Some v) = v

  unfoldable pub texts : List (Named A) → List (List ℕ)
  texts [] = []
  texts (n ∷ more) = n.text ∷ texts more

-- each of the texts stands once among all
unfoldable pub once_in : List (List ℕ) → List (List ℕ) → Bool
once_in all [] = true
once_in all (t ∷ more) = eqb (times equals t all) 1 && once_in all more

-- no text stands twice in a table
abbrev pub texts_differ : {A : Type 0} → List (Named A) → Bool
texts_differ table = once_in (texts table) (texts table)
