-- A table of texts and values as the code has it, and the look-up in it. Assumes nothing.
use Rattle.std.specs.Prelude.{List, [], ◌∷◌, ℕ, Option}
use denote.Ref.{Bor}
use Rattle.type_info.specs.Ascii.{starts_with}
use Rattle.model.specs.TextTable.{Named, first_for}

unfoldable pub named : {A : Type 0} → List (Bor (List ℕ) × A) → List (Named A)
named [] = []
named (e ∷ es) = record { text = e.0.now; value = e.1 } ∷ named es

-- the value of the first text that the given one starts with
unfoldable pub found_in : {A : Type 0} → List ℕ → List (Bor (List ℕ) × A) → Option A
found_in given table = first_for starts_with given (named table)
