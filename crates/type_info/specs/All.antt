-- Every member of a list: a property of each, and a test that each passes. Assumes nothing.
use Rattle.std.specs.Prelude.{Bool, List, [], ◌∷◌, ℕ}
use Rattle.std.specs.List.{list_all}

pub data All {A : Type 0} (P : A → Type 0) : List A → Type 0 where
  all_nil : All P []
  all_cons : {x : A} {xs : List A} → P x → All P xs → All P (x ∷ xs)

abbrev pub all_of : (ℕ → Bool) → List ℕ → Bool
all_of test s = list_all test s
