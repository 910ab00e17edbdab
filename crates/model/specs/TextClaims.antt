-- What is claimed of the texts: a reader accepts exactly the printings of valid values, and gives those values back. Statements only.
-- Assumes nothing.
use Rattle.std.specs.Prelude.{◌≡◌, ◌↔◌, List, ◌++◌, ℕ, Option, Some}
use Rattle.type_info.specs.All.{All}
use Rattle.model.specs.Reader.{Reader}
use Rattle.model.specs.ListingText.{ValidRow, print_listing, read_listing}
use Rattle.model.specs.CatalogueText.{ValidRecord, print_catalogue, read_catalogue}
use Rattle.model.specs.AnswerText.{ValidAnswer, print_answer, read_answer, take_answer}

-- of whole texts
pub record Exactly {A : Type 0} (read : List ℕ → Option A) (Valid : A → Type 0) (print : A → List ℕ) : Type 0 where
  pub is : (t : List ℕ) (v : A) → (read t ≡ Some v) ↔ (Valid v × (t ≡ print v))

-- of what stands first in a text, with the rest u behind it
pub record Takes {A : Type 0} (take : Reader A) (Valid : A → Type 0) (print : A → List ℕ) : Type 0 where
  pub is : (t : List ℕ) (v : A) (u : List ℕ) → (take t ≡ Some (v, u)) ↔ (Valid v × (t ≡ print v ++ u))

abbrev pub ListingExact : Type 0
ListingExact = Exactly read_listing (All ValidRow) print_listing

abbrev pub CatalogueExact : Type 0
CatalogueExact = Exactly read_catalogue (All ValidRecord) print_catalogue

abbrev pub AnswerExact : Type 0
AnswerExact = Exactly read_answer ValidAnswer print_answer

-- also where more stands behind it
abbrev pub AnswerFirst : Type 0
AnswerFirst = Takes take_answer ValidAnswer print_answer
