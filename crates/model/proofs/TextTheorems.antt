-- The theorems on the three texts: each reader accepts exactly the printings of valid values, and gives those values back.
-- Assumes nothing.
use mathlib.Core.Path.{◌≡◌, sym, ap, ◌∙◌}
use Rattle.std.specs.Prelude.{Option}
use mathlib.Core.List.{List}
use Prim.Native.Nat.{ℕ}
use Rattle.model.specs.TextClaims.{Exactly, ListingExact, CatalogueExact, AnswerExact, AnswerFirst}
use Rattle.model.proofs.ReaderLaws.{some_same, reads}
use Rattle.model.proofs.ListingTextLaws.{listing_exact}
use Rattle.model.proofs.CatalogueTextLaws.{catalogue_exact}
use Rattle.model.proofs.AnswerTextLaws.{answer-takes, answer_exact}

pub listing_text_lem : ListingExact
listing_text_lem = listing_exact

pub catalogue_text : CatalogueExact
catalogue_text = catalogue_exact

pub answer_text_lem : AnswerExact
answer_text_lem = answer_exact

pub answer-first : AnswerFirst
answer-first = answer-takes

-- for each of them: two valid values that are printed alike are equal
pub printed_alike : {A : Type 0} {read : List ℕ → Option A} {Valid : A → Type 0} {print : A → List ℕ} → Exactly read Valid print → (v w : A) → Valid v → Valid w → print v ≡ print w → v ≡ w
printed_alike {read = read} exact v w h k e = some_same (sym (reads exact h) ∙ ap read e ∙ reads exact k)
