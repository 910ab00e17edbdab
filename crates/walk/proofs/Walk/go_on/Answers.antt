-- `Walk::go_on`, by whether the state stands on a row. Assumes nothing.
use mathlib.Core.Path.{refl, sym, ◌∙◌}
use Rattle.walk.proofs.UpLaws.{goes_off, goes_row}
use Rattle.walk.proofs.Walk.go_on.Goals as goal

pub returns-then-in_listing : goal.returns-then-in_listing
returns-then-in_listing c = goes_row _ _ _ _ _ refl (sym c.in_listing.ensures ∙ c.if-in_listing.true)

pub returns : goal.returns
returns c = goes_off _ _ _ _ _ refl _ _ _ (sym c.in_listing.ensures ∙ c.if-in_listing.false) c.take_up.ensures
