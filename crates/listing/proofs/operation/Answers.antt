-- `listing::operation`: the test on the value. Assumes nothing.
use borrow.Author.Rules.{rules}
use Rattle.type_info.specs.Ascii.{ascii}
use Rattle.model.specs.ListingText.{is_operation, read_operation}
use Rattle.text.proofs.ReadLaws.{value_kept}
use Rattle.listing.proofs.operation.Goals as goal

pub returns : goal.returns
unfolding ascii read_operation
returns c = value_kept _ is_operation (λ x b q. search rules) _ _ c.value.ensures.reads c.filter.ensures
