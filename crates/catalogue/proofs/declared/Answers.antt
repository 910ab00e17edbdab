-- `catalogue::declared`: the test on the value. Assumes nothing.
use borrow.Author.Rules.{rules}
use Rattle.type_info.specs.Ascii.{ascii}
use Rattle.model.specs.CatalogueText.{is_declared, read_declared}
use Rattle.text.proofs.ReadLaws.{value_kept}
use Rattle.catalogue.proofs.declared.Goals as goal

pub returns : goal.returns
unfolding ascii read_declared
returns c = value_kept _ is_declared (λ x b q. search rules) _ _ c.value.ensures.reads c.filter.ensures
