-- `branches::fold`: both sums wrap as the definition's do, and the product of two halves fits a word. Assumes nothing.
use Rattle.std.proofs.Common.{ap, ◌∙◌}
use Rattle.branches.specs.Hash.{bend, fold}
use Rattle.branches.proofs.fold.Goals as goal

pub returns : goal.returns
unfolding fold
returns c = c.wrapping_add_u64.ensures.value ∙ ap bend c.wrapping_add_u64-s.ensures.value
