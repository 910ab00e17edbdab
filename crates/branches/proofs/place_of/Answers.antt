-- `branches::place_of` tells 0 from the other words. Assumes nothing.
use Rattle.std.proofs.Common.{◌∙◌}
use Rattle.branches.proofs.HeaderLaws.{place_tested}
use Rattle.branches.proofs.place_of.Goals as goal

pub returns : goal.returns
returns c = c.then_some.ensures ∙ place_tested _
