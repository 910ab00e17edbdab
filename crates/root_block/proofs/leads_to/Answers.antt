-- `root_block::leads_to` tells 0 from the other links. Assumes nothing.
use Rattle.std.proofs.Common.{◌∙◌}
use Rattle.root_block.proofs.LinkLaws.{link_tested}
use Rattle.root_block.proofs.leads_to.Goals as goal

pub returns : goal.returns
returns c = c.then_some.ensures ∙ link_tested _
