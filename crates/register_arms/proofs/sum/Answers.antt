-- `register_arms::sum` copies what the definition makes. Assumes nothing.
use Rattle.model.specs.RegisterArms.{summed}
use Rattle.std.proofs.Common.{rules}
use Rattle.register_arms.proofs.sum.Goals as goal

pub returns : goal.returns
returns c = c.copy_to.ensures summed (λ bound cs a q v told d made. search rules)
