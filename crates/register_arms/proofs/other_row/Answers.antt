-- `register_arms::other_row` copies what the definition makes. Assumes nothing.
use Rattle.model.specs.RegisterArms.{from_other_row}
use Rattle.std.proofs.Common.{rules}
use Rattle.register_arms.proofs.other_row.Goals as goal

pub returns : goal.returns
returns c = c.copy_to.ensures from_other_row (λ bound cs a q v told d made. search rules)
