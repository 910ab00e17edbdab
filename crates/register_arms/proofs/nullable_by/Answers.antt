-- `register_arms::nullable_by` asks whether P2 is 0. Assumes nothing.
use Rattle.register_arms.proofs.RegisterLaws.{null_by}
use Rattle.register_arms.proofs.nullable_by.Goals as goal

pub returns : goal.returns
returns c = null_by c.args.p2
