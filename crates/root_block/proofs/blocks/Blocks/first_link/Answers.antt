-- `Blocks::first_link`: blocks have a bucket, and are not too many. Assumes nothing.
use mathlib.Core.Logic.{∥∥₁_elim}
use mathlib.Core.HLevel.{×_prop}
use native.Mathlib.Bridge.{le_prop}
use Rattle.root_block.proofs.blocks.Blocks.first_link.Goals as goal

pub first_link-requires : goal.first_link-requires
first_link-requires c = ∥∥₁_elim c.args.self.indexed (×_prop le_prop le_prop) (λ w. (w.has.some, w.has.small))
