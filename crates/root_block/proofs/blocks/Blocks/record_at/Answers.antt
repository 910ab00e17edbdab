-- `Blocks::record_at`: the cell is there, and blocks are not too many. Assumes nothing.
use mathlib.Core.Logic.{∥∥₁_elim}
use native.Mathlib.Bridge.{le_prop}
use native.Mathlib.Omega.{arith}
use Rattle.root_block.proofs.blocks.Blocks.record_at.Goals as goal

pub cell_at-requires : goal.cell_at-requires
cell_at-requires c = record { within = omega (arith, c.requires.0, c.requires.1); small = ∥∥₁_elim c.args.self.indexed le_prop (λ w. w.has.small) }
