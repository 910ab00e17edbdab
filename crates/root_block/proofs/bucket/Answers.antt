-- `root_block::bucket` divides by the number of cells. Assumes nothing.
use mathlib.Core.Path.{sym, ap}
use Prim.Native.Nat.{◌%◌}
use native.Mathlib.Omega.{arith}
use Rattle.area.proofs.CellLaws.{length-cells}
use Rattle.root_block.proofs.bucket.Goals as goal

pub nonzero_rem-result : goal.nonzero_rem-result
nonzero_rem-result c = omega (arith, length-cells c.args.blocks.now)

pub returns : goal.returns
returns c = ap (λ n. c.args.page % n) (sym (length-cells c.args.blocks.now))
