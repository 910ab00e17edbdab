-- `branches::mix`: the sum wraps as the definition's does, and the step of the multiplication fits a word. Assumes nothing.
use Rattle.std.proofs.Common.{◌+◌, ◌*◌, ◌/◌, ◌%◌, ap}
use Rattle.branches.specs.Header.{half}
use Rattle.branches.specs.Hash.{mix}
use Rattle.branches.proofs.mix.Goals as goal

pub returns : goal.returns
unfolding mix
returns c = ap (λ x. x % half * 4294967291 + x / half) c.wrapping_add_u64-s.ensures.value
