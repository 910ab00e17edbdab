-- `in_place::copy_one` copies one register. Assumes nothing.
use Rattle.in_place.proofs.NearLaws.{copies_one}
use Rattle.in_place.proofs.copy_one.Goals as goal

pub returns : goal.returns
returns c = copies_one c.copy.ensures c.if-k-ne-ZERO.false
