-- `in_place::null` writes one register. Assumes nothing.
use Rattle.in_place.proofs.NearLaws.{null_near}
use Rattle.in_place.proofs.null.Goals as goal

pub returns : goal.returns
returns c = λ i. null_near c.single_near.ensures c.if-j-k.false
