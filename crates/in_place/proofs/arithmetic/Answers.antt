-- `in_place::arithmetic` reads both operands and writes what they give. Assumes nothing.
use Rattle.in_place.proofs.NearLaws.{arithmetic_near}
use Rattle.in_place.proofs.arithmetic.Goals as goal

pub returns : goal.returns
returns c = arithmetic_near c.register_near.ensures c.in-Some.is c.register_near-2.ensures c.in-Some-register_near.is c.cell_at.ensures c.cell_at-2.ensures _ _ c.register_in-a.ensures c.register_in-b.ensures _ _ _ _ c.first_datatype-d.ensures c.map_to_datatype.ensures c.map_to_datatype-2.ensures c.operands_nullable.ensures c.single_near.ensures
