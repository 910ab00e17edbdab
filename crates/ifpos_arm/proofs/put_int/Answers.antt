-- `ifpos_arm::put_int` stores one cell. Assumes nothing.
use Rattle.ifpos_arm.proofs.IfPosLaws.{puts_int}
use Rattle.ifpos_arm.proofs.put_int.Goals as goal

pub returns : goal.returns
returns c = record { same = c.store_plain.ensures.same; kept = c.store_plain.ensures.kept; is = puts_int _ _ _ _ _ _ _ (rw c.int.ensures at c.store_plain.ensures.is) }
