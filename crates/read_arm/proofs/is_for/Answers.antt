-- `read_arm::is_for` compares the words. Assumes nothing.
use Rattle.read_arm.proofs.ColumnLaws.{for_other, for_same}
use Rattle.read_arm.proofs.is_for.Goals as goal

pub returns-then-db-x : goal.returns-then-db-x
returns-then-db-x c = for_other _ _ _ _ c.if-db-x.true

pub returns : goal.returns
returns c = for_same _ _ _ _ c.if-db-x.false
