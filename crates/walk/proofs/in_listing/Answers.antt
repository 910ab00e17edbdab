-- `walk::in_listing` in its two tests. Assumes nothing.
use Rattle.walk.proofs.ListLaws.{tested, tested_below}
use Rattle.walk.proofs.in_listing.Goals as goal

pub returns-then-row-ge-ZERO : goal.returns-then-row-ge-ZERO
returns-then-row-ge-ZERO c = tested _ _ c.if-row-ge-ZERO.true

pub returns-else-row-ge-ZERO : goal.returns-else-row-ge-ZERO
returns-else-row-ge-ZERO c = tested_below _ _ c.if-row-ge-ZERO.false
