-- `count_from` knows a column of one cell by its cell. Assumes nothing.
use Rattle.intmap.proofs.RunLaws.{size-single, size-empty}
use Rattle.intmap.proofs.count_from.Goals as goal

pub returns-then-tag-ne-RECORD : goal.returns-then-tag-ne-RECORD
returns-then-tag-ne-RECORD c = size-single _ _ _ _ c.requires.1 c.if-tag-ne-RECORD.true

pub returns-then-c-eq0 : goal.returns-then-c-eq0
returns-then-c-eq0 c = size-empty _ _ _ _ c.requires.1 c.if-tag-ne-RECORD.false c.if-c-eq0.true
