-- `catalogue::is_declared`: the length, then the bytes. Assumes nothing.
use mathlib.Core.Path.{◌∙◌}
use borrow.Author.Tests.{lt-leb}
use Rattle.catalogue.proofs.FlagLaws.{declared_long, declared_short}
use Rattle.catalogue.proofs.is_declared.Goals as goal

pub returns-then-t-le64 : goal.returns-then-t-le64
returns-then-t-le64 c = c.all_printable.ensures ∙ declared_short _ c.if-t-le64.true

pub returns-else-t-le64 : goal.returns-else-t-le64
returns-else-t-le64 c = rw (lt-leb _ 64 c.if-t-le64.false) (declared_long _ c.if-t-le64.false)
