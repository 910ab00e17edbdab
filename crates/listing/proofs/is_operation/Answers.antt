-- `listing::is_operation`: the length, then the bytes. Assumes nothing.
use mathlib.Core.Path.{sym, ◌∙◌}
use native.Mathlib.Omega.{arith}
use borrow.Author.Tests.{lt-leb, eqb-true, eqb-false}
use Rattle.listing.proofs.NameLaws.{name_empty, name_long, name_is}
use Rattle.listing.proofs.is_operation.Goals as goal

pub returns-then-is_empty : goal.returns-then-is_empty
returns-then-is_empty c = name_empty _ (omega (arith, eqb-true _ _ (sym c.is_empty.ensures ∙ c.if-is_empty.true)))

pub returns-then-t-le32 : goal.returns-then-t-le32
returns-then-t-le32 c = c.is_alphanumeric.ensures ∙ name_is _ (omega (arith, eqb-false _ _ (sym c.is_empty.ensures ∙ c.if-is_empty.false))) c.if-t-le32.true

pub returns-else-t-le32 : goal.returns-else-t-le32
returns-else-t-le32 c = rw (lt-leb _ 32 c.if-t-le32.false) (name_long _ c.if-t-le32.false)
