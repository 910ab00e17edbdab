-- `text::natural`: a number that begins with 0 is that digit alone. Assumes nothing.
use mathlib.Core.Path.{◌∙◌}
use native.Mathlib.Omega.{arith}
use borrow.Author.Tests.{ltb-true, ltb-false}
use Rattle.text.proofs.NumberLaws.{empty-number, one-digit, leading_zero, other_digit}
use Rattle.text.proofs.natural.Goals as goal
use Rattle.text.proofs.natural.Goals.{in_default-via-then-t-lt2, in_default-via-else-t-lt2+in_default-1}

pub returns-in-empty : goal.returns-in-empty
returns-in-empty c = empty-number _ _ (omega arith)

pub returns-in-48 : goal.returns-in-48
returns-in-48 c = leading_zero _ _ (omega arith) (omega arith) (omega arith)

pub returns-in_default : goal.returns-in_default
returns-in_default c = c.digits.ensures ∙ elim c.in_default.branch [ in_default-via-then-t-lt2 w ↦ one-digit _ _ (omega (arith, ltb-true, ltb-false)) | in_default-via-else-t-lt2+in_default-1 w ↦ other_digit _ _ (omega (arith, ltb-true, ltb-false)) (omega (arith, ltb-true, ltb-false)) ]
