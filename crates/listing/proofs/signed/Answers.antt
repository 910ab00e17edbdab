-- `listing::signed`: the sign, then the number behind it. Assumes nothing.
use mathlib.Core.Path.{sym, ◌∙◌}
use native.Mathlib.Omega.{arith}
use borrow.Author.Tests.{ltb-true, ltb-false}
use Rattle.text.proofs.NumberLaws.{up_to_bound}
use Rattle.listing.proofs.OperandLaws.{no_sign, minus_bad, minus_zero, minus_good, plus_bad, plus_good}
use Rattle.listing.proofs.signed.Goals as goal
use Rattle.listing.proofs.signed.Goals.{in_default-via-then-t-lt1, in_default-via-else-t-lt1+in_default-1}

pub returns-in_err-n-in-45 : goal.returns-in_err-n-in-45
returns-in_err-n-in-45 c = rw c.from_residual.ensures (minus_bad _ (omega arith) (omega arith) (sym c.in_err-n-in-45.was ∙ c.natural.ensures))

pub overflow_sub-result : goal.overflow_sub-result
overflow_sub-result c = omega (arith, up_to_bound _ _ (sym c.in_ok-n-in-45.was ∙ c.natural.ensures))

pub returns-in-0 : goal.returns-in-0
returns-in-0 c = minus_zero _ (omega arith) (omega arith) (sym c.in_ok-n-in-45.was ∙ c.natural.ensures) (omega arith)

pub returns-in_default-2 : goal.returns-in_default-2
returns-in_default-2 c = minus_good _ (omega arith) (omega arith) (sym c.in_ok-n-in-45.was ∙ c.natural.ensures) (omega arith)

pub returns-in_err-natural-in_default : goal.returns-in_err-natural-in_default
returns-in_err-natural-in_default c = rw c.from_residual-in_err-natural-in_default.ensures (plus_bad _ (elim c.in_default.branch [ in_default-via-then-t-lt1 w ↦ no_sign c.args.t.now (omega (arith, ltb-true, ltb-false)) | in_default-via-else-t-lt1+in_default-1 w ↦ (λ e. omega (arith, ltb-true, ltb-false)) ]) (sym c.in_err-natural-in_default.was ∙ c.natural-in_default.ensures))

pub overflow_add-result : goal.overflow_add-result
overflow_add-result c = omega (arith, up_to_bound _ _ (sym c.in_ok-natural-in_default.was ∙ c.natural-in_default.ensures))

pub returns-in_ok-natural-in_default : goal.returns-in_ok-natural-in_default
returns-in_ok-natural-in_default c = plus_good _ (elim c.in_default.branch [ in_default-via-then-t-lt1 w ↦ no_sign c.args.t.now (omega (arith, ltb-true, ltb-false)) | in_default-via-else-t-lt1+in_default-1 w ↦ (λ e. omega (arith, ltb-true, ltb-false)) ]) (sym c.in_ok-natural-in_default.was ∙ c.natural-in_default.ensures)
