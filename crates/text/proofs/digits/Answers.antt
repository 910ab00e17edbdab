-- What is left of `digits`, by the invariant of Invariants.antt. Assumes nothing.
use mathlib.Core.Path.{◌∙◌, sym}
use native.Mathlib.Omega.{arith}
use Rattle.text.proofs.NumberLaws.{byte_other, digit_on, digit_over, number_over, digits_end}
use Rattle.text.proofs.digits.Goals as goal

pub returns-in_err-checked_mul : goal.returns-in_err-checked_mul
returns-in_err-checked_mul c = rw c.from_residual.ensures (number_over _ _ _ _ c.loop-b-test.true (omega arith) ∙ c.loop-b.invariant.1)

pub returns-in_err-digit : goal.returns-in_err-digit
returns-in_err-digit c = rw c.from_residual-in_err-digit.ensures (byte_other _ _ _ _ c.loop-b-test.true (sym c.in_err-digit.was ∙ c.digit.ensures) ∙ c.loop-b.invariant.1)

pub returns-in_err-n : goal.returns-in_err-n
returns-in_err-n c = rw c.from_residual-in_err-n.ensures (digit_over _ _ _ _ c.loop-b-test.true (sym c.in_ok-digit.was ∙ c.digit.ensures) (omega arith) ∙ c.loop-b.invariant.1)

pub returns-then-most-n : goal.returns-then-most-n
returns-then-most-n c = digit_over _ _ _ _ c.loop-b-test.true (sym c.in_ok-digit.was ∙ c.digit.ensures) (omega arith) ∙ c.loop-b.invariant.1

pub loop-b-preserved : goal.loop-b-preserved
loop-b-preserved c = (omega arith, rw (c.in_ok-n.ensures.1, c.in_ok-checked_mul.ensures.1) (digit_on _ _ _ _ c.loop-b-test.true (sym c.in_ok-digit.was ∙ c.digit.ensures) ∙ c.loop-b.invariant.1))

pub returns : goal.returns
returns c = digits_end _ c.loop-b.b-index _ _ (omega arith) c.loop-b.invariant.0 ∙ c.loop-b.invariant.1
