-- `record_arms::judge_range` goes by where the first index and the last lie. Assumes nothing.
use mathlib.Core.Path.{refl, subst}
use native.Mathlib.Omega.{arith}
use Rattle.refusal.proofs.Passed.{passed}
use Rattle.intmap.specs.Get.{Within}
use Rattle.record_arms.proofs.RangeLaws.{range_none, range_bad, range_high, range_within}
use Rattle.record_arms.proofs.judge_range.Goals as goal

pub returns-then-n-eq0 : goal.returns-then-n-eq0
returns-then-n-eq0 c = range_none _ _ c.if-n-eq0.true _ refl refl

pub returns-in_err-first : goal.returns-in_err-first
returns-in_err-first c = rw (passed _ _ c.from_residual.ensures.1) (range_bad _ _ c.if-n-eq0.false _ c.judge_index.ensures _ c.in_err-first.was)

pub returns-then-first-n : goal.returns-then-first-n
returns-then-first-n c = let few = subst Within c.in_ok-first.was c.judge_index.ensures.small in range_high _ _ c.if-n-eq0.false _ c.judge_index.ensures _ c.in_ok-first.was (omega (arith, few))

pub returns : goal.returns
returns c = range_within _ _ c.if-n-eq0.false _ c.judge_index.ensures _ c.in_ok-first.was _ refl refl
