-- `record_arms::make_record` judges the count and the range. Assumes nothing.
use mathlib.Core.Path.{refl, subst}
use Rattle.refusal.proofs.Passed.{passed}
use Rattle.state.proofs.Stores.{untouched}
use Rattle.record_arms.specs.Records.{JudgesRange}
use Rattle.record_arms.proofs.RecordLaws.{arm_negative, arm_range, arm_stored}
use Rattle.record_arms.proofs.make_record.Goals as goal

pub returns-then-x-lt-ZERO : goal.returns-then-x-lt-ZERO
returns-then-x-lt-ZERO c = record { same = untouched; kept = λ e was. refl; is = arm_negative _ _ _ _ c.if-x-lt-ZERO.true }

pub returns-in_err-registers : goal.returns-in_err-registers
returns-in_err-registers c = rw (passed _ _ c.from_residual.ensures.1) (record { same = untouched; kept = λ e was. refl; is = arm_range _ _ _ _ c.if-x-lt-ZERO.false _ refl _ (subst (JudgesRange _ _) c.in_err-registers.was c.judge_range.ensures) })

pub returns : goal.returns
returns c = record { same = c.store_record.ensures.same; kept = c.store_record.ensures.kept; is = arm_stored _ _ _ _ c.if-x-lt-ZERO.false _ refl _ (subst (JudgesRange _ _) c.in_ok-registers.was c.judge_range.ensures) _ _ c.store_record.ensures.is }
