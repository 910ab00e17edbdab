-- `copy_arms::absent` is what lies before the next register, or all n of them. Assumes nothing.
use Rattle.copy_arms.proofs.GapLaws.{gap-zero, gap_bad, gap_least}
use Rattle.copy_arms.proofs.absent.Goals as goal

pub returns-then-n-eq0 : goal.returns-then-n-eq0
returns-then-n-eq0 c = gap-zero _ _ _ _ c.if-n-eq0.true

pub returns-in_default : goal.returns-in_default
returns-in_default c = gap_bad _ _ _ _ _ c.judge_index.ensures _ c.in_default.is

pub returns : goal.returns
returns c = gap_least _ _ _ _ _ c.judge_index.ensures _ _ c.in-Ok.is c.next_register.ensures _ c.min.ensures
