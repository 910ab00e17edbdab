-- `result_arm::result_row`: where the width is not refused, the range is judged. Assumes nothing.
use native.Mathlib.Omega.{arith}
use Rattle.result_arm.proofs.ResultLaws.{row_judged}
use Rattle.result_arm.proofs.result_row.Goals as goal

pub returns : goal.returns
returns c = row_judged _ _ c.saturating_sub-count.ensures (omega arith) _ c.judge_range.ensures
