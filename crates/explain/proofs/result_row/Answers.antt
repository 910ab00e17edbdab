-- `explain::result_row` by how the row is judged. Assumes nothing.
use mathlib.Core.Path.{sym, subst}
use Rattle.refusal.proofs.Passed.{passed}
use Rattle.result_arm.specs.Results.{JudgesRow}
use Rattle.explain.proofs.HandlingLaws.{result_refused, result_handles}
use Rattle.explain.proofs.result_row.Goals as goal

pub returns-in_err-columns : goal.returns-in_err-columns
returns-in_err-columns c = λ from n blocks again. rw (passed _ _ c.from_residual.ensures.1) (result_refused (sym c.requires.1) _ (subst (JudgesRow _) c.in_err-columns.was c.result_row.ensures))

pub returns : goal.returns
returns c = λ from n blocks again. rw (c.at.ensures.0, c.at.ensures.1) (result_handles (sym c.requires.1) _ c.requires.0.current (subst (JudgesRow _) c.in_ok-columns.was c.result_row.ensures))
