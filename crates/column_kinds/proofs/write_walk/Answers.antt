-- `column_kinds::write_walk`, by how the walk ended. Assumes nothing.
use Rattle.column_kinds.proofs.CallLaws.{writes_refused, writes_ended}
use Rattle.column_kinds.proofs.write_walk.Goals as goal
use Rattle.refusal.proofs.Passed.{passed}

pub returns-in_err-w : goal.returns-in_err-w
returns-in_err-w c = rw (passed _ _ c.from_residual.ensures.1) (writes_refused _ _ _ _ c.in_err-w.was)

pub returns : goal.returns
returns c = writes_ended c.args.columns.now _ c.as_slice.ensures.bytes c.as_slice.ensures.width c.args.answer.now _ _ _ _ c.in_ok-w.was c.write_answer.ensures
