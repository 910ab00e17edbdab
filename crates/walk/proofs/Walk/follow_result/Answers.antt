-- `Walk::follow_result` merges the row before its branch is offered. Assumes nothing.
use Rattle.walk.proofs.ResultLaws.{result_holding, result_refused, result_walking, result_goes}
use Rattle.walk.proofs.Walk.follow_result.Goals as goal
use Rattle.refusal.proofs.Passed.{passed}

pub add_branch-requires : goal.add_branch-requires
add_branch-requires c = (result_holding _ _ c.args.columns.now c.merge_row.new.self _ _ _ c.merge_row.ensures c.requires.0 c.requires.1, c.requires.1.offering)

pub returns-in_err-add_branch : goal.returns-in_err-add_branch
returns-in_err-add_branch c = rw (passed _ _ c.from_residual.ensures.1) (result_refused _ _ c.args.columns.now c.merge_row.new.self _ _ _ c.merge_row.ensures _ _ _ c.in_err-add_branch.ensures)

pub take_up-requires : goal.take_up-requires
take_up-requires c = result_walking _ _ c.args.columns.now c.merge_row.new.self _ _ _ c.merge_row.ensures _ _ c.in_ok-add_branch.ensures c.requires.0 c.requires.1

pub returns : goal.returns
returns c = result_goes _ _ c.args.columns.now c.merge_row.new.self _ _ _ c.merge_row.ensures _ _ c.in_ok-add_branch.ensures _ _ _ c.take_up.ensures
