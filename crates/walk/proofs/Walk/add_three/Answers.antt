-- `Walk::add_three` offers three branches, each behind what the one before it left. Assumes nothing.
use borrow.Author.Rules.{rules}
use Rattle.refusal.proofs.Passed.{passed}
use Rattle.walk.proofs.FollowLaws.{holding_after, offering_after, three_full, three_second_full, three_all, first-after}
use Rattle.walk.proofs.Walk.add_three.Goals as goal

pub returns-in_err-add_branch : goal.returns-in_err-add_branch
returns-in_err-add_branch c = rw (passed _ _ c.from_residual.ensures.1) (three_full _ _ _ _ _ _ _ _ _ c.in_err-add_branch.ensures)

pub add_branch-requires-2 : goal.add_branch-requires-2
add_branch-requires-2 c = (holding_after c.in_ok-add_branch.ensures c.requires.1 (search rules) (search rules) c.requires.0, offering_after c.in_ok-add_branch.ensures c.requires.1 c.requires.0 _ c.requires.2)

pub returns-in_err-add_branch-2 : goal.returns-in_err-add_branch-2
returns-in_err-add_branch-2 c = rw (passed _ _ c.from_residual-in_err-add_branch-2.ensures.1) (three_second_full _ _ _ _ _ _ _ _ (search rules) (search rules) c.in_ok-add_branch.ensures _ _ (first-after c.requires.0 (holding_after c.in_ok-add_branch.ensures c.requires.1 (search rules) (search rules) c.requires.0)) c.requires.2.below.below _ c.in_err-add_branch-2.ensures)

pub add_branch-requires-3 : goal.add_branch-requires-3
add_branch-requires-3 c = (holding_after c.in_ok-add_branch-2.ensures (offering_after c.in_ok-add_branch.ensures c.requires.1 c.requires.0 _ c.requires.2) (search rules) (search rules) (holding_after c.in_ok-add_branch.ensures c.requires.1 (search rules) (search rules) c.requires.0), offering_after c.in_ok-add_branch-2.ensures (offering_after c.in_ok-add_branch.ensures c.requires.1 c.requires.0 _ c.requires.2) (holding_after c.in_ok-add_branch.ensures c.requires.1 (search rules) (search rules) c.requires.0) _ (offering_after c.in_ok-add_branch.ensures c.requires.1 c.requires.0 _ c.requires.3))

pub returns : goal.returns
returns c = three_all _ _ _ _ _ _ _ _ (search rules) (search rules) c.in_ok-add_branch.ensures _ _ (first-after c.requires.0 (holding_after c.in_ok-add_branch.ensures c.requires.1 (search rules) (search rules) c.requires.0)) c.requires.2.below.below (search rules) c.in_ok-add_branch-2.ensures _ _ _ c.add_branch-3.ensures (first-after c.requires.0 (holding_after c.in_ok-add_branch-2.ensures (offering_after c.in_ok-add_branch.ensures c.requires.1 c.requires.0 _ c.requires.2) (search rules) (search rules) (holding_after c.in_ok-add_branch.ensures c.requires.1 (search rules) (search rules) c.requires.0))) c.requires.3.below.below
