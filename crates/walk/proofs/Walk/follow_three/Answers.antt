-- `Walk::follow_three` after its three branches. Assumes nothing.
use borrow.Author.Rules.{rules}
use Rattle.refusal.proofs.Passed.{passed}
use Rattle.walk.proofs.FollowLaws.{walking_three, three_refused, three_goes}
use Rattle.walk.proofs.Walk.follow_three.Goals as goal

pub returns-in_err-add_three : goal.returns-in_err-add_three
returns-in_err-add_three c = rw (passed _ _ c.from_residual.ensures.1) (three_refused _ _ c.in_err-add_three.ensures)

pub go_on-requires : goal.go_on-requires
go_on-requires c = walking_three c.in_ok-add_three.ensures c.requires.1 c.requires.2 c.requires.3 c.requires.0

pub returns : goal.returns
returns c = three_goes (search rules) (search rules) c.requires.0.less c.in_ok-add_three.ensures c.go_on.ensures
