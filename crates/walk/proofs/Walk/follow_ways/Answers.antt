-- `Walk::follow_ways` after at most one branch. Assumes nothing.
use borrow.Author.Rules.{rules}
use Rattle.refusal.proofs.Passed.{passed}
use Rattle.walk.proofs.FollowLaws.{few_after, walking_after, ways_refused, ways_goes}
use Rattle.walk.proofs.Walk.follow_ways.Goals as goal

pub returns-in_err-add_way : goal.returns-in_err-add_way
returns-in_err-add_way c = rw (passed _ _ c.from_residual.ensures.1) (ways_refused _ _ _ c.in_err-add_way.ensures)

pub note_repeat-requires : goal.note_repeat-requires
note_repeat-requires c = few_after c.in_ok-add_way.ensures c.requires.1 c.requires.0

pub go_on_way-requires : goal.go_on_way-requires
go_on_way-requires c = walking_after c.in_ok-add_way.ensures c.requires.1 c.requires.0 _ c.args.repeat c.note_repeat.ensures

pub returns : goal.returns
returns c = ways_goes (search rules) (search rules) c.requires.0.less c.in_ok-add_way.ensures c.note_repeat.ensures c.go_on_way.ensures
