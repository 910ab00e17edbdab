-- `Walk::add_branch` pushes a branch and keeps the rest of the walk as it is. Assumes nothing.
use Rattle.walk.proofs.BranchLaws.{adds_laid}
use Rattle.walk.proofs.FollowLaws.{may_push}
use Rattle.walk.proofs.Walk.add_branch.Goals as goal

pub push-requires : goal.push-requires
push-requires c = may_push _ _ _ _ c.requires.0 c.requires.1 _ c.layout.ensures

pub returns : goal.returns
returns c = adds_laid _ _ _ _ _ _ _ c.layout.ensures _ c.push.ensures
