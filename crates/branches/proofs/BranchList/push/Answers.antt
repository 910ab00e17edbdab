-- `BranchList::push` looks for the state, and adds it where it is not known. Assumes nothing.
use Rattle.branches.proofs.AddLaws.{push_known}
use Rattle.branches.proofs.BranchList.push.Goals as goal

pub returns-in-None : goal.returns-in-None
returns-in-None c = push_known _ _ _ _ _ _ c.requires c.in-None.ensures
