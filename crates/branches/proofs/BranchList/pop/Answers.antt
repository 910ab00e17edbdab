-- `BranchList::pop`: the header of the latest that waits tells which waits behind it. Assumes nothing.
use Rattle.branches.proofs.PopLaws.{pop_none, pop_one}
use Rattle.branches.proofs.BranchList.pop.Goals as goal

pub returns-in_err-last : goal.returns-in_err-last
returns-in_err-last c = rw c.from_residual.ensures (pop_none _ _ c.in_err-last.was)

pub returns : goal.returns
returns c = pop_one _ _ _ _ _ c.in_ok-last.was c.cell_at-c.ensures c.place_of-self.ensures
