-- `BranchList::search` goes down by a digit a turn. The invariant: the way of the state's hashes has led to p, and every place where the state is lies on the
-- way from there. The measure is how far the top is, since links lead to later places. Assumes nothing.
use Rattle.std.proofs.Common.{◌-◌, ◌<◌, ◌≤◌}
use Rattle.branches.proofs.SearchLaws.{Searching}
use Rattle.branches.proofs.BranchList.search.Given as goal

abbrev pub invariant-loop-p : goal.invariant-loop-p
invariant-loop-p l = (l.initial.p ≤ l.p) × (l.initial.p < l.top → Searching l.area l.initial.p l.top l.s l.p l.bits)

abbrev pub decreases-loop-p : goal.decreases-loop-p
decreases-loop-p l = l.top - l.p
