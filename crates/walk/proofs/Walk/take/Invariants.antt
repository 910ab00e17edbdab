-- `Walk::take` takes up one after the other. The invariant: what is taken up of those that are left is what is taken up of all. The measure is the
-- place of the latest. Assumes nothing.
use Rattle.branches.specs.Header.{link_of}
use Rattle.walk.proofs.TakeLaws.{Reaching}
use Rattle.walk.proofs.Walk.take.Given as goal

abbrev pub invariant-loop-at : goal.invariant-loop-at
invariant-loop-at l = Reaching l.p l.area l.initial.self l.self

abbrev pub decreases-loop-at : goal.decreases-loop-at
decreases-loop-at l = link_of l.self.branches.last
