-- `Walk::close_all` takes up what waits. The invariant: what is still to be closed gives what the whole gives. The measure is the place of the
-- latest that waits. Assumes nothing.
use Rattle.branches.specs.Header.{link_of}
use Rattle.walk.proofs.CloseLaws.{Closing}
use Rattle.walk.proofs.Walk.close_all.Given as goal

abbrev pub invariant-loop-at : goal.invariant-loop-at
invariant-loop-at l = Closing l.p l.area l.initial.self l.self

abbrev pub decreases-loop-at : goal.decreases-loop-at
decreases-loop-at l = link_of l.self.branches.last
