-- What is left of `Walk::close_all`, by the invariant of Invariants.antt. Assumes nothing.
use Rattle.walk.proofs.CloseLaws.{closing_walking, closing_end, closing_stop, closing_next}
use Rattle.walk.proofs.Walk.close_all.Goals as goal

pub take-requires : goal.take-requires
take-requires c = closing_walking c.loop-at.invariant c.requires.0

pub gas_stop-requires : goal.gas_stop-requires
gas_stop-requires c = closing_stop c.loop-at.invariant _ _ c.in-Some.ensures c.requires.0 c.requires.1

pub loop-at-preserved : goal.loop-at-preserved
loop-at-preserved c = closing_next c.loop-at.invariant _ _ c.in-Some.ensures c.requires.0 _ c.gas_stop.ensures

pub returns : goal.returns
returns c = closing_end c.loop-at.invariant _ c.in_default.ensures c.requires.1
