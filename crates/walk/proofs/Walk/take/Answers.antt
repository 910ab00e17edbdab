-- What is left of `Walk::take`, by the invariant of Invariants.antt. Assumes nothing.
use Rattle.walk.proofs.ListLaws.{row-tested}
use Rattle.walk.proofs.TakeLaws.{reach_latest, reach_end, reach_next, reach_row, reach_less, reach_inside}
use Rattle.walk.proofs.Walk.take.Goals as goal

pub pop-requires : goal.pop-requires
pop-requires c = reach_latest c.loop-at.invariant c.requires

pub row_at-requires : goal.row_at-requires
row_at-requires c = reach_inside c.loop-at.invariant _ _ c.in-Some.ensures c.requires

pub returns-then-in_listing : goal.returns-then-in_listing
returns-then-in_listing c = reach_row c.loop-at.invariant _ _ c.in-Some.ensures c.requires (row-tested _ _ _ _ _ c.row_at.ensures c.in_listing.ensures c.if-in_listing.true)

pub loop-at-smaller : goal.loop-at-smaller
loop-at-smaller c = reach_less c.loop-at.invariant _ _ c.in-Some.ensures c.requires

pub loop-at-preserved : goal.loop-at-preserved
loop-at-preserved c = reach_next c.loop-at.invariant _ _ c.in-Some.ensures c.requires (row-tested _ _ _ _ _ c.row_at.ensures c.in_listing.ensures c.if-in_listing.false)

pub returns : goal.returns
returns c = reach_end c.loop-at.invariant _ c.in_default.ensures
