-- `Walk::close` counts the current lineage and closes those that wait. Assumes nothing.
use Rattle.walk.proofs.CloseLaws.{stopped_walking, closes_current}
use Rattle.walk.proofs.Walk.close.Goals as goal

pub close_all-requires : goal.close_all-requires
close_all-requires c = stopped_walking _ _ _ _ c.gas_stop.ensures c.requires.0 c.requires.1

pub returns : goal.returns
returns c = closes_current _ _ _ _ c.gas_stop.ensures _ c.close_all.ensures
