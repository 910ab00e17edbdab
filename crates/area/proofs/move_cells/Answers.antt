-- `area::move_cells` moves nothing onto itself, and else from the end that is overwritten last. Assumes nothing.
use Rattle.area.proofs.MoveLaws.{moved_nowhere}
use Rattle.area.proofs.move_cells.Goals as goal

pub returns-then-to-from : goal.returns-then-to-from
returns-then-to-from c = moved_nowhere _ _ _ _ c.if-to-from.true
