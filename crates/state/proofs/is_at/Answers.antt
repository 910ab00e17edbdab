-- `state::is_at` tests the place, then the cell. Assumes nothing.
use Rattle.state.proofs.OwnLaws.{tests_key, tests_end}
use Rattle.state.proofs.is_at.Goals as goal

pub returns-then-p-end : goal.returns-then-p-end
returns-then-p-end c = tests_key _ _ _ _ c.if-p-end.true _ c.cell_at.ensures _ c.has_key.ensures

pub returns-else-p-end : goal.returns-else-p-end
returns-else-p-end c = tests_end _ _ _ _ c.if-p-end.false
