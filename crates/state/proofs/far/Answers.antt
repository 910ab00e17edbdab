-- `state::far` tests the cell where the key belongs. Assumes nothing.
use mathlib.Core.Path.{sym, ◌∙◌}
use Rattle.state.proofs.OwnLaws.{located_here}
use Rattle.state.proofs.far.Goals as goal

pub returns-then-is_at : goal.returns-then-is_at
returns-then-is_at c = located_here c.place-p.ensures.low (sym c.is_at.ensures ∙ c.if-is_at.true)
