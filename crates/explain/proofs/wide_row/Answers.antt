-- `explain::wide_row` reads the row that the state stands on. Assumes nothing.
use Rattle.state.proofs.Stores.{untouched}
use Rattle.explain.proofs.HandlingLaws.{row_handles}
use Rattle.explain.proofs.wide_row.Goals as goal

pub returns-then-eq : goal.returns-then-eq
returns-then-eq c = (untouched, row_handles c.row_of-x.ensures (c.jump_three.ensures _ _ _ _))

pub returns : goal.returns
returns c = (untouched, row_handles c.row_of-x.ensures (c.result_row.ensures _ _ _ _))
