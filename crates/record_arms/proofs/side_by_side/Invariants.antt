-- `record_arms::side_by_side` tests a cell a turn. Assumes nothing.
use Rattle.area.specs.Cells.{cells}
use Rattle.record_arms.proofs.OverLaws.{Beside}
use Rattle.record_arms.proofs.side_by_side.Given as goal

abbrev pub invariant-loop-d : goal.invariant-loop-d
invariant-loop-d l = Beside (cells l.area) l.p l.registers.first l.d
