-- `record_arms::put_over` puts a column a turn. Assumes nothing.
use Rattle.area.specs.Cells.{cells}
use Rattle.record_arms.specs.Over.{PutsRegisters}
use Rattle.record_arms.proofs.put_over.Given as goal

abbrev pub invariant-loop-d : goal.invariant-loop-d
invariant-loop-d l = PutsRegisters (cells l.initial.area) (cells l.area) l.p l.q l.d
