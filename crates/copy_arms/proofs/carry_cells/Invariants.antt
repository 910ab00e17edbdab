-- `copy_arms::carry_cells` carries a register a turn. The invariant: what was carried so far is what as many turns of the definition give, and a
-- search for the next registers leads to the next cells, if they are there. Assumes nothing.
use Rattle.area.specs.Cells.{cells}
use Rattle.copy_arms.proofs.TurnLaws.{Carrying}
use Rattle.copy_arms.proofs.carry_cells.Given as goal

abbrev pub invariant-loop-done : goal.invariant-loop-done
invariant-loop-done l = Carrying (cells l.initial.area) (cells l.area) l.map l.moves l.p l.q l.k l.l l.done
