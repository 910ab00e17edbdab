-- `state::entry_below` tests the cell, the head that it tells, or goes down a cell a turn. The invariant: from p on none begins. Assumes nothing.
use Prim.Native.Nat.{◌≤◌}
use Rattle.area.specs.Cells.{cells}
use Rattle.state.proofs.OwnLaws.{NoneFrom}
use Rattle.state.proofs.entry_below.Given as goal

abbrev pub invariant-loop-p : goal.invariant-loop-p
invariant-loop-p l = (l.low ≤ l.p) × (l.p ≤ l.at) × NoneFrom (cells l.area) l.p l.at
