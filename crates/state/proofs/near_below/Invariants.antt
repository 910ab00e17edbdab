-- `state::near_below` passes a cell a turn. Assumes nothing.
use Prim.Native.Nat.{◌≤◌}
use Rattle.state.proofs.near_below.Given as goal

abbrev pub invariant-loop : goal.invariant-loop
invariant-loop l = (l.base ≤ l.q) × (l.q ≤ l.end)
