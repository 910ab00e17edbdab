-- `state::near_last` passes an entry a turn. Assumes nothing.
use Prim.Native.Nat.{◌≤◌}
use Rattle.state.proofs.near_last.Given as goal

abbrev pub invariant-loop : goal.invariant-loop
invariant-loop l = (l.base ≤ l.high) × (l.high ≤ l.end)
