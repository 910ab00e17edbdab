-- `state::place` looks through fewer cells each turn. The invariant: entries before `low` are below the key, `high` is the end or where one begins
-- that is not, and there were at most seven more tries than cells left out. The measure is the length. Assumes nothing.
use Prim.Native.Nat.{ℕ, ◌+◌, ◌-◌, ◌<◌, ◌≤◌}
use lib.ListN.{get_or}
use Rattle.area.specs.Cells.{blank, cells}
use Rattle.intmap.specs.Pack.{key_of}
use Rattle.state.proofs.place.Given as goal

abbrev pub invariant-loop-low : goal.invariant-loop-low
invariant-loop-low l = (l.base ≤ l.low) × (l.low ≤ l.high) × (l.high ≤ l.end) × ((q : ℕ) → l.base ≤ q → q < l.low → 65536 ≤ key_of (get_or (cells l.area) q blank) → key_of (get_or (cells l.area) q blank) < l.key) × (l.high < l.end → l.key ≤ key_of (get_or (cells l.area) l.high blank)) × (l.tried + (l.high - l.low) ≤ l.end + 7)

abbrev pub decreases-loop-low : goal.decreases-loop-low
decreases-loop-low l = l.high - l.low
