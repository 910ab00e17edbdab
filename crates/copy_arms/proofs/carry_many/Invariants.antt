-- `copy_arms::carry_many` carries what it can where it stands, then one register by a store, and passes over the absent ones behind it. The
-- invariant: what is still to come of the definition's loop, from the state now, is what the whole gives. The measure is how many are left.
-- Assumes nothing.
use Prim.Native.Nat.{◌+◌, ◌-◌, ◌≤◌}
use Rattle.intmap.specs.Signed.{int_of}
use Rattle.state.specs.Stores.{cells_in, SameStore}
use Rattle.state.proofs.LeadsLaws.{Reached}
use Rattle.copy_arms.specs.Copies.{carry_many}
use Rattle.copy_arms.proofs.carry_many.Given as goal

abbrev pub invariant-loop-done : goal.invariant-loop-done
invariant-loop-done l = SameStore l.initial.store l.store × (l.done ≤ l.n) × Reached l.initial.store.limit (cells_in l.initial.store) (cells_in l.store) l.initial.store.map l.store.map (carry_many l.initial.store.limit l.moves l.n (int_of l.i) (int_of l.j)) (carry_many l.initial.store.limit l.moves (l.n - l.done) (int_of (l.i + l.done)) (int_of (l.j + l.done)))

abbrev pub decreases-loop-done : goal.decreases-loop-done
decreases-loop-done l = l.n - l.done
