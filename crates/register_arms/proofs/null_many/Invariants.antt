-- `register_arms::null_many`: behind the first registers, what is still to come of the definition's loop is the whole. Assumes nothing.
use Prim.Native.Nat.{◌+◌, ◌-◌}
use Rattle.register_arms.proofs.NullLaws.{Rest}
use Rattle.state.specs.Stores.{cells_in, SameStore}
use Rattle.register_arms.proofs.null_many.Given as goal

abbrev pub invariant-loop-i : goal.invariant-loop-i
invariant-loop-i l = SameStore l.fn.store l.store × Rest l.fn.store.limit (cells_in l.initial.store) (cells_in l.store) l.fn.store.map l.store.map (l.from + l.first) (l.n - l.first) l.i (l.from + l.n - l.i)
