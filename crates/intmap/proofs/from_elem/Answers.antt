-- What is left of `from_elem`, by the invariant of Invariants.antt. Assumes nothing.
use native.Mathlib.Omega.{arith}
use Rattle.intmap.proofs.ChangeLaws.{elems-done}
use Rattle.intmap.proofs.from_elem.Goals as goal

pub returns : goal.returns
returns c = elems-done _ _ _ _ _ _ (omega arith) c.loop-k.invariant.2
