-- What is left of `entry_below`, by the invariant of Invariants.antt. Assumes nothing.
use native.Mathlib.Omega.{arith}
use Rattle.state.proofs.OwnLaws.{below_at, reached_to}
use Rattle.state.proofs.entry_below.Goals as goal

pub returns-then-reaches : goal.returns-then-reaches
returns-then-reaches c = below_at (omega (arith, c.max.ensures)) (omega (arith, c.max.ensures, c.requires.2, c.head_before-head.ensures.1)) (omega (arith, c.max.ensures)) (λ lt. omega (arith, lt, c.max.ensures)) (reached_to c.requires.0 c.head_before-head.ensures.0 c.head_before-head.ensures.1 _ c.cell_at.ensures (c.reaches.ensures c.if-reaches.true))
