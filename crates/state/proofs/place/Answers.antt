-- What is left of `place`, by the invariant of Invariants.antt. Assumes nothing.
use mathlib.Core.Path.{subst}
use Prim.Native.Nat.{◌<◌}
use native.Mathlib.Omega.{arith}
use Rattle.intmap.specs.Pack.{key_of}
use Rattle.state.proofs.OwnLaws.{lower, belongs_there}
use Rattle.state.proofs.place.Goals as goal

pub returns-then-k-key : goal.returns-then-k-key
returns-then-k-key c = belongs_there c.requires.0 c.requires.1 (omega (arith, c.loop-low.invariant.0, c.entry_below-p.ensures.low)) (omega (arith, c.entry_below-p.ensures.high, c.probe-mid.ensures.1, c.loop-low.invariant.2)) _ c.cell_at-c.ensures _ c.key_of-k.ensures c.if-k-key.true

pub loop-low-preserved-then-k-key-2 : goal.loop-low-preserved-then-k-key-2
loop-low-preserved-then-k-key-2 c = let k = subst (λ y. key_of y < c.args.key) c.cell_at-c.ensures (omega (arith, c.key_of-k.ensures, c.if-k-key-2.true)) in (omega (arith, c.loop-low.invariant.0, c.probe-mid.ensures.0), omega (arith, c.probe-mid.ensures.1), c.loop-low.invariant.2, λ q ge lt. lower c.requires.0 _ _ _ _ c.loop-low.invariant.0 (omega (arith, c.probe-mid.ensures.1, c.loop-low.invariant.2)) c.entry_below-p.ensures k c.loop-low.invariant.3 q ge (omega (arith, lt)), c.loop-low.invariant.4, omega (arith, c.loop-low.invariant.5, c.probe-mid.ensures.0, c.probe-mid.ensures.1))
