-- What is left of `null_many`, by the invariant of Invariants.antt. Assumes nothing.
use mathlib.Core.Path.{◌≡◌, refl, ap}
use Prim.Native.Nat.{◌+◌, ◌-◌}
use native.Mathlib.Omega.{arith}
use Rattle.state.specs.Stores.{stored_in}
use Rattle.state.proofs.Stores.{same_then, same_at, no_refusal}
use Rattle.copy_arms.proofs.StoreLaws.{said_of}
use Rattle.register_arms.proofs.NullLaws.{null_ends, null_refused, null_again}
use Rattle.register_arms.proofs.RunLaws.{run_then}
use Rattle.register_arms.proofs.null_many.Goals as goal

pub returns-in-Err : goal.returns-in-Err
returns-in-Err c =
    record { same = same_at _ (same_then c.loop-i.invariant.0 c.store_single.ensures.same); kept = λ e was. refl; is = run_then _ c.requires.0 c.null_first-first.ensures.is (null_refused _ _ _ _ _ _ _ _ _ c.loop-i.invariant.1 _ _ (omega (arith, c.loop-i-test.true)) (said_of c.loop-i.invariant.0.limit refl c.store_single.ensures) _ (ap (stored_in c.store_single.new.self) c.in-Err.is)) }

pub loop-i-preserved : goal.loop-i-preserved
loop-i-preserved c =
    let one : c.args.from + c.args.n - (c.loop-i.i + 1) ≡ c.args.from + c.args.n - c.loop-i.i - 1 = omega arith in
    let single = c.store_single.ensures in
    rw one (same_then c.loop-i.invariant.0 single.same, null_again _ _ _ _ _ _ _ _ _ c.loop-i.invariant.1 _ _ (omega (arith, c.loop-i-test.true)) (said_of c.loop-i.invariant.0.limit refl single) _ (ap (stored_in c.store_single.new.self) c.in_default.is))

pub returns : goal.returns
returns c = record { same = c.loop-i.invariant.0; kept = no_refusal; is = run_then _ c.requires.0 c.null_first-first.ensures.is (null_ends _ _ _ _ _ _ _ _ _ c.loop-i.invariant.1 (λ h. omega (arith, h, c.loop-i-test.false))) }
