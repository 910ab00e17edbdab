-- What is left of `Walk::run_turns`, by the invariant of Invariants.antt. Assumes nothing.
use native.Mathlib.Omega.{arith}
use Rattle.refusal.proofs.Passed.{passed}
use Rattle.walk.proofs.RunLaws.{runs_gas, runs_standing, may_close, runs_pause, runs_close, runs_refused, runs_ended, runs_next}
use Rattle.walk.proofs.Walk.run_turns.Goals as goal

pub take_turn-requires : goal.take_turn-requires
take_turn-requires c = runs_standing c.loop-turn.invariant c.requires (runs_gas c.loop-turn.invariant c.requires (omega (arith, c.loop-turn-test.true, c.min-turn-end.ensures)))

pub returns-in_err-take_turn : goal.returns-in_err-take_turn
returns-in_err-take_turn c = rw (passed _ _ c.from_residual.ensures.1) (runs_refused c.loop-turn.invariant (omega (arith, c.loop-turn-test.true, c.min-turn-end.ensures)) _ _ _ _ c.in_err-take_turn.ensures)

pub returns-in-None : goal.returns-in-None
returns-in-None c = runs_ended c.loop-turn.invariant (omega (arith, c.loop-turn-test.true, c.min-turn-end.ensures)) _ _ _ _ c.in_ok-take_turn.ensures c.in-None.is

pub loop-turn-preserved : goal.loop-turn-preserved
loop-turn-preserved c = runs_next c.loop-turn.invariant (omega (arith, c.loop-turn-test.true, c.min-turn-end.ensures)) _ _ _ _ c.in_ok-take_turn.ensures _ c.in-Some.is

pub close-requires : goal.close-requires
close-requires c = may_close c.loop-turn.invariant c.requires

pub returns-then-self-eq0 : goal.returns-then-self-eq0
returns-then-self-eq0 c = runs_close c.loop-turn.invariant _ (omega (arith, c.if-self-eq0.true)) c.close.ensures

pub returns : goal.returns
returns c = runs_pause c.loop-turn.invariant (omega (arith, c.loop-turn-test.false, c.min-turn-end.ensures)) (omega (arith, c.if-self-eq0.false))
