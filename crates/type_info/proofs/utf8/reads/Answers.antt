-- What is left of `utf8::reads`, by the invariant of Invariants.antt. Assumes nothing.
use Rattle.std.proofs.Common.{◌<◌, ◌∙◌, refl, arith}
use Rattle.type_info.specs.ByteClass.{expectations, expectation, expected}
use Rattle.type_info.specs.Utf8.{is_utf8}
use Rattle.type_info.proofs.Automaton.{at_end, byte_taken, byte_refused}
use Rattle.type_info.proofs.utf8.reads.Goals as goal

pub loop-b-init : goal.loop-b-init
unfolding is_utf8 expected expectation expectations
loop-b-init c = record { state = omega arith; rest = refl }

pub returns-then-state-eq8 : goal.returns-then-state-eq8
returns-then-state-eq8 c =
    byte_refused c.args.s.now c.loop-b.b-index c.loop-b.state c.class_of.result c.state_after-state.result (omega arith) c.class_of.ensures c.state_after-state.ensures c.if-state-eq8.true
    ∙ c.loop-b.invariant.rest

pub loop-b-preserved : goal.loop-b-preserved
loop-b-preserved c =
    let small : c.state_after-state.result < 8 = omega (arith, c.state_after-state.ensures.small) in
    record {
      state = small;
      rest =
          byte_taken c.args.s.now c.loop-b.b-index c.loop-b.state c.class_of.result c.state_after-state.result (omega arith) c.class_of.ensures c.state_after-state.ensures small
          ∙ c.loop-b.invariant.rest;
    }

pub returns : goal.returns
returns c = at_end c.args.s.now c.loop-b.b-index c.loop-b.state (omega arith) c.loop-b.invariant.state ∙ c.loop-b.invariant.rest
