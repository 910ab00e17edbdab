-- `Walk::run_turns`. The invariant: after so many turns, the rest of the run from where the walk stands is the whole run. Assumes nothing.
use Rattle.walk.proofs.RunLaws.{RunsTo}
use Rattle.walk.proofs.Walk.run_turns.Given as goal

abbrev pub invariant-loop-turn : goal.invariant-loop-turn
invariant-loop-turn l = RunsTo l.p l.blocks.bytes.now l.initial.area l.area l.initial.columns l.columns l.initial.self l.initial.current l.budget l.self l.current l._turn
