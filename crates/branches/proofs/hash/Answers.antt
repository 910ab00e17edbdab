-- What is left of `hash`, by the invariant of Invariants.antt. Assumes nothing.
use Rattle.std.proofs.Common.{◌∙◌, arith}
use Rattle.branches.proofs.HashLaws.{mixed_end, mixed_turn, hash_whole}
use Rattle.branches.proofs.hash.Goals as goal

pub loop-at-preserved : goal.loop-at-preserved
loop-at-preserved c = mixed_turn _ _ _ _ _ _ _ c.loop-at-test.true c.cell_at-c.ensures c.fold.ensures c.mix-h-in-loop-at.ensures ∙ c.loop-at.invariant

pub returns : goal.returns
returns c = mixed_end _ _ _ _ (omega (arith, c.loop-at-test.false)) ∙ c.loop-at.invariant ∙ hash_whole _ _ _ _ c.mix-h.ensures
