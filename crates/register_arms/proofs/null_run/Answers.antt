-- What is left of `null_run`, by the invariant of Invariants.antt. Assumes nothing.
use mathlib.Core.Path.{refl}
use borrow.Author.Rules.{rules}
use Rattle.register_arms.proofs.RunLaws.{nulling_first, nulling_on}
use Rattle.register_arms.proofs.null_run.Goals as goal

pub loop-done-init : goal.loop-done-init
loop-done-init c = (refl, nulling_first _ _ _ _ _ _ c.requires.0 c.requires.1 c.requires.2)

pub loop-done-preserved : goal.loop-done-preserved
loop-done-preserved c = (search rules, nulling_on c.loop-done.invariant.1 c.overwrite.ensures c.requires.0 c.loop-done-test.true c.single-c.ensures c.if-not-overwrite.false)
