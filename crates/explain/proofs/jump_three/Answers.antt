-- `explain::jump_three` has the same map in four states. Assumes nothing.
use mathlib.Core.Path.{sym}
use Rattle.explain.proofs.HandlingLaws.{three_handles}
use Rattle.explain.proofs.jump_three.Goals as goal

pub returns : goal.returns
returns c = λ from n blocks again. rw (c.at.ensures.0, c.at.ensures.1, c.at-2.ensures.0, c.at-2.ensures.1, c.at-3.ensures.0, c.at-3.ensures.1, c.at-4.ensures.0, c.at-4.ensures.1) (three_handles c.args.x c.requires.0.current (sym c.requires.1))
