-- `branches::child` shifts the link down and takes a third of a word. Assumes nothing.
use Rattle.std.proofs.Common.{ap, ◌∙◌}
use Rattle.branches.specs.Header.{place_of}
use Rattle.branches.proofs.HeaderLaws.{child-read}
use Rattle.branches.proofs.child.Goals as goal

pub returns : goal.returns
returns c = c.place_of.ensures ∙ ap place_of (child-read _ _ _ _ _ c.cell_at-c.ensures c.shift.ensures)
