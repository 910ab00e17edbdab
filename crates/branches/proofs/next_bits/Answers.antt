-- `branches::next_bits` compares the hash at the place with the state's. Assumes nothing.
use Rattle.std.proofs.Common.{◌∙◌}
use Rattle.branches.proofs.PathLaws.{next_rehashed, next_digits}
use Rattle.branches.proofs.next_bits.Goals as goal

pub returns-then-c-h : goal.returns-then-c-h
returns-then-c-h c = c.hash.ensures ∙ next_rehashed _ _ _ _ _ _ c.cell_at-c.ensures c.requires.2 c.if-c-h.true

pub returns : goal.returns
returns c = next_digits _ _ _ _ _ _ c.cell_at-c.ensures c.requires.2 c.if-c-h.false
