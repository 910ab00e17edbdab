-- `in_place::copy` reads one register and writes the other. Assumes nothing.
use mathlib.Core.Path.{◌∙◌}
use Rattle.in_place.proofs.NearLaws.{near_copied}
use Rattle.in_place.proofs.copy.Goals as goal

pub returns : goal.returns
returns c = near_copied c.register_near.ensures c.in-Some.is c.cell_at-c.ensures (λ e. c.if-tag_of-eq-RECORD.false (c.tag_of.ensures ∙ e)) c.write_near.ensures
