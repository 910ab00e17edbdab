-- `record_arms::put_record` tests both records and the registers, and puts the columns and the head. Assumes nothing.
use mathlib.Core.Path.{ap, sym, ◌∙◌}
use native.Mathlib.Omega.{arith}
use Rattle.area.specs.declared.Cell.{Cell}
use Rattle.intmap.specs.Pack.{tag_of}
use Rattle.intmap.proofs.RunLaws.{first-inside}
use Rattle.intmap.proofs.OverLaws.{columns_room}
use Rattle.record_arms.proofs.put_record.Goals as goal

pub cell_at-d-requires : goal.cell_at-d-requires
cell_at-d-requires c = first-inside _ 9 _ c.requires.2

pub are_plain-requires : goal.are_plain-requires
are_plain-requires c = let room = columns_room _ c.requires.2 (sym c.tag_of.ensures ∙ c.if-tag_of-ne-RECORD.false) (ap tag_of c.cell_at-d.ensures) (ap (λ (x : Cell). x.payload) c.cell_at-d.ensures) in (omega (arith, room, c.if-d-n.false), c.requires.2.small)

pub put_over-requires : goal.put_over-requires
put_over-requires c = let room = columns_room _ c.requires.2 (sym c.tag_of.ensures ∙ c.if-tag_of-ne-RECORD.false) (ap tag_of c.cell_at-d.ensures) (ap (λ (x : Cell). x.payload) c.cell_at-d.ensures) in let side = c.side_by_side.ensures.yes c.if-not-side_by_side.false in (omega (arith, side.inside, c.requires.1), omega (arith, room, c.if-d-n.false), c.requires.2.small, c.are_apart.ensures c.if-not-are_apart.false)
