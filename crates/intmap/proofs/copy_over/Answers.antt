-- `intmap::copy_over` tests both records, and copies one over the other. Assumes nothing.
use mathlib.Core.Path.{ap, sym, ◌∙◌}
use native.Mathlib.Omega.{arith}
use Rattle.area.specs.declared.Cell.{Cell}
use Rattle.intmap.specs.Pack.{tag_of}
use Rattle.intmap.proofs.RunLaws.{first-inside}
use Rattle.intmap.proofs.OverLaws.{columns_room, copied_it}
use Rattle.intmap.proofs.copy_over.Goals as goal

pub cell_at-d-requires : goal.cell_at-d-requires
cell_at-d-requires c = first-inside _ 9 _ c.requires.1

pub are_plain-requires : goal.are_plain-requires
are_plain-requires c = (columns_room _ c.requires.0 (sym c.tag_of.ensures ∙ c.if-tag_of-ne-RECORD.false) c.requires.2 c.requires.3, c.requires.0.small)

pub are_plain-requires-2 : goal.are_plain-requires-2
are_plain-requires-2 c = let room = columns_room _ c.requires.1 (sym c.tag_of-2.ensures ∙ c.if-tag_of-ne-RECORD-2.false) (ap tag_of c.cell_at-d.ensures) (ap (λ (x : Cell). x.payload) c.cell_at-d.ensures) in (omega (arith, room, c.if-d-c.false), c.requires.0.small)

pub move_cells-requires : goal.move_cells-requires
move_cells-requires c = let there = columns_room _ c.requires.0 (sym c.tag_of.ensures ∙ c.if-tag_of-ne-RECORD.false) c.requires.2 c.requires.3 in let room = columns_room _ c.requires.1 (sym c.tag_of-2.ensures ∙ c.if-tag_of-ne-RECORD-2.false) (ap tag_of c.cell_at-d.ensures) (ap (λ (x : Cell). x.payload) c.cell_at-d.ensures) in (omega (arith, there, c.requires.0.small), omega (arith, room, c.if-d-c.false, c.requires.0.small))

pub returns : goal.returns
returns c = copied_it c.requires.1 (sym c.tag_of.ensures ∙ c.if-tag_of-ne-RECORD.false) c.requires.2 c.requires.3 _ c.cell_at-d.ensures (sym c.tag_of-2.ensures ∙ c.if-tag_of-ne-RECORD-2.false) c.if-d-c.false (c.are_plain.ensures.yes c.if-not-are_plain.false) (c.are_plain-2.ensures.yes c.if-not-are_plain-2.false) c.move_cells.ensures.cells _ c.key_of.ensures _ c.with_key.ensures c.put_cell.ensures.cells
