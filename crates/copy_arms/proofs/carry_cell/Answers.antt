-- `copy_arms::carry_cell` overwrites the target's cell, and then the source's with null, if it moves. Assumes nothing.
use mathlib.Core.Path.{ap, ◌∙◌}
use Rattle.intmap.specs.Pack.{with_key}
use Rattle.copy_arms.proofs.CellLaws.{cell_copied, cell_moved}
use Rattle.copy_arms.proofs.carry_cell.Goals as goal

pub returns-then-not-moves : goal.returns-then-not-moves
returns-then-not-moves c = cell_copied c.requires.0 c.requires.1 c.requires.2 c.requires.3 c.requires.4 _ _ c.cell_at-c.ensures (c.with_key.ensures ∙ ap (λ k. with_key k c.cell_at-c.result) c.class_key.ensures) _ c.put_cell.ensures.cells _ c.if-not-moves.true

pub returns : goal.returns
returns c = cell_moved c.requires.0 c.requires.1 c.requires.2 c.requires.3 c.requires.4 _ _ c.cell_at-c.ensures (c.with_key.ensures ∙ ap (λ k. with_key k c.cell_at-c.result) c.class_key.ensures) _ c.put_cell.ensures.cells _ _ _ c.single-null.ensures (c.with_key-2.ensures ∙ ap (λ k. with_key k c.single-null.result) c.class_key-2.ensures) _ c.put_cell-2.ensures.cells c.if-not-moves.false
