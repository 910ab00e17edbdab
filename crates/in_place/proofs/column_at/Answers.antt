-- `in_place::column_at` tests that the column is at its distance, and writes it. Assumes nothing.
use native.Mathlib.Omega.{arith}
use Rattle.state.proofs.OwnLaws.{among_inside}
use Rattle.in_place.proofs.ColumnLaws.{flat_place, stored_near}
use Rattle.in_place.proofs.column_at.Goals as goal

pub cell_at-c-requires : goal.cell_at-c-requires
cell_at-c-requires c = let i = among_inside c.requires.0 in let h = flat_place c.requires.0 c.flat_before.ensures c.if-not-flat_before.false in omega (arith, i.0, i.1, h, c.if-head-key.false)

pub returns : goal.returns
returns c = stored_near c.cell_at-head.ensures c.if-head-key.false c.flat_before.ensures c.if-not-flat_before.false c.cell_at-c.ensures _ c.tag_of.ensures c.if-tag_of-eq-RECORD.false _ c.has_key.ensures c.if-not-has_key.false c.write_near.ensures
