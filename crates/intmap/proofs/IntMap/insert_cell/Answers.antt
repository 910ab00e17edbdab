use lib.ListN.{get_or}
use mathlib.Core.Path.{◌≡◌, refl, sym, ap, ◌∙◌}
use Rattle.area.specs.Cells.{blank, cells}
use Rattle.intmap.specs.Find.{seek}
use Rattle.intmap.specs.Map.{levels}
use Rattle.intmap.specs.Pack.{tag_of}
use Rattle.intmap.proofs.RunLaws.{first-inside}
use Rattle.intmap.proofs.Overwritten.{overwritten}
use Rattle.intmap.proofs.StoreLaws.{room_map, found_column}
use Rattle.intmap.proofs.IntMap.insert_cell.Goals as goal

pub cell_at-requires : goal.cell_at-requires
cell_at-requires c = first-inside _ _ _ (found_column _ _ _ (room_map c.requires.0) c.in-Ok.ensures)

pub put_cell-requires : goal.put_cell-requires
put_cell-requires c = first-inside _ _ _ (found_column _ _ _ (room_map c.requires.0) c.in-Ok.ensures)

pub returns-else-tag_of-eq-RECORD : goal.returns-else-tag_of-eq-RECORD
returns-else-tag_of-eq-RECORD c = let a = c.args in
    let old : tag_of (get_or (cells a.area.now) c.in-Ok.place.at blank) ≡ 2 → ⊥ = λ t. c.if-tag_of-eq-RECORD.false (c.tag_of.ensures ∙ ap tag_of c.cell_at.ensures ∙ t) in
    overwritten (cells a.area.now) _ a.limit a.self c.key_of.result _ a.c c.requires.0 old c.requires.1 (sym c.key_of.ensures) c.in-Ok.place c.in-Ok.ensures refl c.put_cell.ensures.cells

pub insert_new-requires : goal.insert_new-requires
insert_new-requires c = (c.requires.0, c.requires.1, record { left = c.in-Err.place.left; is = c.in-Err.ensures ∙ ap (λ k. seek (cells c.args.area.now) levels k c.args.self.len c.args.self.base) c.key_of.ensures })
