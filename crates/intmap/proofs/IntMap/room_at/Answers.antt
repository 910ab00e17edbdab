-- `IntMap::room_at` makes room where the search led: in the place of the entry that is there, or before the next. Assumes nothing.
use mathlib.Core.Path.{sym, ◌∙◌}
use native.Mathlib.Omega.{arith}
use Rattle.intmap.proofs.RunLaws.{first-inside}
use Rattle.intmap.proofs.StoreLaws.{room_map, few_entries, found_in, found_all, found_column}
use Rattle.intmap.proofs.IntMap.room_at.Goals as goal

pub cell_at-c-requires : goal.cell_at-c-requires
cell_at-c-requires c = first-inside _ _ _ (found_column _ _ _ (room_map c.requires.0) (sym c.in-Ok.is ∙ c.requires.2.is))

pub count_from-old-requires : goal.count_from-old-requires
count_from-old-requires c = (found_column _ _ _ (room_map c.requires.0) (sym c.in-Ok.is ∙ c.requires.2.is), c.cell_at-c.ensures)

pub make_room-requires : goal.make_room-requires
make_room-requires c = let is = room_map c.requires.0 in
    let there = sym c.in-Ok.is ∙ c.requires.2.is in
    (c.requires.0, (found_in _ _ _ is _ there).0, omega (arith, found_all _ _ _ is there, c.count_from-old.ensures), c.requires.1)

pub overflow_add-self : goal.overflow_add-self
overflow_add-self c = let is = room_map c.requires.0 in omega (arith, few_entries _ _ is, is.inside, is.small)

pub make_room-requires-in-Err : goal.make_room-requires-in-Err
make_room-requires-in-Err c = let f = found_in _ _ _ (room_map c.requires.0) _ (sym c.in-Err.is ∙ c.requires.2.is) in (c.requires.0, f.0, omega (arith, f.1), c.requires.1)
