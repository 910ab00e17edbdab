use lib.ListN.{length}
use mathlib.Core.Path.{refl, ap, ◌∙◌}
use Rattle.intmap.specs.Find.{spot}
use Rattle.area.specs.Cells.{cells}
use Rattle.area.proofs.MoveLaws.{length_moved}
use Rattle.intmap.specs.Entries.{key_run}
use Rattle.intmap.proofs.StoreLaws.{room_map, few_entries, new_within, new_full, new_opened, cell_full, cell_done}
use native.Mathlib.Omega.{arith}
use Rattle.intmap.proofs.IntMap.insert_new.Goals as goal

pub returns-then-limit-self : goal.returns-then-limit-self
unfolding key_run
returns-then-limit-self c = let o = new_full (cells c.args.area.now) c.args.limit c.args.self _ _ 1 c.requires.2.is (omega (arith, c.if-limit-self.true)) in
    cell_full _ _ _ _ _ _ _ c.requires.0 c.requires.1 refl o _ refl

pub overflow_add-at : goal.overflow_add-at
overflow_add-at c = let f = new_within c.requires.0 c.requires.2 in omega (arith, f.1, c.requires.0.most, c.requires.0.room, c.requires.0.small)

pub overflow_sub-self : goal.overflow_sub-self
overflow_sub-self c = let f = new_within c.requires.0 c.requires.2 in omega (arith, f.1)

pub move_cells-requires : goal.move_cells-requires
move_cells-requires c = let f = new_within c.requires.0 c.requires.2 in
    let has = c.requires.0 in
    (record { within = omega (arith, f.0, f.1, has.most, has.room); small = has.small }, record { within = omega (arith, f.0, f.1, has.most, has.room, c.if-limit-self.false); small = has.small })

pub put_cell-requires : goal.put_cell-requires
put_cell-requires c = let f = new_within c.requires.0 c.requires.2 in
    let has = c.requires.0 in
    let long = ap length c.move_cells.ensures.cells ∙ length_moved (cells c.args.area.now) _ _ _ in
    record { within = omega (arith, long, f.0, f.1, has.room, c.if-limit-self.false); small = omega (arith, long, has.small) }

pub overflow_add-result : goal.overflow_add-result
overflow_add-result c = let is = room_map c.requires.0 in omega (arith, few_entries _ _ is, is.inside, is.small)

pub returns : goal.returns
unfolding key_run
returns c = let o = new_opened (cells c.args.area.now) c.args.limit c.args.self _ _ 1 c.requires.2.is (omega (arith, c.if-limit-self.false)) _ c.move_cells.ensures.cells in
    cell_done _ _ _ _ _ _ _ c.requires.0 c.requires.1 refl o _ _ _ (ap (λ s. (spot s).at) c.requires.2.is) refl c.put_cell.ensures.cells
