-- `IntMap::append_run` copies the run behind all entries, and writes its head again under the key. Assumes nothing.
use mathlib.Core.Path.{refl, ap}
use native.Mathlib.Omega.{arith}
use Rattle.area.specs.Cells.{cells}
use Rattle.intmap.specs.Find.{spot}
use Rattle.intmap.proofs.StoreLaws.{room_map, few_entries, behind_full, behind_opened, run_pos, run_full, run_done}
use Rattle.intmap.proofs.IntMap.append_run.Goals as goal

pub returns-then-limit-self : goal.returns-then-limit-self
returns-then-limit-self c = let o = behind_full (cells c.args.area.now) c.args.limit c.args.self c.args.key c.args.n c.requires.0 c.requires.3 c.if-limit-self.true in
    run_full _ _ _ _ _ _ _ _ c.requires.0 c.requires.1 o _ refl

pub cell_at-c-requires : goal.cell_at-c-requires
cell_at-c-requires c = let pos = run_pos _ _ _ _ _ c.requires.1 in
    record { within = omega (arith, pos, c.requires.1.fits); small = c.requires.0.small }

pub put_cell-requires : goal.put_cell-requires
put_cell-requires c = let pos = run_pos _ _ _ _ _ c.requires.1 in
    let same = c.move_cells.ensures.same in
    record { within = omega (arith, pos, same, c.requires.0.room, c.if-limit-self.false); small = omega (arith, same, c.requires.0.small) }

pub overflow_add-result : goal.overflow_add-result
overflow_add-result c = let is = room_map c.requires.0 in omega (arith, few_entries _ _ is, is.inside, is.small)

pub returns : goal.returns
returns c = let o = behind_opened (cells c.args.area.now) c.args.limit c.args.self c.args.key c.args.n c.requires.0 c.requires.3 c.if-limit-self.false in
    run_done _ _ _ _ _ _ _ _ c.requires.0 c.requires.1 o _ _ (ap (λ s. (spot s).at) c.requires.3.is) refl _ _ _ _ c.cell_at-c.ensures c.move_cells.ensures.cells c.with_key.ensures c.put_cell.ensures.cells
