-- `IntMap::insert_run_at` makes room, copies the run there, which lies above the room, and writes its head again under the key. Assumes nothing.
use mathlib.Core.Path.{◌≡◌, sym, ap, ◌∙◌}
use native.Mathlib.Omega.{arith}
use Rattle.refusal.proofs.Passed.{passed}
use Rattle.area.specs.Cells.{cells}
use Rattle.intmap.specs.Find.{seek_place}
use Rattle.intmap.specs.Map.{levels}
use Rattle.intmap.specs.declared.Place.{Place}
use Rattle.intmap.proofs.FindLaws.{led_to, sought_place}
use Rattle.intmap.proofs.StoreLaws.{opened_as, run_pos, run_full, run_fits, run_done}
use Rattle.intmap.proofs.IntMap.insert_run_at.Goals as goal
use Rattle.intmap.proofs.IntMap.insert_run_at.Goals.{in-Ok, in-Ok-2}

pub cell_at-c-requires : goal.cell_at-c-requires
cell_at-c-requires c = let run = c.requires.1 in let pos = run_pos _ _ _ _ _ run in omega (arith, pos, run.fits)

pub move_cells-requires : goal.move_cells-requires
move_cells-requires c = let led : c.match-found.place ≡ seek_place (cells c.args.area.now) levels c.args.key c.args.self.len c.args.self.base = elim c.match-found.branch [ in-Ok w ↦ w.place-is ∙ led_to _ _ _ _ _ _ _ w.in-Ok.is c.requires.3 | in-Ok-2 w ↦ w.place-is ∙ led_to _ _ _ _ _ _ _ w.in-Ok.is c.requires.3 ] in
    let o = opened_as (cells c.args.area.now) (cells c.room_at.new.area) c.args.limit c.args.self c.args.n c.room_at.result _ _ c.requires.3 c.room_at.ensures in let t = run_fits (cells c.args.area.now) (cells c.room_at.new.area) c.args.limit c.args.self c.args.key c.args.from c.args.n c.room_at.result c.requires.0 c.requires.1 o _ _ (ap (λ (x : Place). x.at) (led ∙ sym (sought_place _ _ _ _ _))) c.in_ok-map.was in (record { within = t.0; small = t.2 }, record { within = t.1; small = t.2 })

pub put_cell-requires : goal.put_cell-requires
put_cell-requires c = let led : c.match-found.place ≡ seek_place (cells c.args.area.now) levels c.args.key c.args.self.len c.args.self.base = elim c.match-found.branch [ in-Ok w ↦ w.place-is ∙ led_to _ _ _ _ _ _ _ w.in-Ok.is c.requires.3 | in-Ok-2 w ↦ w.place-is ∙ led_to _ _ _ _ _ _ _ w.in-Ok.is c.requires.3 ] in
    let o = opened_as (cells c.args.area.now) (cells c.room_at.new.area) c.args.limit c.args.self c.args.n c.room_at.result _ _ c.requires.3 c.room_at.ensures in let t = run_fits (cells c.args.area.now) (cells c.room_at.new.area) c.args.limit c.args.self c.args.key c.args.from c.args.n c.room_at.result c.requires.0 c.requires.1 o _ _ (ap (λ (x : Place). x.at) (led ∙ sym (sought_place _ _ _ _ _))) c.in_ok-map.was in let same = c.move_cells.ensures.same in let pos = run_pos _ _ _ _ _ c.requires.1 in record { within = omega (arith, t.1, pos, same); small = omega (arith, t.2, same) }

pub returns-in_err-map : goal.returns-in_err-map
returns-in_err-map c = rw (passed _ _ c.from_residual.ensures.1) (run_full (cells c.args.area.now) (cells c.room_at.new.area) c.args.limit c.args.self c.args.key c.args.from c.args.n c.room_at.result c.requires.0 c.requires.1 (opened_as (cells c.args.area.now) (cells c.room_at.new.area) c.args.limit c.args.self c.args.n c.room_at.result _ _ c.requires.3 c.room_at.ensures) _ c.in_err-map.was)

pub returns : goal.returns
returns c = let led : c.match-found.place ≡ seek_place (cells c.args.area.now) levels c.args.key c.args.self.len c.args.self.base = elim c.match-found.branch [ in-Ok w ↦ w.place-is ∙ led_to _ _ _ _ _ _ _ w.in-Ok.is c.requires.3 | in-Ok-2 w ↦ w.place-is ∙ led_to _ _ _ _ _ _ _ w.in-Ok.is c.requires.3 ] in
    run_done (cells c.args.area.now) (cells c.room_at.new.area) c.args.limit c.args.self c.args.key c.args.from c.args.n c.room_at.result c.requires.0 c.requires.1 (opened_as (cells c.args.area.now) (cells c.room_at.new.area) c.args.limit c.args.self c.args.n c.room_at.result _ _ c.requires.3 c.room_at.ensures) _ _ (ap (λ (x : Place). x.at) (led ∙ sym (sought_place _ _ _ _ _))) c.in_ok-map.was _ _ _ _ c.cell_at-c.ensures c.move_cells.ensures.cells c.with_key.ensures c.put_cell.ensures.cells
