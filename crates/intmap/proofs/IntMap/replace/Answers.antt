use mathlib.Core.Path.{refl, ap}
use Rattle.area.specs.Cells.{cells}
use Rattle.intmap.specs.Entries.{key_run}
use Rattle.intmap.specs.Find.{spot}
use Rattle.intmap.specs.Pack.{key_of}
use Rattle.intmap.proofs.StoreLaws.{opened_as, opened_in, cell_full, cell_done}
use native.Mathlib.Omega.{arith}
use Rattle.refusal.proofs.Passed.{passed}
use Rattle.intmap.proofs.IntMap.replace.Goals as goal

pub put_cell-requires : goal.put_cell-requires
put_cell-requires c = let a = c.args in
    let o = opened_as (cells a.area.now) (cells c.room_at.new.area) a.limit a.self 1 c.room_at.result _ _ c.requires.2 c.room_at.ensures in
    let t = opened_in (cells a.area.now) (cells c.room_at.new.area) a.limit a.self (key_of a.c) 1 c.room_at.result c.requires.0 o _ _ (ap (λ s. (spot s).at) c.requires.2) c.in_ok-map.was in
    omega (arith, t.0, t.1, c.requires.0.room)

pub returns-in_err-map : goal.returns-in_err-map
unfolding key_run
returns-in_err-map c = rw (passed _ _ c.from_residual.ensures.1) (let a = c.args in
    let o = opened_as (cells a.area.now) (cells c.room_at.new.area) a.limit a.self 1 c.room_at.result _ _ c.requires.2 c.room_at.ensures in
    cell_full _ _ _ _ _ _ _ c.requires.0 c.requires.1 refl o _ c.in_err-map.was)

pub returns : goal.returns
unfolding key_run
returns c = let a = c.args in
    let o = opened_as (cells a.area.now) (cells c.room_at.new.area) a.limit a.self 1 c.room_at.result _ _ c.requires.2 c.room_at.ensures in
    cell_done _ _ _ _ _ _ _ c.requires.0 c.requires.1 refl o _ _ _ (ap (λ s. (spot s).at) c.requires.2) c.in_ok-map.was c.put_cell.ensures.cells
