-- `copy_arms::store_behind` stores a cell alone, or moves the run behind the map, writes its head, and stores it. Assumes nothing.
use mathlib.Core.Path.{sym, ◌∙◌}
use native.Mathlib.Omega.{arith}
use Rattle.state.proofs.Stores.{same_then}
use Rattle.copy_arms.proofs.RunLaws.{head_within, run_room, run_above, stores_run, stores-alone}
use Rattle.copy_arms.proofs.store_behind.Goals as goal

pub returns-then-tag_of-ne-RECORD : goal.returns-then-tag_of-ne-RECORD
returns-then-tag_of-ne-RECORD c = record { same = c.store_cell.ensures.same; kept = c.store_cell.ensures.kept; is = stores-alone _ _ _ _ _ c.requires.2 (λ e. c.if-tag_of-ne-RECORD.true (c.tag_of.ensures ∙ e)) _ _ _ c.store_cell.ensures.is }

pub put_cell-requires : goal.put_cell-requires
put_cell-requires c =
    let pre = c.requires in
    omega (arith, head_within _ _ _ _ _ _ pre.0 pre.1.0 pre.1.1 c.count-n.ensures c.move_cells.ensures.is)

pub store_run-requires : goal.store_run-requires
store_run-requires c =
    let pre = c.requires in
    let moved = c.move_cells.ensures in
    let put = c.put_cell.ensures in
    rw (put.same.limit ∙ moved.same.limit, put.map ∙ moved.map) (
      run_room _ _ _ _ _ _ pre.0 pre.1.0 pre.1.1 c.count-n.ensures moved.is _ _ pre.2 pre.3 put.is,
      run_above _ _ _ _ _ _ pre.0 pre.1.0 pre.1.1 c.count-n.ensures moved.is _ _ pre.2 pre.3 put.is,
    )

pub returns : goal.returns
returns c =
    let pre = c.requires in
    let moved = c.move_cells.ensures in
    let put = c.put_cell.ensures in
    let st = rw (put.same.limit ∙ moved.same.limit, put.map ∙ moved.map) at c.store_run.ensures.is in
    record { same = same_then moved.same (same_then put.same c.store_run.ensures.same); kept = λ e was. c.store_run.ensures.kept e was ∙ put.map ∙ moved.map; is = stores_run _ _ _ _ _ _ pre.0 pre.1.0 pre.1.1 c.count-n.ensures moved.is _ _ pre.2 pre.3 put.is _ _ _ st }
