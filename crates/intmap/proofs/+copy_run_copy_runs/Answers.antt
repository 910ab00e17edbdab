-- What is left of `copy_run_copy_runs`, by the invariant of Invariants.antt. Assumes nothing.
use mathlib.Core.Path.{refl, ap, ◌∙◌}
use Prim.Native.Nat.{◌+◌, ◌-◌, ◌<◌}
use native.Mathlib.Omega.{arith}
use native.Mathlib.Nat.{sub-zero, add-zero, zero-add}
use Rattle.area.specs.Cells.{cells}
use Rattle.area.specs.Moves.{moved}
use Rattle.area.proofs.MoveLaws.{moved_none}
use Rattle.intmap.proofs.RunLaws.{size_none, size-single, size_record, size-pos, sizes_end, some_left, one_less, none_left}
use Rattle.intmap.proofs.SameCells.{record_moved, one-moved, sizes_below, copied, next_able, next_copied, next_single}
use Rattle.intmap.proofs.+copy_run_copy_runs.Goals as goal
use Rattle.intmap.proofs.+copy_run_copy_runs.Lts-copy_runs.{then-c-eq-RECORD, else-c-eq-RECORD}

pub copy_run-cell_at-c-requires : goal.copy_run-cell_at-c-requires
copy_run-cell_at-c-requires t c = omega (arith, size-pos (cells c.args.area.now) c.args.depth c.args.from, c.requires.room, c.requires.apart)

pub copy_run-put_cell-requires : goal.copy_run-put_cell-requires
copy_run-put_cell-requires t c = omega (arith, size-pos (cells c.args.area.now) c.args.depth c.args.from, c.requires.room, c.requires.apart)

pub copy_run-returns-then-depth-eq0 : goal.copy_run-returns-then-depth-eq0
copy_run-returns-then-depth-eq0 t c = let one = size_none _ _ _ c.if-depth-eq0.true in copied one (one-moved _ _ _ _ _ _ c.cell_at-c.ensures c.put_cell.ensures.cells one)

pub copy_run-returns-then-tag-ne-RECORD : goal.copy_run-returns-then-tag-ne-RECORD
copy_run-returns-then-tag-ne-RECORD t c =
    let x = c.cell_at-c in
    let one = size-single (cells c.args.area.now) c.args.depth c.args.from x.result x.ensures c.if-tag-ne-RECORD.true in
    copied one (one-moved _ _ _ _ _ _ x.ensures c.put_cell.ensures.cells one)

pub copy_run-copy_runs-requires : goal.copy_run-copy_runs-requires
copy_run-copy_runs-requires t c =
    let x = c.cell_at-c in
    let w = c.put_cell in
    let deep : 0 < c.args.depth = omega (arith, c.if-depth-eq0.false) in
    let r = size_record (cells c.args.area.now) c.args.depth c.args.from x.result x.ensures deep c.if-tag-ne-RECORD.false in
    let b = sizes_below (cells c.args.area.now) (cells w.new.area) c.args.from c.args.to 1 (one-moved _ _ _ _ _ _ x.ensures w.ensures.cells refl) (c.args.depth - 1) x.result.payload (c.args.from + 1) (omega (arith, c.requires.apart)) in
    (omega arith, record { apart = omega (arith, c.requires.apart); room = omega (arith, c.requires.room, w.ensures.same); small = omega (arith, c.requires.small, w.ensures.same) })

pub copy_run-overflow_add-result : goal.copy_run-overflow_add-result
copy_run-overflow_add-result t c =
    let x = c.cell_at-c in
    let w = c.put_cell in
    let v = c.copy_runs in
    let u = record_moved (cells c.args.area.now) (cells w.new.area) (cells v.new.area) c.args.depth c.args.from c.args.to v.result x.result x.ensures w.ensures.cells (omega (arith, c.if-depth-eq0.false)) c.if-tag-ne-RECORD.false c.requires.apart v.ensures.count v.ensures.cells in
    omega (arith, u.0, c.requires.room, c.requires.apart, c.requires.small)

pub copy_run-returns : goal.copy_run-returns
copy_run-returns t c =
    let x = c.cell_at-c in
    let w = c.put_cell in
    let v = c.copy_runs in
    let u = record_moved (cells c.args.area.now) (cells w.new.area) (cells v.new.area) c.args.depth c.args.from c.args.to v.result x.result x.ensures w.ensures.cells (omega (arith, c.if-depth-eq0.false)) c.if-tag-ne-RECORD.false c.requires.apart v.ensures.count v.ensures.cells in
    copied u.0 u.1

pub copy_runs-loop-init : goal.copy_runs-loop-init
copy_runs-loop-init t c = (refl, record { able = c.requires; done = moved_none _ _ _ _ refl; rest = simp (sub-zero, add-zero, zero-add) })

pub copy_runs-cell_at-c-requires : goal.copy_runs-cell_at-c-requires
copy_runs-cell_at-c-requires t c =
    let l = c.loop in
    omega (arith, next_able l.invariant.1 (some_left c.loop-test.true), size-pos (cells l.area) c.args.depth (c.args.from + l.k))

pub copy_runs-copy_run-k-requires : goal.copy_runs-copy_run-k-requires
copy_runs-copy_run-k-requires t c = (omega arith, next_able c.loop.invariant.1 (some_left c.loop-test.true))

pub copy_runs-overflow_add-k : goal.copy_runs-overflow_add-k
copy_runs-overflow_add-k t c = omega (arith, next_able c.loop.invariant.1 (some_left c.loop-test.true), c.copy_run-k.ensures.count)

pub copy_runs-put_cell-requires : goal.copy_runs-put_cell-requires
copy_runs-put_cell-requires t c =
    let l = c.loop in
    omega (arith, next_able l.invariant.1 (some_left c.loop-test.true), size-pos (cells l.area) c.args.depth (c.args.from + l.k))

pub copy_runs-loop-preserved : goal.copy_runs-loop-preserved
copy_runs-loop-preserved t c =
    let l = c.loop in
    let more = some_left c.loop-test.true in
    rw (one_less c.args.n l.counter) (elim c.if-c-eq-RECORD.branch [
      | then-c-eq-RECORD w ↦ rw (w.area-is, w.k-is) (w.copy_run-k.auto.area ∙ l.invariant.0, next_copied l.invariant.1 more w.copy_run-k.ensures)
      | else-c-eq-RECORD w ↦ rw (w.area-is, w.k-is) (w.put_cell.auto.area ∙ l.invariant.0, next_single l.invariant.1 more _ c.cell_at-c.ensures w.if-c-eq-RECORD.false w.put_cell.ensures.cells)
    ])

pub copy_runs-returns : goal.copy_runs-returns
copy_runs-returns t c =
    let l = c.loop in
    let e = sizes_end _ _ _ _ _ (none_left c.loop-test.false) l.invariant.1.rest in
    copied e (l.invariant.1.done ∙ ap (moved _ _ _) e)
