-- What is left of `depth_from_depth_of`, by the invariant of Invariants.antt. Assumes nothing.
use Prim.Native.Nat.{◌+◌, ◌-◌, ◌<◌}
use native.Mathlib.Nat.{sub-zero}
use native.Mathlib.Omega.{arith}
use Rattle.area.specs.Cells.{cells}
use Rattle.intmap.specs.Runs.{size}
use Rattle.intmap.proofs.RunLaws.{size_record, size-pos, sizes_room, sizes-turn, some_left, one_less, none_left}
use Rattle.intmap.proofs.DepthLaws.{nesting-none, nesting-single, nesting_record, nesting_most, nestings_end, nestings-turn}
use Rattle.intmap.proofs.+depth_from_depth_of.Goals as goal

pub depth_of-returns-then-depth-eq0 : goal.depth_of-returns-then-depth-eq0
depth_of-returns-then-depth-eq0 t c = nesting-none _ _ _ c.if-depth-eq0.true

pub depth_of-cell_at-c-requires : goal.depth_of-cell_at-c-requires
depth_of-cell_at-c-requires t c = omega (arith, size-pos (cells c.args.area.now) c.args.depth c.args.at, c.requires.fits)

pub depth_of-returns-then-tag-ne-RECORD : goal.depth_of-returns-then-tag-ne-RECORD
depth_of-returns-then-tag-ne-RECORD t c = let x = c.cell_at-c in nesting-single (cells c.args.area.now) c.args.depth c.args.at x.result x.ensures c.if-tag-ne-RECORD.true

pub depth_of-loop-init : goal.depth_of-loop-init
depth_of-loop-init t c =
    let x = c.cell_at-c in
    rw sub-zero (omega arith, size_record (cells c.args.area.now) c.args.depth c.args.at x.result x.ensures (omega (arith, c.if-depth-eq0.false)) c.if-tag-ne-RECORD.false, omega arith)

pub depth_of-cell_at-x-requires : goal.depth_of-cell_at-x-requires
depth_of-cell_at-x-requires t c =
    let l = c.loop in
    let r = sizes_room (size (cells c.args.area.now) (c.args.depth - 1)) (c.cell_at-c.result.payload - l.counter) c.args.at l.k _ (some_left c.loop-test.true) l.invariant.1 in
    omega (arith, c.requires.fits, c.requires.small, size-pos (cells c.args.area.now) (c.args.depth - 1) (c.args.at + l.k))

pub depth_of-depth_from-requires : goal.depth_of-depth_from-requires
depth_of-depth_from-requires t c =
    let l = c.loop in
    let r = sizes_room (size (cells c.args.area.now) (c.args.depth - 1)) (c.cell_at-c.result.payload - l.counter) c.args.at l.k _ (some_left c.loop-test.true) l.invariant.1 in
    (omega (arith, c.if-depth-eq0.false), (record { fits = omega (arith, c.requires.fits); small = c.requires.small }, c.cell_at-x.ensures))

pub depth_of-count_from-k-requires : goal.depth_of-count_from-k-requires
depth_of-count_from-k-requires t c =
    let l = c.loop in
    let r = sizes_room (size (cells c.args.area.now) (c.args.depth - 1)) (c.cell_at-c.result.payload - l.counter) c.args.at l.k _ (some_left c.loop-test.true) l.invariant.1 in
    (record { fits = omega (arith, c.requires.fits); small = c.requires.small }, c.cell_at-x.ensures)

pub depth_of-overflow_add-k : goal.depth_of-overflow_add-k
depth_of-overflow_add-k t c =
    let l = c.loop in
    let r = sizes_room (size (cells c.args.area.now) (c.args.depth - 1)) (c.cell_at-c.result.payload - l.counter) c.args.at l.k _ (some_left c.loop-test.true) l.invariant.1 in
    omega (arith, c.requires.fits, c.requires.small, c.count_from-k.ensures)

pub depth_of-loop-preserved : goal.depth_of-loop-preserved
depth_of-loop-preserved t c =
    let l = c.loop in
    let more = some_left c.loop-test.true in
    let x = c.depth_from in
    rw (one_less c.cell_at-c.result.payload l.counter) (
      nestings-turn _ _ _ _ _ _ _ _ _ _ more c.count_from-k.ensures x.ensures c.max-best.ensures l.invariant.0,
      sizes-turn _ _ _ _ _ _ more c.count_from-k.ensures l.invariant.1,
      omega (arith, x.ensures, nesting_most (cells c.args.area.now) (c.args.depth - 1) (c.args.at + l.k), l.invariant.2, c.max-best.ensures),
    )

pub depth_of-returns : goal.depth_of-returns
depth_of-returns t c =
    let l = c.loop in
    let x = c.cell_at-c in
    let d : 0 < c.args.depth = omega (arith, c.if-depth-eq0.false) in
    let e = nestings_end _ _ _ _ _ _ (none_left c.loop-test.false) l.invariant.0 in
    let r = nesting_record (cells c.args.area.now) c.args.depth c.args.at x.result x.ensures d c.if-tag-ne-RECORD.false in
    omega arith

pub depth_from-returns-then-tag-ne-RECORD : goal.depth_from-returns-then-tag-ne-RECORD
depth_from-returns-then-tag-ne-RECORD t c = nesting-single (cells c.args.area.now) c.args.depth c.args.at c.args.c c.requires.1 c.if-tag-ne-RECORD.true
