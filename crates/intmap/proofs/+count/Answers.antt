-- What is left of `count`, by the invariant of Invariants.antt. Assumes nothing.
use Prim.Native.Nat.{◌+◌, ◌-◌}
use native.Mathlib.Nat.{sub-zero}
use native.Mathlib.Omega.{arith}
use Rattle.area.specs.Cells.{cells}
use Rattle.intmap.specs.Runs.{size}
use Rattle.intmap.proofs.RunLaws.{size_none, size-single, size_record, size-pos, sizes_room, sizes_then, sizes_end, some_left, one_less, none_left}
use Rattle.intmap.proofs.+count.Goals as goal
use Rattle.intmap.proofs.+count.Goals.{then-x-eq-RECORD, else-x-eq-RECORD}

pub returns-then-depth-eq0 : goal.returns-then-depth-eq0
returns-then-depth-eq0 t c = size_none _ _ _ c.if-depth-eq0.true

pub cell_at-c-requires : goal.cell_at-c-requires
cell_at-c-requires t c = omega (arith, size-pos (cells c.args.area.now) c.args.depth c.args.at, c.requires.fits)

pub returns-then-tag-ne-RECORD : goal.returns-then-tag-ne-RECORD
returns-then-tag-ne-RECORD t c = size-single _ _ _ _ c.cell_at-c.ensures c.if-tag-ne-RECORD.true

pub loop-init : goal.loop-init
loop-init t c = rw sub-zero (size_record _ _ _ _ c.cell_at-c.ensures (omega arith) c.if-tag-ne-RECORD.false)

pub cell_at-x-requires : goal.cell_at-x-requires
cell_at-x-requires t c =
    let l = c.loop in
    omega (arith, c.requires.fits, c.requires.small, size-pos (cells c.args.area.now) (c.args.depth - 1) (c.args.at + l.k), sizes_room (size (cells c.args.area.now) (c.args.depth - 1)) _ _ _ _ (some_left c.loop-test.true) l.invariant)

pub count-k-requires : goal.count-k-requires
count-k-requires t c =
    let l = c.loop in
    let r = sizes_room (size (cells c.args.area.now) (c.args.depth - 1)) _ _ _ _ (some_left c.loop-test.true) l.invariant in
    (omega arith, record { fits = omega (arith, c.requires.fits); small = c.requires.small })

pub overflow_add-k : goal.overflow_add-k
overflow_add-k t c = let l = c.loop in omega (arith, c.requires.fits, c.requires.small, c.count-k.ensures, sizes_room (size (cells c.args.area.now) (c.args.depth - 1)) _ _ _ _ (some_left c.loop-test.true) l.invariant)

pub loop-preserved : goal.loop-preserved
loop-preserved t c =
    let l = c.loop in
    let more = some_left c.loop-test.true in
    let f = size (cells c.args.area.now) (c.args.depth - 1) in
    let n = c.cell_at-c.result.payload in
    rw (one_less n l.counter) (elim c.if-x-eq-RECORD.branch [
      | then-x-eq-RECORD w ↦ sizes_then f (n - l.counter) c.args.at l.k w.count-k.result _ c.if-x-eq-RECORD.k w.k-is more w.count-k.ensures l.invariant
      | else-x-eq-RECORD w ↦ sizes_then f (n - l.counter) c.args.at l.k 1 _ c.if-x-eq-RECORD.k w.k-is more (size-single _ _ _ _ c.cell_at-x.ensures w.if-x-eq-RECORD.false) l.invariant
    ])

pub returns : goal.returns
returns t c = sizes_end _ _ _ _ _ (none_left c.loop-test.false) c.loop.invariant
