-- What is left of `column_eq_record_eq`, by the invariant of Invariants.antt. Assumes nothing.
use mathlib.Core.Path.{sym, ◌∙◌}
use Prim.Native.Nat.{◌<◌}
use native.Mathlib.Omega.{arith}
use Rattle.area.specs.Cells.{cells}
use Rattle.intmap.proofs.RunLaws.{size_record, size-pos, sizes_room, sizes-turn, same_size, same-cell, eq_heads, eq_loads, eq_none, eq_single, eq_record, eqs_end, eqs_stop, eqs_turn, some_left, one_less, none_left}
use Rattle.intmap.proofs.+column_eq_record_eq.Goals as goal

pub column_eq-cell_at-x-requires : goal.column_eq-cell_at-x-requires
column_eq-cell_at-x-requires t c = omega (arith, c.requires.0.fits, c.requires.1.fits, c.requires.0.small, size-pos (cells c.args.area.now) c.args.depth c.args.a, size-pos (cells c.args.area.now) c.args.depth c.args.b)

pub column_eq-cell_at-y-requires : goal.column_eq-cell_at-y-requires
column_eq-cell_at-y-requires t c = omega (arith, c.requires.0.fits, c.requires.1.fits, c.requires.0.small, size-pos (cells c.args.area.now) c.args.depth c.args.a, size-pos (cells c.args.area.now) c.args.depth c.args.b)

pub column_eq-returns-then-x-y : goal.column_eq-returns-then-x-y
column_eq-returns-then-x-y t c = eq_heads _ _ _ _ _ c.cell_at-x.ensures c.cell_at-y.ensures _ (λ e. c.if-x-y.true (cc))

pub column_eq-returns-then-x-y-2 : goal.column_eq-returns-then-x-y-2
column_eq-returns-then-x-y-2 t c = eq_loads _ _ _ _ _ c.cell_at-x.ensures c.cell_at-y.ensures _ c.if-x-y-2.true

pub column_eq-returns-then-depth-eq0 : goal.column_eq-returns-then-depth-eq0
column_eq-returns-then-depth-eq0 t c = eq_none _ _ _ _ _ c.cell_at-x.ensures c.cell_at-y.ensures _ c.if-x-y.false c.if-x-y-2.false c.if-depth-eq0.true

pub column_eq-returns-then-tag-ne-RECORD : goal.column_eq-returns-then-tag-ne-RECORD
column_eq-returns-then-tag-ne-RECORD t c = eq_single _ _ _ _ _ c.cell_at-x.ensures c.cell_at-y.ensures _ c.if-x-y.false c.if-x-y-2.false c.if-tag-ne-RECORD.true

pub column_eq-record_eq-requires : goal.column_eq-record_eq-requires
column_eq-record_eq-requires t c =
    let x = c.cell_at-x in
    let y = c.cell_at-y in
    let deep : 0 < c.args.depth = omega (arith) in
    let ra = size_record (cells c.args.area.now) c.args.depth c.args.a x.result x.ensures deep c.if-tag-ne-RECORD.false in
    let rb = size_record (cells c.args.area.now) c.args.depth c.args.b x.result (same-cell x.result y.result c.if-x-y.false c.if-x-y-2.false ∙ y.ensures) deep c.if-tag-ne-RECORD.false in
    (omega (arith, c.requires.0), (record { fits = omega (arith, c.requires.0.fits); small = c.requires.0.small }, record { fits = omega (arith, c.requires.1.fits); small = c.requires.0.small }))

pub column_eq-returns : goal.column_eq-returns
column_eq-returns t c = c.record_eq.ensures ∙ eq_record _ _ _ _ _ c.cell_at-x.ensures c.cell_at-y.ensures _ c.if-x-y.false c.if-x-y-2.false (omega (arith, c.if-depth-eq0.false)) c.if-tag-ne-RECORD.false

pub record_eq-column_eq-requires : goal.record_eq-column_eq-requires
record_eq-column_eq-requires t c =
    let l = c.loop in
    let ra = sizes_room _ _ _ _ _ (some_left c.loop-test.true) l.invariant.1 in
    let rb = sizes_room _ _ _ _ _ (some_left c.loop-test.true) l.invariant.2 in
    (omega (arith, c.requires.0), (record { fits = omega (arith, c.requires.0.fits); small = c.requires.0.small }, record { fits = omega (arith, c.requires.1.fits); small = c.requires.0.small }))

pub record_eq-returns-then-not-column_eq : goal.record_eq-returns-then-not-column_eq
record_eq-returns-then-not-column_eq t c =
    let l = c.loop in
    let e = c.column_eq in
    sym (eqs_stop _ _ _ _ _ (some_left c.loop-test.true) (sym e.ensures ∙ c.if-not-column_eq.true)) ∙ l.invariant.0

pub record_eq-count-k-requires : goal.record_eq-count-k-requires
record_eq-count-k-requires t c =
    let ra = sizes_room _ _ _ _ _ (some_left c.loop-test.true) c.loop.invariant.1 in
    record { fits = omega (arith, c.requires.0.fits); small = c.requires.0.small }

pub record_eq-overflow_add-k : goal.record_eq-overflow_add-k
record_eq-overflow_add-k t c =
    let ra = sizes_room _ _ _ _ _ (some_left c.loop-test.true) c.loop.invariant.1 in
    omega (arith, c.requires.0.fits, c.requires.0.small, c.count-k.ensures)

pub record_eq-loop-preserved : goal.record_eq-loop-preserved
record_eq-loop-preserved t c =
    let l = c.loop in
    let more = some_left c.loop-test.true in
    let e = c.column_eq in
    let same = sym e.ensures ∙ c.if-not-column_eq.false in
    let r = c.count-k.ensures in
    rw (one_less c.args.n l.counter) (eqs_turn _ _ _ _ _ _ _ more same r ∙ l.invariant.0, sizes-turn _ _ _ _ _ _ more r l.invariant.1, sizes-turn _ _ _ _ _ _ more (r ∙ sym (same_size _ _ _ _ same)) l.invariant.2)

pub record_eq-returns : goal.record_eq-returns
record_eq-returns t c = eqs_end _ _ _ _ _ (none_left c.loop-test.false) ∙ c.loop.invariant.0
