-- What is left of `find_from`, by the invariant of Invariants.antt. Assumes nothing.
use mathlib.Core.Path.{refl, sym, ap, ◌∙◌}
use Prim.Native.Nat.{◌-◌, ◌<◌}
use native.Mathlib.Omega.{arith}
use Rattle.area.specs.Cells.{cells}
use Rattle.intmap.specs.Pack.{key_of}
use Rattle.intmap.specs.Runs.{size}
use Rattle.intmap.proofs.RunLaws.{size-pos, sizes_step, one_less, sizes_on}
use Rattle.intmap.proofs.FindLaws.{seek_end, seek_here, seek_on, answers_there, answers_other, answers_end}
use Rattle.intmap.proofs.find_from.Goals as goal

pub cell_at-c-requires : goal.cell_at-c-requires
cell_at-c-requires c =
    let a = c.args in
    let cs = cells a.area.now in
    let l = c.loop-passed in
    let more : 0 < c.args.n - l.passed = omega (arith, c.loop-passed-test.true) in
    omega (arith, sizes_step (size cs a.depth) (c.args.n - l.passed) l.p more, size-pos cs a.depth l.p)

pub returns-then-k-key : goal.returns-then-k-key
returns-then-k-key c =
    let l = c.loop-passed in
    let more : 0 < c.args.n - l.passed = omega (arith, c.loop-passed-test.true) in
    answers_there _ _ _ _ _ _ (seek_here _ _ _ _ _ _ more c.cell_at-c.ensures c.if-key-k.true ∙ l.invariant.0) more (ap key_of (sym c.cell_at-c.ensures) ∙ c.if-k-key.true)

pub returns-else-k-key : goal.returns-else-k-key
returns-else-k-key c =
    let l = c.loop-passed in
    let more : 0 < c.args.n - l.passed = omega (arith, c.loop-passed-test.true) in
    answers_other _ _ _ _ _ _ (seek_here _ _ _ _ _ _ more c.cell_at-c.ensures c.if-key-k.true ∙ l.invariant.0) (λ e. c.if-k-key.false (ap key_of c.cell_at-c.ensures ∙ e))

pub count_from-p-requires : goal.count_from-p-requires
count_from-p-requires c =
    let l = c.loop-passed in
    let more : 0 < c.args.n - l.passed = omega (arith, c.loop-passed-test.true) in
    (record { fits = omega (arith, sizes_step (size (cells c.args.area.now) c.args.depth) (c.args.n - l.passed) l.p more, l.invariant.1); small = c.requires.small }, c.cell_at-c.ensures)

pub overflow_add-p : goal.overflow_add-p
overflow_add-p c =
    let l = c.loop-passed in
    let more : 0 < c.args.n - l.passed = omega (arith, c.loop-passed-test.true) in
    omega (arith, sizes_on (size (cells c.args.area.now) c.args.depth) (c.args.n - l.passed) l.p c.count_from-p.result _ more c.count_from-p.ensures l.invariant.1, c.requires.small)

pub loop-passed-preserved : goal.loop-passed-preserved
loop-passed-preserved c =
    let l = c.loop-passed in
    let more : 0 < c.args.n - l.passed = omega (arith, c.loop-passed-test.true) in
    rw (one_less c.args.n l.passed) (
      seek_on _ _ _ _ _ _ _ more c.cell_at-c.ensures c.if-key-k.false c.count_from-p.ensures ∙ l.invariant.0,
      sizes_on _ _ _ _ _ more c.count_from-p.ensures l.invariant.1,
    )

pub returns : goal.returns
returns c = answers_end _ _ _ _ _ _ (seek_end _ _ _ _ _ (omega (arith, c.loop-passed-test.false)) ∙ c.loop-passed.invariant.0) refl
