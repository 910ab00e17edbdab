-- What is left of `merge_entries`, by the invariant of Invariants.antt. Assumes nothing.
use Rattle.std.proofs.Common.{◌≡◌, ◌+◌, ◌-◌, ◌<◌, sym, ap, ◌∙◌, arith}
use Rattle.area.specs.Cells.{cells}
use Rattle.intmap.specs.Map.{levels}
use Rattle.intmap.specs.Runs.{size}
use Rattle.intmap.proofs.RunLaws.{size-pos, sizes_step, sizes_on}
use Rattle.merge.specs.Entries.{merge_runs}
use Rattle.merge.proofs.EntryLaws.{merged_end, merged_past, merged_turn}
use Rattle.merge.proofs.merge_entries.Goals as goal

pub cell_at-c-requires : goal.cell_at-c-requires
cell_at-c-requires c =
    let cs = cells c.args.area.now in
    let more : 0 < c.args.left - c.loop.counter = omega (arith, c.loop-test.true) in
    record { within = omega (arith, sizes_step (size cs levels) (c.args.left - c.loop.counter) c.loop.p more, size-pos cs levels c.loop.p, c.loop.invariant.1); small = c.requires.0.small }

pub returns-then-i-n : goal.returns-then-i-n
returns-then-i-n c = sym (merged_past _ _ _ _ _ _ c.cell_at-c.ensures _ _ (omega (arith, c.loop-test.true)) (omega (arith, c.key_of.ensures, c.if-i-n.true))) ∙ c.loop.invariant.0

pub count-p-requires : goal.count-p-requires
count-p-requires c =
    let cs = cells c.args.area.now in
    let more : 0 < c.args.left - c.loop.counter = omega (arith, c.loop-test.true) in
    record { fits = omega (arith, sizes_step (size cs levels) (c.args.left - c.loop.counter) c.loop.p more, c.loop.invariant.1); small = c.requires.0.small }

pub overflow_add-p : goal.overflow_add-p
overflow_add-p c =
    let more : 0 < c.args.left - c.loop.counter = omega (arith, c.loop-test.true) in
    omega (arith, sizes_on (size (cells c.args.area.now) levels) (c.args.left - c.loop.counter) c.loop.p c.count-p.result _ more c.count-p.ensures c.loop.invariant.1, c.requires.0.small)

pub loop-preserved : goal.loop-preserved
loop-preserved c =
    let more : 0 < c.args.left - c.loop.counter = omega (arith, c.loop-test.true) in
    let less : c.args.left - (c.loop.counter + 1) ≡ c.args.left - c.loop.counter - 1 = omega arith in
    rw less (
      ap (merge_runs _ _ _) c.merge_cell.ensures ∙ merged_turn _ _ _ _ _ _ c.cell_at-c.ensures _ _ _ more (omega (arith, c.key_of.ensures, c.if-i-n.false)) c.count-p.ensures ∙ c.loop.invariant.0,
      sizes_on _ _ _ _ _ more c.count-p.ensures c.loop.invariant.1,
    )

pub returns : goal.returns
returns c = sym (merged_end _ _ _ _ _ _ _ (omega (arith, c.loop-test.false))) ∙ c.loop.invariant.0
