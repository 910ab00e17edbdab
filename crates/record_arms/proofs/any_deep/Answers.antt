-- What is left of `any_deep`, by the invariant of Invariants.antt. Assumes nothing.
use mathlib.Core.Path.{◌≡◌, sym, ◌∙◌}
use Prim.Native.Nat.{◌+◌, ◌-◌, ◌<◌}
use native.Mathlib.Omega.{arith}
use Rattle.intmap.proofs.RunLaws.{first-inside, sizes_on}
use Rattle.record_arms.proofs.DeepLaws.{one_column, any_end, any_over, any_here, any_on}
use Rattle.record_arms.proofs.any_deep.Goals as goal

pub cell_at-c-requires : goal.cell_at-c-requires
cell_at-c-requires c = first-inside _ 9 _ (one_column _ _ _ (omega arith) c.loop-passed.invariant.1 c.requires.small)

pub is_deep-requires : goal.is_deep-requires
is_deep-requires c = (one_column _ _ _ (omega arith) c.loop-passed.invariant.1 c.requires.small, c.cell_at-c.ensures)

pub returns-then-end-k : goal.returns-then-end-k
returns-then-end-k c = any_over _ _ _ _ _ _ _ c.cell_at-c.ensures c.key_of-k.ensures (omega arith) c.if-end-k.true ∙ c.loop-passed.invariant.0

pub count_from-at-requires : goal.count_from-at-requires
count_from-at-requires c = (one_column _ _ _ (omega arith) c.loop-passed.invariant.1 c.requires.small, c.cell_at-c.ensures)

pub overflow_add-at : goal.overflow_add-at
overflow_add-at c = omega (arith, sizes_on _ _ _ _ _ (omega arith) c.count_from-at.ensures c.loop-passed.invariant.1, c.requires.small)

pub loop-passed-preserved : goal.loop-passed-preserved
loop-passed-preserved c = let more : 0 < c.args.store.now.map.len - c.loop-passed._passed = omega arith in
    let step : c.args.store.now.map.len - (c.loop-passed._passed + 1) ≡ c.args.store.now.map.len - c.loop-passed._passed - 1 = omega arith in
    rw step (any_on _ _ _ _ _ _ _ c.cell_at-c.ensures c.key_of-k.ensures more c.if-end-k.false (sym c.if-is_deep.false ∙ c.is_deep.ensures) _ c.count_from-at.ensures ∙ c.loop-passed.invariant.0, sizes_on _ _ _ _ _ more c.count_from-at.ensures c.loop-passed.invariant.1)

pub returns-then-is_deep : goal.returns-then-is_deep
returns-then-is_deep c = any_here _ _ _ _ _ _ _ c.cell_at-c.ensures c.key_of-k.ensures (omega arith) c.if-end-k.false (sym c.if-is_deep.true ∙ c.is_deep.ensures) ∙ c.loop-passed.invariant.0

pub returns : goal.returns
returns c = any_end _ _ _ _ _ (omega arith) ∙ c.loop-passed.invariant.0
