-- What is left of `null_cells`, by the invariant of Invariants.antt. Assumes nothing.
use mathlib.Core.Path.{◌≡◌, refl, ◌∙◌}
use Prim.Native.Nat.{◌+◌, ◌-◌, ◌<◌}
use native.Mathlib.Omega.{arith}
use Rattle.table_arms.proofs.NullLaws.{skipped, null-turn, null_long, null_one, null_flat, null-done}
use Rattle.table_arms.proofs.null_cells.Goals as goal

pub loop-p-init : goal.loop-p-init
loop-p-init c =
    let s = skipped _ _ _ _ c.nullable_cells-k.ensures.0 c.requires.1 c.nullable_cells-k.ensures.1 in
    let left : c.args.from + c.args.n - (c.args.from + c.nullable_cells-k.result) ≡ c.args.n - c.nullable_cells-k.result = omega arith in
    rw left (refl, refl, s.0, s.1)

pub loop-p-preserved : goal.loop-p-preserved
loop-p-preserved c =
    let l = c.loop-p in
    let some : 0 < c.args.from + c.args.n - l.p = omega (arith, c.loop-p-test.true) in
    let one : c.args.from + c.args.n - (l.p + 1) ≡ c.args.from + c.args.n - l.p - 1 = omega arith in
    let flat = null_one _ _ _ _ some c.null_cell.ensures.cells l.invariant.3 in
    rw one (
      c.null_cell.ensures.bytes ∙ l.invariant.0,
      null_long _ _ _ _ some c.null_cell.ensures.cells l.invariant.3 ∙ l.invariant.1,
      null-turn _ _ _ _ _ _ _ some refl flat refl c.null_cell.ensures.cells _ l.invariant.2,
      null_flat _ _ _ _ some c.null_cell.ensures.cells l.invariant.3,
    )

pub returns : goal.returns
returns c = null-done _ _ _ _ _ _ (omega (arith, c.loop-p-test.false)) c.loop-p.invariant.2
