-- What is left of `is_whole`, by the invariant of Invariants.antt. Assumes nothing.
use mathlib.Core.Path.{◌≡◌, ap, ◌∙◌}
use Prim.Native.Nat.{◌+◌, ◌-◌}
use lib.Dec.{ltb}
use native.Mathlib.Omega.{arith}
use Rattle.area.specs.Cells.{cells}
use Rattle.intmap.specs.Entries.{span}
use Rattle.column_arms.specs.Columns.{counted}
use Rattle.column_arms.proofs.ColumnLaws.{whole_end, whole_stop, whole_turn}
use Rattle.column_arms.proofs.is_whole.Goals as goal

pub returns-then-room-k : goal.returns-then-room-k
returns-then-room-k c = whole_stop _ _ _ _ _ (omega (arith, c.loop-p-test.true)) _ c.cell_at.ensures c.columns_in-k.ensures c.if-room-k.true ∙ c.loop-p.invariant.0

pub loop-p-preserved : goal.loop-p-preserved
loop-p-preserved c =
    let l = c.loop-p in
    let one : c.args.at + c.args.n - (l.p + 1) ≡ c.args.at + c.args.n - l.p - 1 = omega arith in (
      ap (λ m. ltb (counted (span (cells c.args.area.now) (l.p + 1) m)) (l.room - c.columns_in-k.result)) one
          ∙ whole_turn _ _ _ _ _ (omega (arith, c.loop-p-test.true)) _ c.cell_at.ensures c.columns_in-k.ensures c.if-room-k.false
          ∙ l.invariant.0,
      omega (arith, c.if-room-k.false),
    )

pub returns : goal.returns
returns c = whole_end _ _ _ _ (omega (arith, c.loop-p-test.false)) c.loop-p.invariant.1 ∙ c.loop-p.invariant.0
