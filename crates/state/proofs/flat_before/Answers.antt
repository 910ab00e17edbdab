-- `state::flat_before` tests the place behind, then the cell there. Assumes nothing.
use native.Mathlib.Omega.{arith}
use Rattle.state.proofs.OwnLaws.{flat_not, flat_end, flat_by}
use Rattle.state.proofs.flat_before.Goals as goal

pub returns-then-end-at : goal.returns-then-end-at
returns-then-end-at c = record { is = λ a ae. flat_not _ a _ _ (omega (arith, ae, c.if-end-at.true)) }

pub returns-then-next-end : goal.returns-then-next-end
returns-then-next-end c = record { is = λ a ae. flat_end _ a _ _ (omega (arith, ae, c.if-end-at.false)) (omega (arith, ae, c.if-next-end.true)) }

pub returns : goal.returns
returns c = record { is = λ a ae. flat_by _ a _ _ (omega (arith, ae, c.if-end-at.false)) (λ e. c.if-next-end.false (omega (arith, ae, e))) _ c.cell_at.ensures _ c.begins.ensures }
