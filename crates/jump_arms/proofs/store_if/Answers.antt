-- `jump_arms::store_if` stores one cell, or nothing. Assumes nothing.
use mathlib.Core.Path.{refl}
use Rattle.jump_arms.proofs.IfLaws.{put_stores, put_not}
use Rattle.jump_arms.proofs.StoreSteps.{same_store}
use Rattle.jump_arms.proofs.store_if.Goals as goal

pub returns-then-x-eq-ZERO : goal.returns-then-x-eq-ZERO
returns-then-x-eq-ZERO c = record { same = c.store_plain.ensures.same; kept = c.store_plain.ensures.kept; is = put_stores _ _ _ _ _ _ _ _ c.requires.1 c.if-x-eq-ZERO.true (rw c.int.ensures at c.store_plain.ensures.is) }

pub returns : goal.returns
returns c = record { same = same_store; kept = λ e was. refl; is = put_not _ _ _ _ _ _ c.requires.0 c.if-x-eq-ZERO.false }
