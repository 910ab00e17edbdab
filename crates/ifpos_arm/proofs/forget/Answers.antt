-- `ifpos_arm::forget` stores a plain column, or nothing. Assumes nothing.
use mathlib.Core.Path.{refl}
use Rattle.jump_arms.proofs.StoreSteps.{same_store}
use Rattle.ifpos_arm.proofs.IfPosLaws.{forgets, keeps}
use Rattle.ifpos_arm.proofs.forget.Goals as goal

pub returns-then-w-gt-ZERO : goal.returns-then-w-gt-ZERO
returns-then-w-gt-ZERO c = record { same = c.put_single.ensures.same; kept = c.put_single.ensures.kept; is = forgets _ _ _ _ _ _ _ c.if-w-gt-ZERO.true c.put_single.ensures.is }

pub returns : goal.returns
returns c = record { same = same_store; kept = λ e was. refl; is = keeps _ _ _ _ _ c.requires.0 c.if-w-gt-ZERO.false }
