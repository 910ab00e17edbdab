-- `in_place::jump`: a row is stored only where the next one is in the listing. Assumes nothing.
use mathlib.Core.Path.{ap, refl}
use Rattle.opcode.specs.Opcode.{arm_of}
use Rattle.state.proofs.OwnLaws.{then_some_by}
use Rattle.in_place.specs.InPlace.{JumpNear}
use Rattle.in_place.proofs.HandleLaws.{jump_not, goto_near, gosub_near, init_near}
use Rattle.in_place.proofs.jump.Goals as goal

pub returns-in-Goto : goal.returns-in-Goto
returns-in-Goto c = goto_near (ap arm_of c.in-Goto.is) c.listed.ensures

pub returns-in_err-next-in-Gosub : goal.returns-in_err-next-in-Gosub
returns-in_err-next-in-Gosub c = rw c.from_residual.ensures (jump_not refl)

pub returns-in_ok-next-in-Gosub : goal.returns-in_ok-next-in-Gosub
returns-in_ok-next-in-Gosub c =
    rw c.then_some.ensures
    (then_some_by (JumpNear _ _ _ _ _ _ _ _ _ _) _ (λ t. gosub_near t c.in_ok-next-in-Gosub.was (ap arm_of c.in-Gosub.is) c.listed-in-Gosub.ensures c.int_near.ensures) (λ f. jump_not (c.int_near.ensures.no f)))

pub returns-in_err-next-in-InitCoroutine : goal.returns-in_err-next-in-InitCoroutine
returns-in_err-next-in-InitCoroutine c = rw c.from_residual-in_err-next-in-InitCoroutine.ensures (jump_not refl)

pub returns-in_ok-next-in-InitCoroutine : goal.returns-in_ok-next-in-InitCoroutine
returns-in_ok-next-in-InitCoroutine c =
    rw c.then_some-in-InitCoroutine.ensures
    (then_some_by (JumpNear _ _ _ _ _ _ _ _ _ _) _ (λ t. init_near t c.in_ok-next-in-InitCoroutine.was (ap arm_of c.in-InitCoroutine.is) c.init_coroutine_to.ensures c.listed-in-InitCoroutine.ensures c.int_near-in-InitCoroutine.ensures) (λ f. jump_not (c.int_near-in-InitCoroutine.ensures.no f)))

pub returns-in_default : goal.returns-in_default
returns-in_default c = jump_not refl
