-- `register_arms::arithmetic` reads P1 and P2 in this order, and stores what the two give. Assumes nothing.
use mathlib.Core.Path.{refl}
use Rattle.refusal.proofs.Passed.{passed}
use Rattle.state.proofs.ArmLaws.{register_arm_where, register_arm_refuses}
use Rattle.state.proofs.Stores.{untouched}
use Rattle.register_arms.proofs.RegisterLaws.{first_refused, second_refused, operands_stored}
use Rattle.register_arms.proofs.arithmetic.Goals as goal

pub returns-in_err-a : goal.returns-in_err-a
returns-in_err-a c = rw (passed _ _ c.from_residual.ensures.1) (record { same = untouched; kept = λ e was. refl; is = register_arm_refuses _ (λ meaning l s j bound m h. first_refused _ meaning l c.args.x s j _ _ _ c.read_register.result c.read_register.ensures bound m h _ c.in_err-a.was) })

pub returns-in_err-b : goal.returns-in_err-b
returns-in_err-b c = rw (passed _ _ c.from_residual-in_err-b.ensures.1) (record { same = untouched; kept = λ e was. refl; is = register_arm_refuses _ (λ meaning l s j bound m h. second_refused _ meaning l c.args.x s j _ _ _ _ c.read_register.ensures bound m h c.read_register-2.ensures _ c.in_ok-a.was _ c.in_err-b.was) })

pub returns : goal.returns
returns c = record { same = c.store_single.ensures.same; kept = c.store_single.ensures.kept; is = register_arm_where c.store_single.ensures.is (λ meaning l s j bound m h. operands_stored _ meaning l c.args.x s j _ _ _ _ c.read_register.ensures bound m h c.read_register-2.ensures _ c.in_ok-a.was _ c.in_ok-b.was _ _ _ c.operands_nullable.result c.first_datatype-d.ensures c.map_to_datatype.ensures c.map_to_datatype-2.ensures c.operands_nullable.ensures) }
