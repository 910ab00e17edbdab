-- `copy_arms::copy_register` carries one register that stays. Assumes nothing.
use Rattle.state.proofs.StoreLeads.{leads_as}
use Rattle.copy_arms.proofs.CopyLaws.{carry_copy-one}
use Rattle.copy_arms.proofs.copy_register.Goals as goal

pub returns : goal.returns
returns c = record { same = c.carry_register.ensures.same; kept = c.carry_register.ensures.kept; is = leads_as _ (carry_copy-one _ _ _) c.carry_register.ensures.is }
