-- `jump_arms::remove_register` removes an entry of the map. Assumes nothing.
use mathlib.Core.Path.{refl, subst}
use Rattle.refusal.proofs.Passed.{passed}
use Rattle.intmap.specs.Store.{RemovesAt}
use Rattle.state.proofs.Stores.{no_refusal}
use Rattle.jump_arms.proofs.ReturnLaws.{removal_leads}
use Rattle.jump_arms.proofs.remove_register.Goals as goal

pub returns-in_err-store : goal.returns-in_err-store
returns-in_err-store c = rw (passed _ _ c.from_residual.ensures.1) (record { same = record { buffer = refl; length = c.remove_at.auto.area; limit = refl }; kept = λ e was. refl; is = removal_leads _ _ _ _ _ _ c.requires (subst (RemovesAt _ _ _ _ _) c.in_err-store.was c.remove_at.ensures) })

pub returns : goal.returns
returns c = record { same = record { buffer = refl; length = c.remove_at.auto.area; limit = refl }; kept = no_refusal; is = removal_leads _ _ _ _ _ _ c.requires (subst (RemovesAt _ _ _ _ _) c.in_ok-store.was c.remove_at.ensures) }
