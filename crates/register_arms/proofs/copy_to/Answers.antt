-- `register_arms::copy_to` reads a register, and stores what is made of it. Assumes nothing.
use Rattle.std.specs.Prelude.{Ok}
use mathlib.Core.Path.{refl, ap, ◌∙◌}
use Rattle.refusal.proofs.Passed.{passed}
use Rattle.state.proofs.Stores.{untouched}
use Rattle.register_arms.proofs.RegisterLaws.{refuses_leads, same_leads, leads_where, copy_refused, copy_nothing, copy_stored}
use Rattle.register_arms.proofs.copy_to.Goals as goal

pub returns-in_err-held : goal.returns-in_err-held
returns-in_err-held g c f makes = rw (passed _ _ c.from_residual.ensures.1) (record { same = untouched; kept = λ e was. refl; is = refuses_leads _ _ _ _ _ (λ bound m h. copy_refused _ _ _ _ _ c.read_register.result c.read_register.ensures bound m h _ _ c.in_err-held.was) })

pub returns-in_default : goal.returns-in_default
returns-in_default g c f makes = record { same = untouched; kept = λ e was. refl; is = same_leads _ _ _ _ c.requires.0 (λ bound m h. copy_nothing _ _ _ _ _ c.read_register.result c.read_register.ensures bound m h _ (c.in_ok-held.was ∙ ap Ok c.in_default.is)) }

pub returns : goal.returns
returns g c f makes = record { same = c.store_single.ensures.same; kept = c.store_single.ensures.kept; is = leads_where _ (λ bound m h. copy_stored _ _ _ _ _ c.read_register.result c.read_register.ensures bound m h f makes _ (c.in_ok-held.was ∙ ap Ok c.in-Some.is) _ c.f-d.ensures) c.store_single.ensures.is }
