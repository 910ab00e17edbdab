-- `jump_arms::put_default` stores the default where something is. Assumes nothing.
use Rattle.std.specs.Prelude.{Ok}
use mathlib.Core.Path.{refl, ap, ◌∙◌}
use Rattle.refusal.proofs.Passed.{passed}
use Rattle.jump_arms.proofs.NullLaws.{put_bad, put_absent, default_some}
use Rattle.jump_arms.proofs.StoreSteps.{same_store}
use Rattle.jump_arms.proofs.put_default.Goals as goal

pub returns-in_err-read_register : goal.returns-in_err-read_register
returns-in_err-read_register c = rw (passed _ _ c.from_residual.ensures.1) (record { same = same_store; kept = λ e was. refl; is = put_bad _ _ _ _ _ c.read_register.ensures _ _ c.in_err-read_register.was })

pub returns-in-None : goal.returns-in-None
returns-in-None c = record { same = same_store; kept = λ e was. refl; is = put_absent _ _ _ _ _ c.read_register.ensures c.requires.0 _ (c.in_ok-read_register.was ∙ ap Ok c.in-None.is) }

pub returns-in-Some : goal.returns-in-Some
returns-in-Some c = record { same = c.put_single.ensures.same; kept = c.put_single.ensures.kept; is = default_some _ _ _ _ _ c.read_register.ensures _ _ c.put_single.ensures.is _ (c.in_ok-read_register.was ∙ ap Ok c.in-Some.is) }
