-- `register_arms::null_first` looks for the first register. Assumes nothing.
use Rattle.std.specs.Prelude.{Ok}
use mathlib.Core.Path.{refl, ap, ◌∙◌}
use Rattle.state.proofs.Stores.{untouched}
use Rattle.register_arms.proofs.RunLaws.{run_none, got_inside}
use Rattle.register_arms.proofs.null_first.Goals as goal

pub returns-in_default : goal.returns-in_default
returns-in_default c = record { same = untouched; map = refl; is = run_none _ _ _ _ _ c.requires.0 }

pub returns-in_default-2 : goal.returns-in_default-2
returns-in_default-2 c = record { same = untouched; map = refl; is = run_none _ _ _ _ _ c.requires.0 }

pub null_run-requires : goal.null_run-requires
null_run-requires c = let inside = got_inside c.get.ensures.gets (c.in-Ok-Some.is ∙ ap Ok c.in-Ok-Some.field-0-is) in (c.requires.0, inside.0, inside.1, c.requires.1)
