-- `explain::handle` hands a row that gives less on. Assumes nothing.
use mathlib.Core.Path.{sym, ap, subst, ◌∙◌}
use Rattle.rows.specs.Parts.{Parts}
use Rattle.explain.specs.Handles.{Handles}
use Rattle.explain.specs.Numbers.{as_handling}
use Rattle.explain.specs.Narrow.{repeats}
use Rattle.explain.proofs.handle.Goals as goal

pub returns-then-is_falling : goal.returns-then-is_falling
returns-then-is_falling c = subst (Handles _ _ _ _ _ _ _ _ _) (sym c.alone.ensures) (c.handle_falling.ensures.handles _)

pub returns-then-is_branching : goal.returns-then-is_branching
returns-then-is_branching c = subst (Handles _ _ _ _ _ _ _ _ _) (ap (λ (x : Parts). as_handling (repeats x.op c.args.again) c.handle_branching-step.result) (sym c.row_at-x.ensures) ∙ ap (λ b. as_handling b c.handle_branching-step.result) (sym c.repeats.ensures) ∙ sym c.as_handling.ensures) (c.handle_branching-step.ensures.handles _)
