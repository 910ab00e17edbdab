-- `cursor_arms::open_pseudo` stores the cursor that the definition stores. Assumes nothing.
use Rattle.cursor_arms.proofs.CursorLeads.{pseudo_arm}
use Rattle.cursor_arms.proofs.open_pseudo.Goals as goal

pub returns : goal.returns
returns c = record { same = c.store_pseudo.ensures.same; kept = c.store_pseudo.ensures.kept; is = pseudo_arm _ _ _ _ _ _ c.store_pseudo.ensures.is }
