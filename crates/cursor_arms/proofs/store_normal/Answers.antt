-- `cursor_arms::store_normal` stores one cell. Assumes nothing.
use Rattle.cursor_arms.proofs.CursorLeads.{normal_leads}
use Rattle.state.proofs.OwnLaws.{cell_leads}
use Rattle.cursor_arms.proofs.store_normal.Goals as goal

pub returns : goal.returns
returns c = record { same = c.store_cell.ensures.same; kept = c.store_cell.ensures.kept; is = cell_leads c.store_cell.ensures.is (normal_leads _ _ _ _ _ _ _ c.requires.1 _ c.cell-c.ensures) }
