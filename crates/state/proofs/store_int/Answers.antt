-- `state::store_int` stores one cell. Assumes nothing.
use Rattle.state.proofs.OwnLaws.{cell_leads}
use Rattle.state.proofs.StoreLeads.{int_leads}
use Rattle.state.proofs.store_int.Goals as goal

pub returns : goal.returns
returns c = cell_leads (rw c.int.ensures at c.store_register.ensures) (int_leads _ _ _ _ _ _ _ c.requires.1)
