-- `state::last_near` looks for the key of the place. Assumes nothing.
use Rattle.state.proofs.OwnLaws.{entry_near}
use Rattle.state.proofs.last_near.Goals as goal

pub returns : goal.returns
returns c = entry_near c.class_key.ensures c.near_last.ensures
