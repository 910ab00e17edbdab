-- `state::near_first` tests the cell at the distance. Assumes nothing.
use native.Mathlib.Omega.{arith}
use Rattle.state.proofs.OwnLaws.{guessed_if}
use Rattle.state.proofs.near_first.Goals as goal

pub returns : goal.returns
returns c = rw c.then_some.ensures (guessed_if _ _ _ _ _ _ (omega arith) c.is_at.ensures)
