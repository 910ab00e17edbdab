-- `state::locate` takes what is found with few tests, or searches. Assumes nothing.
use Rattle.state.proofs.OwnLaws.{guess_locates}
use Rattle.state.proofs.locate.Goals as goal

pub returns-in-Some : goal.returns-in-Some
returns-in-Some c = guess_locates c.near.ensures c.in-Some.is
