-- `Walk::go_on_way`, by whether a state goes on. Assumes nothing.
use Rattle.walk.proofs.UpLaws.{goes_nowhere}
use Rattle.walk.proofs.Walk.go_on_way.Goals as goal

pub returns-in-None : goal.returns-in-None
returns-in-None c = goes_nowhere _ _ _ _ _ _ _ c.in-None.is c.take_up.ensures

pub returns-in-Some : goal.returns-in-Some
returns-in-Some c = rw c.in-Some.is c.go_on.ensures
