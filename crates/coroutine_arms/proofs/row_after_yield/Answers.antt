-- `coroutine_arms::row_after_yield` asks where the row goes. Assumes nothing.
use Rattle.coroutine_arms.proofs.YieldLaws.{follows_next}
use Rattle.coroutine_arms.proofs.row_after_yield.Goals as goal

pub returns-in-Some : goal.returns-in-Some
returns-in-Some c = follows_next _ _ _ _ c.requires _ _ _ c.yield_target.ensures c.in-Some.is c.row_after.ensures
