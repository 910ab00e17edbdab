-- `coroutine_arms::yield_target` answers where a Yield row goes. Assumes nothing.
use Rattle.coroutine_arms.proofs.YieldLaws.{target_below, target_past, target_yield, target_other}
use Rattle.coroutine_arms.proofs.yield_target.Goals as goal

pub returns-then-w-lt-ZERO : goal.returns-then-w-lt-ZERO
returns-then-w-lt-ZERO c = target_below _ _ _ _ c.if-w-lt-ZERO.true

pub returns-then-rows-k : goal.returns-then-rows-k
returns-then-rows-k c = target_past _ _ _ _ c.if-w-lt-ZERO.false c.if-rows-k.true

pub returns-in-Yield : goal.returns-in-Yield
returns-in-Yield c = target_yield _ _ _ _ c.if-w-lt-ZERO.false c.row_at-x.result c.if-rows-k.false c.row_at-x.ensures c.in-Yield.is

pub returns-in_default : goal.returns-in_default
returns-in_default c = target_other _ _ _ _ c.if-w-lt-ZERO.false c.row_at-x.result c.if-rows-k.false c.row_at-x.ensures c.in_default.not-Yield
