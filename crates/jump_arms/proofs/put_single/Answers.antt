-- `jump_arms::put_single` stores one cell. Assumes nothing.
use Rattle.jump_arms.proofs.NullLaws.{put-single}
use Rattle.jump_arms.proofs.put_single.Goals as goal

pub returns : goal.returns
returns c = record { same = c.store_plain.ensures.same; kept = c.store_plain.ensures.kept; is = put-single _ _ _ _ _ _ _ _ _ c.single.ensures c.store_plain.ensures.is }
