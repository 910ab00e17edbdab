-- `ifpos_arm::if_pos_again` counts down behind the map, and forgets in it. Assumes nothing.
use Rattle.std.proofs.Common.{rules}
use Rattle.ifpos_arm.proofs.IfPosLaws.{again_arm}
use Rattle.ifpos_arm.proofs.if_pos_again.Goals as goal

pub returns : goal.returns
returns c = again_arm c.requires.0.current _ _ c.requires.1 c.word_before-before.ensures (λ a q b e. search rules) (λ a q b has e. search rules) c.both_ways.ensures
