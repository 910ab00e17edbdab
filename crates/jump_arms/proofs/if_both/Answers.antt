-- `jump_arms::if_both` stores 1 behind the map and 0 in it. Assumes nothing.
use Rattle.std.proofs.Common.{rules}
use Rattle.intmap.specs.Signed.{offset}
use Rattle.jump_arms.proofs.BothLaws.{both_arm}
use Rattle.jump_arms.proofs.IfLaws.{one, stores, stores_row, if_both}
use Rattle.jump_arms.proofs.if_both.Goals as goal

pub returns : goal.returns
returns c =
    let x = c.args.x in
    let w = both_arm c.requires.current (λ n. stores n x one) (λ n. stores n x offset) (λ a q b has e. search rules) (λ a q b has e. search rules) (λ n. stores_row n x _) (λ n. stores_row n x _) c.both_ways.ensures in
    (w.0, if_both _ _ _ _ _ _ w.1)
