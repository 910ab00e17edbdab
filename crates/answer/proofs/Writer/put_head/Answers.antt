-- `Writer::put_head` writes its five lines. Assumes nothing.
use Rattle.std.proofs.Common.{arith}
use Rattle.type_info.specs.Ascii.{ascii}
use Rattle.answer.specs.Text.{head_text}
use Rattle.answer.proofs.FieldLaws.{flat_first, flat_rest, flat_put, flat_last}
use Rattle.answer.proofs.Writer.put_head.Goals as goal

pub put_count-requires : goal.put_count-requires
unfolding head_text ascii
put_count-requires c = (omega (arith, c.requires.0.width_small), flat_first _ _ c.requires.1)

pub put_count-requires-2 : goal.put_count-requires-2
unfolding head_text ascii
put_count-requires-2 c = (c.requires.0.charged_small, flat_first _ _ (flat_rest _ _ c.requires.1 c.put_count.ensures))

pub put_count-requires-3 : goal.put_count-requires-3
unfolding head_text ascii
put_count-requires-3 c = (c.requires.0.loopstops_small, flat_first _ _ (flat_rest _ _ (flat_rest _ _ c.requires.1 c.put_count.ensures) c.put_count-2.ensures))

pub put_count-requires-4 : goal.put_count-requires-4
unfolding head_text ascii
put_count-requires-4 c = (c.requires.0.gasstops_small, flat_first _ _ (flat_rest _ _ (flat_rest _ _ (flat_rest _ _ c.requires.1 c.put_count.ensures) c.put_count-2.ensures) c.put_count-3.ensures))

pub put_count-requires-5 : goal.put_count-requires-5
unfolding head_text ascii
put_count-requires-5 c = (c.requires.0.repeats_small, flat_first _ _ (flat_rest _ _ (flat_rest _ _ (flat_rest _ _ (flat_rest _ _ c.requires.1 c.put_count.ensures) c.put_count-2.ensures) c.put_count-3.ensures) c.put_count-4.ensures))

pub returns : goal.returns
unfolding head_text ascii
returns c =
    let second = flat_rest _ _ c.requires.1 c.put_count.ensures in
    let third = flat_rest _ _ second c.put_count-2.ensures in
    let fourth = flat_rest _ _ third c.put_count-3.ensures in
    flat_put _ _ c.requires.1 c.put_count.ensures (flat_put _ _ second c.put_count-2.ensures (flat_put _ _ third c.put_count-3.ensures (flat_put _ _ fourth c.put_count-4.ensures (flat_last c.put_count-5.ensures))))
