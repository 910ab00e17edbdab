-- `answer::write_answer` finds the length, refuses what is longer than the buffer, and writes the rest. Assumes nothing.
use Rattle.std.proofs.Common.{refl, rules}
use Rattle.answer.proofs.AnswerLaws.{writes_long, columns_fit, writes_fits}
use Rattle.answer.proofs.write_answer.Goals as goal

pub returns-then-answer-head : goal.returns-then-answer-head
returns-then-answer-head c = writes_long _ _ c.head_len-head.ensures c.columns_len.ensures c.if-answer-head.true

pub put_columns-requires : goal.put_columns-requires
put_columns-requires c = (c.requires.width_small, columns_fit _ _ c.head_len-head.ensures c.columns_len.ensures c.if-answer-head.false refl refl c.put_head.ensures)

pub returns : goal.returns
returns c =
    writes_fits _ _ c.head_len-head.ensures c.columns_len.ensures c.if-answer-head.false refl refl c.put_head.ensures c.put_columns.ensures (search rules)
