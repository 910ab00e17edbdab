-- `answer::head_len` adds up the digits, the keys and the LFs. Assumes nothing.
use Rattle.answer.proofs.AnswerLaws.{head_sized}
use Rattle.answer.proofs.head_len.Goals as goal

pub returns : goal.returns
returns c = head_sized _ _ _ _ _ _ _ c.digits.ensures c.digits-2.ensures c.digits-3.ensures c.digits-4.ensures c.digits-5.ensures
