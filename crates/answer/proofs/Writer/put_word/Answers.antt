-- `Writer::put_word` writes the key, the value and LF. Assumes nothing.
use Rattle.answer.proofs.FieldLaws.{field_key, field_value, field_end, field_put}
use Rattle.answer.proofs.Writer.put_word.Goals as goal

pub put-requires : goal.put-requires
put-requires c = field_key _ _ c.requires

pub put-requires-2 : goal.put-requires-2
put-requires-2 c = field_value _ _ c.requires c.put.ensures

pub put-requires-3 : goal.put-requires-3
put-requires-3 c = field_end _ _ c.requires c.put.ensures c.put-2.ensures

pub returns : goal.returns
returns c = field_put _ _ c.requires c.put.ensures c.put-2.ensures c.put-3.ensures
