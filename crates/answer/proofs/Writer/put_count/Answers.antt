-- `Writer::put_count` writes the key, the number and LF. Assumes nothing.
use Rattle.answer.proofs.FieldLaws.{field_key, field_value, field_end, field_put}
use Rattle.answer.proofs.Writer.put_count.Goals as goal

pub put-requires : goal.put-requires
put-requires c = field_key _ _ c.requires.1

pub put_number-requires : goal.put_number-requires
put_number-requires c = (c.requires.0, field_value _ _ c.requires.1 c.put.ensures)

pub put-requires-2 : goal.put-requires-2
put-requires-2 c = field_end _ _ c.requires.1 c.put.ensures c.put_number.ensures

pub returns : goal.returns
returns c = field_put _ _ c.requires.1 c.put.ensures c.put_number.ensures c.put-2.ensures
