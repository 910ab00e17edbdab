-- `Writer::put_column` writes its three lines. Assumes nothing.
use Rattle.type_info.specs.Ascii.{ascii}
use Rattle.model.specs.AnswerText.{print_column}
use Rattle.answer.proofs.FieldLaws.{flat_first, flat_rest, flat_put, flat_last}
use Rattle.answer.proofs.Writer.put_column.Goals as goal

pub put_count-requires : goal.put_count-requires
unfolding print_column ascii
put_count-requires c = (c.requires.0, flat_first _ _ c.requires.1)

pub put_word-requires : goal.put_word-requires
unfolding print_column ascii
put_word-requires c = rw c.kind_name.ensures (flat_first _ _ (flat_rest _ _ c.requires.1 c.put_count.ensures))

pub put_word-requires-2 : goal.put_word-requires-2
unfolding print_column ascii
put_word-requires-2 c = rw c.nullable_name.ensures (flat_first _ _ (flat_rest _ _ (flat_rest _ _ c.requires.1 c.put_count.ensures) (rw c.kind_name.ensures at c.put_word.ensures)))

pub returns : goal.returns
unfolding print_column ascii
returns c =
    let kind = rw c.kind_name.ensures at c.put_word.ensures in
    let nullable = rw c.nullable_name.ensures at c.put_word-2.ensures in
    let rest = flat_rest _ _ c.requires.1 c.put_count.ensures in
    flat_put _ _ c.requires.1 c.put_count.ensures (flat_put _ _ rest kind (flat_last nullable))
