-- `answer::nullable_name` spells what each code says, and what is no code says nothing. Assumes nothing.
use Rattle.std.proofs.Common.{◌%◌, refl, rules}
use Rattle.type_info.specs.Ascii.{ascii}
use Rattle.model.specs.AnswerText.{print_nullable}
use Rattle.answer.proofs.ColumnLaws.{nullable_unknown}
use Rattle.answer.proofs.nullable_name.Goals as goal

pub returns-in-1 : goal.returns-in-1
unfolding print_nullable ascii
returns-in-1 c = rw c.in-1.is refl

pub returns-in-2 : goal.returns-in-2
unfolding print_nullable ascii
returns-in-2 c = rw c.in-2.is refl

pub returns-in_default : goal.returns-in_default
unfolding print_nullable ascii
returns-in_default c = rw (nullable_unknown (c.args.column % 4) (search rules) (search rules)) refl
