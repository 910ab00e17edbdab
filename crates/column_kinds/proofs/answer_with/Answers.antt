-- `column_kinds::answer_with`: blocks for few records, for more, or for as many as there may be. Assumes nothing.
use native.Mathlib.Omega.{arith}
use Rattle.column_kinds.proofs.CallLaws.{indexable}
use Rattle.column_kinds.proofs.answer_with.Goals as goal

pub answer_rows-requires : goal.answer_rows-requires
answer_rows-requires c = (c.requires.0, indexable _ _ 256 c.requires.1 (omega arith) (omega arith) (omega arith))

pub answer_rows-requires-in-17-to-256 : goal.answer_rows-requires-in-17-to-256
answer_rows-requires-in-17-to-256 c = (c.requires.0, indexable _ _ 4096 c.requires.1 (omega arith) (omega arith) (omega arith))

pub answer_rows-requires-in_default : goal.answer_rows-requires-in_default
answer_rows-requires-in_default c = (c.requires.0, indexable _ _ 65536 c.requires.1 (omega (arith, c.requires.1.few)) (omega arith) (omega arith))
