-- `Writer::put_columns` writes a column a turn. The invariant: what is written and what is still to come are the whole. Assumes nothing.
use Rattle.answer.proofs.ColumnLaws.{Remaining}
use Rattle.answer.proofs.Writer.put_columns.Given as goal

abbrev pub invariant-loop-k : goal.invariant-loop-k
invariant-loop-k l = Remaining l.initial.self l.columns l.k l.self
