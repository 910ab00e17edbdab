-- What is left of `Writer::put_columns`, by the invariant of Invariants.antt. Assumes nothing.
use Rattle.std.proofs.Common.{arith}
use Rattle.answer.proofs.ColumnLaws.{columns_room, columns_put, columns_done}
use Rattle.answer.proofs.Writer.put_columns.Goals as goal

pub put_column-requires : goal.put_column-requires
put_column-requires c = (omega (arith, c.requires.0, c.loop-k-test.true), columns_room c.loop-k.invariant c.loop-k-test.true)

pub loop-k-preserved : goal.loop-k-preserved
loop-k-preserved c = columns_put c.loop-k.invariant c.loop-k-test.true c.put_column.ensures

pub returns : goal.returns
returns c = columns_done c.loop-k.invariant c.loop-k-test.false
