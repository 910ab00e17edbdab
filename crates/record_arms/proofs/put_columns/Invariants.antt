-- `record_arms::put_columns` puts a column a turn. The invariant: the columns of the first k registers stand from `low` on, under their keys, the
-- entries that are left have the registers after those, and nothing else has changed. Assumes nothing.
use Rattle.area.specs.Cells.{cells}
use Rattle.intmap.specs.Entries.{entries}
use Rattle.intmap.specs.Map.{levels}
use Rattle.record_arms.proofs.BuildLaws.{Going}
use Rattle.record_arms.proofs.put_columns.Given as goal

abbrev pub invariant-loop-k : goal.invariant-loop-k
invariant-loop-k l = Going (cells l.initial.area) (cells l.area) (entries (cells l.initial.area) levels l.initial.from.left l.initial.from.at) l.registers.first l.k l.low l.end l.from.to l.from.at l.from.left
