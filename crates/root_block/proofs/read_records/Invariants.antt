-- `root_block::read_records` reads a record a turn. The invariant: the records read so far begin the text's, and stand in the first cells. Assumes nothing.
use Rattle.root_block.proofs.FillLaws.{Filling}
use Rattle.root_block.proofs.read_records.Given as goal

abbrev pub invariant-loop-record : goal.invariant-loop-record
invariant-loop-record l = Filling l.catalogue l.record-iterator.reader.rest.now l.initial.blocks l.blocks l.n
