-- `catalogue::count_records` reads a record a turn. The invariant: the records read so far, and those that are left, are all. Assumes nothing.
use Rattle.model.specs.CatalogueText.{take_record}
use Rattle.text.proofs.ItemLaws.{SomeRead}
use Rattle.catalogue.proofs.count_records.Given as goal

abbrev pub invariant-loop-record : goal.invariant-loop-record
invariant-loop-record l = SomeRead (λ _. take_record) l.catalogue l.record-iterator.reader.rest.now l.k
