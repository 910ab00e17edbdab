-- What is left of `read_records`, by the invariant of Invariants.antt. Assumes nothing.
use mathlib.Core.Path.{◌≡◌}
use borrow.Author.Rules.{rules}
use Rattle.catalogue.proofs.RecordLaws.{given_as}
use Rattle.root_block.proofs.ColumnLaws.{record_read}
use Rattle.root_block.proofs.FillLaws.{filling_first, filling_end, filling_bad, filling_inside, filling_next}
use Rattle.root_block.proofs.read_records.Goals as goal

pub loop-record-init : goal.loop-record-init
loop-record-init c = let e : c.into_iter-record-iterator.result.reader.rest.now ≡ c.args.catalogue.now = search rules in
    rw e (filling_first _ _ c.requires)

pub returns-in_default : goal.returns-in_default
returns-in_default c = let given = given_as c.loop-record.record-iterator c.next.new.self _ _ c.in_default.is c.in-Some.ensures.steps in
    filling_bad c.loop-record.invariant given.2 given.1

pub block_of-requires : goal.block_of-requires
block_of-requires c = let reads = given_as c.loop-record.record-iterator c.next.new.self _ _ c.in-Ok.is c.in-Some.ensures.steps in
    let valid = record_read c.in-Ok.r reads in
    (valid.db_small, valid.page_small, valid.col_small)

pub put_cell-requires : goal.put_cell-requires
put_cell-requires c = let reads = given_as c.loop-record.record-iterator c.next.new.self _ _ c.in-Ok.is c.in-Some.ensures.steps in
    filling_inside c.loop-record.invariant c.in-Ok.r reads c.requires

pub loop-record-preserved : goal.loop-record-preserved
loop-record-preserved c = let reads = given_as c.loop-record.record-iterator c.next.new.self _ _ c.in-Ok.is c.in-Some.ensures.steps in
    filling_next c.loop-record.invariant c.in-Ok.r reads c.requires _ _ c.block_of.ensures c.put_cell.ensures

pub returns : goal.returns
returns c = filling_end c.loop-record.invariant c.in-None.ensures.steps.0
