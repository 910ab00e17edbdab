-- What is left of `count_records`, by the invariant of Invariants.antt. Assumes nothing.
use mathlib.Core.List.{[]}
use mathlib.Core.Path.{◌≡◌, refl}
use native.Mathlib.Omega.{arith}
use borrow.Author.Rules.{rules}
use Rattle.refusal.proofs.Passed.{passed}
use Rattle.model.specs.CatalogueText.{take_record, read_catalogue}
use Rattle.model.specs.Call.{records_of}
use Rattle.text.proofs.ReadLaws.{read_shorter}
use Rattle.text.proofs.ItemLaws.{items_start, items_bad, items_next, items_end, count_refused, count_over, count_is}
use Rattle.catalogue.proofs.RecordLaws.{given_as}
use Rattle.catalogue.proofs.count_records.Goals as goal

pub loop-record-init : goal.loop-record-init
loop-record-init c = let e : c.into_iter-record-iterator.result.reader.rest.now ≡ c.args.catalogue.now = search rules in
    record { before = []; read = rw e (items_start (λ _. take_record) _) }

pub returns-in_err-record : goal.returns-in_err-record
unfolding records_of read_catalogue
returns-in_err-record c = let given = given_as c.loop-record.record-iterator c.next.new.self _ _ c.in_err-record.was c.in-Some.ensures.steps in
    rw (passed _ _ c.from_residual.ensures.1, given.0) (count_refused 2 4096 (items_bad (λ _. take_record) c.loop-record.invariant.read (λ z. omega (arith, z, given.1)) given.2 refl))

pub loop-record-preserved : goal.loop-record-preserved
loop-record-preserved c = let reads = given_as c.loop-record.record-iterator c.next.new.self _ _ c.in_ok-record.was c.in-Some.ensures.steps in
    record { before = _; read = items_next (λ _. take_record) c.loop-record.invariant.read (λ z. omega (arith, z, read_shorter reads refl)) reads refl }

pub returns-then-k-gt-MOST : goal.returns-then-k-gt-MOST
unfolding records_of read_catalogue
returns-then-k-gt-MOST c = let read = c.loop-record.invariant.read in
    count_over 2 4096 (items_end (λ _. take_record) read c.in-None.ensures.steps.0) read.count c.if-k-gt-MOST.true

pub returns : goal.returns
unfolding records_of read_catalogue
returns c = let read = c.loop-record.invariant.read in
    count_is 2 4096 (items_end (λ _. take_record) read c.in-None.ensures.steps.0) read.count c.if-k-gt-MOST.false
