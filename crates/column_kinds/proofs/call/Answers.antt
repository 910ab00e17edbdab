-- `column_kinds::call`: the refusals in their order. Assumes nothing.
use Rattle.refusal.proofs.Passed.{passed}
use Rattle.column_kinds.proofs.CallLaws.{has_room, few_counted, may_walk, has_records, calls_then, calls_unlisted, calls_uncatalogued, calls_unserved}
use Rattle.column_kinds.proofs.call.Goals as goal

pub read_listing-requires : goal.read_listing-requires
read_listing-requires c = has_room _ _ c.row_room-room.ensures

pub serves-requires : goal.serves-requires
serves-requires c = few_counted _ c.args.catalogue.now _ _ c.args.answer.now _ _ c.row_room-room.ensures c.read_listing.ensures _ c.in_ok-rows.was

pub answer_with-requires : goal.answer_with-requires
answer_with-requires c = (may_walk _ _ _ _ c.args.answer.now _ _ c.row_room-room.ensures c.read_listing.ensures _ c.in_ok-rows.was _ c.count_records.ensures _ c.in_ok-records.was _ c.serves.ensures c.if-serves.true, has_records _ _ _ _ c.args.answer.now _ _ c.row_room-room.ensures c.read_listing.ensures _ c.in_ok-rows.was _ c.count_records.ensures _ c.in_ok-records.was _ c.serves.ensures c.if-serves.true)

pub returns-then-serves : goal.returns-then-serves
returns-then-serves c = calls_then _ _ _ _ _ _ _ c.row_room-room.ensures c.read_listing.ensures _ c.in_ok-rows.was _ c.count_records.ensures _ c.in_ok-records.was _ c.serves.ensures c.if-serves.true _ _ _ c.answer_with.ensures

pub returns-in_err-rows : goal.returns-in_err-rows
returns-in_err-rows c = rw (passed _ _ c.from_residual.ensures.1) (calls_unlisted _ _ _ _ _ _ _ c.row_room-room.ensures c.read_listing.ensures _ c.in_err-rows.was)

pub returns-in_err-records : goal.returns-in_err-records
returns-in_err-records c = rw (passed _ _ c.from_residual-in_err-records.ensures.1) (calls_uncatalogued _ _ _ _ _ _ _ c.row_room-room.ensures c.read_listing.ensures _ c.in_ok-rows.was _ c.count_records.ensures _ c.in_err-records.was)

pub returns : goal.returns
returns c = calls_unserved _ _ _ _ _ _ _ c.row_room-room.ensures c.read_listing.ensures _ c.in_ok-rows.was _ c.count_records.ensures _ c.in_ok-records.was _ c.serves.ensures c.if-serves.false
