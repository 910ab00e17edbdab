-- `listing::read_row`: six fields in a row, then the judgement. Assumes nothing.
use mathlib.Core.Path.{refl, ap}
use Rattle.std.specs.Prelude.{option_copied, option_map}
use Rattle.type_info.specs.Ascii.{ascii}
use Rattle.model.specs.ListingText.{take_row}
use Rattle.intmap.specs.Signed.{int_of}
use Rattle.text.proofs.ReadLaws.{read_none, read_next, read_given}
use Rattle.listing.proofs.read_row.Goals as goal

pub returns-in_err-address : goal.returns-in_err-address
unfolding take_row ascii
returns-in_err-address c = rw c.from_residual.ensures (read_none c.address.ensures _ c.in_err-address.was)

pub returns-in_err-name : goal.returns-in_err-name
unfolding take_row ascii
returns-in_err-name c = rw c.from_residual-in_err-name.ensures
    (read_next c.address.ensures _ c.in_ok-address.was
    (read_none c.operation.ensures _ (ap option_copied c.in_err-name.was)))

pub returns-in_err-p1 : goal.returns-in_err-p1
unfolding take_row ascii
returns-in_err-p1 c = rw c.from_residual-in_err-p1.ensures
    (read_next c.address.ensures _ c.in_ok-address.was
    (read_next c.operation.ensures _ (ap option_copied c.in_ok-name.was)
    (read_none c.operand.ensures.reads _ (ap (option_map int_of) c.in_err-p1.was))))

pub returns-in_err-p2 : goal.returns-in_err-p2
unfolding take_row ascii
returns-in_err-p2 c = rw c.from_residual-in_err-p2.ensures
    (read_next c.address.ensures _ c.in_ok-address.was
    (read_next c.operation.ensures _ (ap option_copied c.in_ok-name.was)
    (read_next c.operand.ensures.reads _ (ap (option_map int_of) c.in_ok-p1.was)
    (read_none c.operand-2.ensures.reads _ (ap (option_map int_of) c.in_err-p2.was)))))

pub returns-in_err-p3 : goal.returns-in_err-p3
unfolding take_row ascii
returns-in_err-p3 c = rw c.from_residual-in_err-p3.ensures
    (read_next c.address.ensures _ c.in_ok-address.was
    (read_next c.operation.ensures _ (ap option_copied c.in_ok-name.was)
    (read_next c.operand.ensures.reads _ (ap (option_map int_of) c.in_ok-p1.was)
    (read_next c.operand-2.ensures.reads _ (ap (option_map int_of) c.in_ok-p2.was)
    (read_none c.operand-3.ensures.reads _ (ap (option_map int_of) c.in_err-p3.was))))))

pub returns-in_err-p4 : goal.returns-in_err-p4
unfolding take_row ascii
returns-in_err-p4 c = rw c.from_residual-in_err-p4.ensures
    (read_next c.address.ensures _ c.in_ok-address.was
    (read_next c.operation.ensures _ (ap option_copied c.in_ok-name.was)
    (read_next c.operand.ensures.reads _ (ap (option_map int_of) c.in_ok-p1.was)
    (read_next c.operand-2.ensures.reads _ (ap (option_map int_of) c.in_ok-p2.was)
    (read_next c.operand-3.ensures.reads _ (ap (option_map int_of) c.in_ok-p3.was)
    (read_none c.p4.ensures _ (ap option_copied c.in_err-p4.was)))))))

pub returns : goal.returns
unfolding take_row ascii
returns c = record {
  given = _;
  reads =
      read_next c.address.ensures _ c.in_ok-address.was
      (read_next c.operation.ensures _ (ap option_copied c.in_ok-name.was)
      (read_next c.operand.ensures.reads _ (ap (option_map int_of) c.in_ok-p1.was)
      (read_next c.operand-2.ensures.reads _ (ap (option_map int_of) c.in_ok-p2.was)
      (read_next c.operand-3.ensures.reads _ (ap (option_map int_of) c.in_ok-p3.was)
      (read_given c.p4.ensures _ _ (ap option_copied c.in_ok-p4.was) refl)))));
  judged = c.judge.ensures;
}
