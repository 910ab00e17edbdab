-- `listing::operand`: the signed number that the value is. Assumes nothing.
use mathlib.Core.Path.{ap}
use Rattle.std.specs.Prelude.{option_copied}
use Rattle.listing.proofs.OperandLaws.{operand_absent, operand_read}
use Rattle.listing.proofs.operand.Goals as goal

pub returns-in_err-value : goal.returns-in_err-value
returns-in_err-value c = rw c.from_residual.ensures (operand_absent _ c.value.ensures.reads (ap option_copied c.in_err-value.was))

pub returns : goal.returns
returns c = operand_read _ c.value.ensures.reads (ap option_copied c.in_ok-value.was) c.signed.ensures
