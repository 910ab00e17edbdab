-- `listing::p4`: the bytes decoded of the value; a longer text has too many. Assumes nothing.
use mathlib.Core.Path.{ap}
use native.Mathlib.Omega.{arith}
use Rattle.std.specs.Prelude.{option_copied}
use Rattle.type_info.specs.Ascii.{ascii}
use Rattle.text.proofs.ReadLaws.{no_value, value_read}
use Rattle.listing.proofs.HexLaws.{p4_long, p4_short}
use Rattle.listing.proofs.p4.Goals as goal

pub returns-in_err-t : goal.returns-in_err-t
unfolding ascii
returns-in_err-t c = rw c.from_residual.ensures (no_value _ c.value.ensures.reads _ (ap option_copied c.in_err-t.was))

pub returns-then-t : goal.returns-then-t
unfolding ascii
returns-then-t c = value_read _ c.value.ensures.reads _ _ (ap option_copied c.in_ok-t.was) (p4_long _ (omega arith))

pub returns : goal.returns
unfolding ascii
returns c = value_read _ c.value.ensures.reads _ _ (ap option_copied c.in_ok-t.was) (p4_short _ (omega arith) c.decode.ensures)
