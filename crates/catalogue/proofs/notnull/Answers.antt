-- `catalogue::notnull`: a value of one byte, which is `0` or `1`. Assumes nothing.
use mathlib.Core.Path.{ap}
use native.Mathlib.Omega.{arith}
use Rattle.std.specs.Prelude.{option_copied}
use Rattle.type_info.specs.Ascii.{ascii}
use Rattle.text.proofs.ReadLaws.{no_value, value_read}
use Rattle.catalogue.proofs.FlagLaws.{flag_size, flag_zero, flag_one, flag_other}
use Rattle.catalogue.proofs.notnull.Goals as goal

pub returns-in_err-value : goal.returns-in_err-value
unfolding ascii
returns-in_err-value c = rw c.from_residual.ensures (no_value _ c.value.ensures.reads _ (ap option_copied c.in_err-value.was))

pub returns-in-48 : goal.returns-in-48
unfolding ascii
returns-in-48 c = value_read _ c.value.ensures.reads _ _ (ap option_copied c.in_ok-value.was) (flag_zero _ (omega arith) (omega arith))

pub returns-in-49 : goal.returns-in-49
unfolding ascii
returns-in-49 c = value_read _ c.value.ensures.reads _ _ (ap option_copied c.in_ok-value.was) (flag_one _ (omega arith) (omega arith))

pub returns-in_default : goal.returns-in_default
unfolding ascii
returns-in_default c = value_read _ c.value.ensures.reads _ _ (ap option_copied c.in_ok-value.was) (flag_size _ (omega arith))

pub returns-in_default-2 : goal.returns-in_default-2
unfolding ascii
returns-in_default-2 c = value_read _ c.value.ensures.reads _ _ (ap option_copied c.in_ok-value.was) (flag_other _ (omega arith) (omega arith) (omega arith))

pub returns-in_default-3 : goal.returns-in_default-3
unfolding ascii
returns-in_default-3 c = value_read _ c.value.ensures.reads _ _ (ap option_copied c.in_ok-value.was) (flag_size _ (omega arith))
