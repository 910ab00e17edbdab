-- `listing::address`: a number of at most k, which must be k. Assumes nothing.
use mathlib.Core.Path.{sym, ap, ◌∙◌}
use Rattle.std.specs.Prelude.{option_copied}
use Rattle.type_info.specs.Ascii.{ascii}
use Rattle.model.specs.Numbers.{read_index}
use Rattle.text.proofs.ReadLaws.{no_value, value_read}
use Rattle.listing.proofs.NameLaws.{index_none, index_tested}
use Rattle.listing.proofs.address.Goals as goal

pub returns-in_err-value : goal.returns-in_err-value
unfolding ascii
returns-in_err-value c = rw c.from_residual.ensures (no_value _ c.value.ensures.reads _ (ap option_copied c.in_err-value.was))

pub returns-in_err-n : goal.returns-in_err-n
unfolding ascii
returns-in_err-n c = rw c.from_residual-in_err-n.ensures (value_read _ c.value.ensures.reads (read_index c.args.k) _ (ap option_copied c.in_ok-value.was) (index_none _ _ (sym c.in_err-n.was ∙ c.natural.ensures)))

pub returns : goal.returns
unfolding ascii
returns c = value_read _ c.value.ensures.reads (read_index c.args.k) _ (ap option_copied c.in_ok-value.was) (c.then_some.ensures ∙ index_tested _ _ (sym c.in_ok-n.was ∙ c.natural.ensures))
