-- `text::Reader::number`: the number that the value is. Assumes nothing.
use mathlib.Core.Path.{refl, sym, ap, ◌∙◌}
use Rattle.std.specs.Prelude.{option_copied}
use Rattle.std.proofs.lemmas.Option.{none-some}
use Rattle.text.proofs.ReadLaws.{read_nothing, no_value, value_read}
use Rattle.text.proofs.Reader.number.Goals as goal

pub returns-in_err-value : goal.returns-in_err-value
returns-in_err-value c = rw c.from_residual.ensures (record { reads = no_value _ c.value.ensures.reads _ (ap option_copied c.in_err-value.was); kept = λ _. refl })

pub returns-in_err-n : goal.returns-in_err-n
returns-in_err-n c = rw c.from_residual-in_err-n.ensures (record {
  reads = read_nothing (value_read _ c.value.ensures.reads _ _ (ap option_copied c.in_ok-value.was) c.natural.ensures) c.in_err-n.was;
  kept = λ _. refl;
})

pub returns : goal.returns
returns c = record {
  reads = value_read _ c.value.ensures.reads _ _ (ap option_copied c.in_ok-value.was) (sym c.in_ok-n.was ∙ c.natural.ensures);
  kept = λ e. absurd (none-some _ (sym e));
}
