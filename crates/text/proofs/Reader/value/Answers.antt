-- `text::Reader::value`: the key, then the line behind it. Assumes nothing.
use mathlib.Core.Path.{refl, sym, ◌∙◌}
use native.Mathlib.Omega.{arith}
use Prim.Native.Nat.{◌+◌}
use lib.ListN.{length-drop}
use lib.Seq.{take_all}
use Rattle.std.proofs.lemmas.Option.{none-some}
use Rattle.std.proofs.lemmas.List.Quantifiers.{position-Some}
use Rattle.text.proofs.LineLaws.{no_key, no_line, value_here}
use Rattle.text.proofs.Reader.value.Goals as goal

pub returns-in_err-line : goal.returns-in_err-line
returns-in_err-line c = rw c.from_residual.ensures (record { reads = no_key _ _ c.in_err-line.ensures.cases; kept = λ _. refl })

pub returns-in_err-end : goal.returns-in_err-end
returns-in_err-end c = rw c.from_residual-in_err-end.ensures (record { reads = no_line _ _ c.in_ok-line.ensures.cases.0 c.in_ok-line.ensures.cases.1 c.line_end.ensures c.in_err-end.was; kept = λ _. refl })

pub returns : goal.returns
returns c = record {
  reads = value_here _ _ c.in_ok-line.ensures.cases.0 c.in_ok-line.ensures.cases.1 c.line_end.ensures c.in_ok-end.was (position-Some _ _ _ 0 (sym c.line_end.ensures ∙ c.in_ok-end.was)).0 (take_all _ _ (omega (arith, length-drop (c.in_ok-end.end + 1) c.in_ok-line.line.now))) refl;
  kept = λ e. absurd (none-some _ (sym e));
}
