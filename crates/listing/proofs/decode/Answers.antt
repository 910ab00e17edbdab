-- What is left of `decode`, by the invariant of Invariants.antt. Assumes nothing.
use mathlib.Core.Path.{sym, ap, ◌∙◌}
use native.Mathlib.Omega.{arith}
use lib.ListN.{length, take}
use Rattle.std.specs.Prelude.{option_copied}
use Rattle.std.specs.Bool.{then_some}
use Rattle.text.proofs.ReadLaws.{copied_if}
use Rattle.listing.proofs.HexLaws.{hex_small, hex_start, pair_first, pair_second, pair_on, pairs_end}
use Rattle.listing.proofs.decode.Goals as goal

pub loop-n-init : goal.loop-n-init
loop-n-init c = (omega arith, hex_start _ _)

pub returns-in_err-hex_value : goal.returns-in_err-hex_value
returns-in_err-hex_value c = rw c.from_residual.ensures (pair_first _ _ c.as_chunks.ensures.front _ (omega (arith, c.loop-n-test.true, c.as_chunks.ensures.front_len)) _ _ (sym c.in_err-hex_value.was ∙ c.hex_value.ensures) ∙ c.loop-n.invariant.1)

pub overflow_mul-bytes : goal.overflow_mul-bytes
overflow_mul-bytes c = omega (arith, hex_small _ (sym c.in_ok-hex_value.was ∙ c.hex_value.ensures))

pub returns-in_err-bytes : goal.returns-in_err-bytes
returns-in_err-bytes c = rw c.from_residual-in_err-bytes.ensures (pair_second _ _ c.as_chunks.ensures.front _ (omega (arith, c.loop-n-test.true, c.as_chunks.ensures.front_len)) _ _ (sym c.in_ok-hex_value.was ∙ c.hex_value.ensures) (sym c.in_err-bytes.was ∙ c.hex_value-in-loop-n.ensures) ∙ c.loop-n.invariant.1)

pub overflow_add-bytes : goal.overflow_add-bytes
overflow_add-bytes c = omega (arith, hex_small _ (sym c.in_ok-hex_value.was ∙ c.hex_value.ensures), hex_small _ (sym c.in_ok-bytes.was ∙ c.hex_value-in-loop-n.ensures))

pub loop-n-preserved : goal.loop-n-preserved
loop-n-preserved c = (omega (arith, c.loop-n-test.true, c.as_chunks.ensures.front_len), pair_on _ _ c.as_chunks.ensures.front _ (omega (arith, c.loop-n-test.true, c.as_chunks.ensures.front_len)) _ _ (omega (arith, c.loop-n-test.true, c.as_chunks.ensures.front_len, c.requires, c.loop-n.auto.bytes)) (sym c.in_ok-hex_value.was ∙ c.hex_value.ensures) (sym c.in_ok-bytes.was ∙ c.hex_value-in-loop-n.ensures) ∙ c.loop-n.invariant.1)

pub returns : goal.returns
returns c = ap option_copied c.then_some.ensures ∙ copied_if _ _ ∙ ap (λ b. then_some b (take (length c.as_chunks.result.0.now) c.loop-n.bytes)) c.is_empty.ensures ∙ pairs_end _ _ _ _ _ (omega (arith, c.loop-n-test.false, c.as_chunks.ensures.front_len, c.loop-n.invariant.0)) c.as_chunks.ensures.front_len c.as_chunks.ensures.back_len ∙ c.loop-n.invariant.1
