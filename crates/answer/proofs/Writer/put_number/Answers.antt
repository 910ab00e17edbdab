-- `Writer::put_number` writes the digits where they end. Assumes nothing.
use Rattle.std.proofs.Common.{◌≡◌, ◌+◌, ◌++◌, length, drop, refl, ap, ap₂, ◌∙◌, arith}
use Rattle.std.specs.Fmt.{decimal}
use Rattle.model.specs.Numbers.{print_natural}
use Rattle.answer.proofs.PatchLaws.{patch_before}
use Rattle.answer.proofs.DigitLaws.{print_decimal}
use Rattle.answer.proofs.Writer.put_number.Goals as goal

pub write_digits-requires : goal.write_digits-requires
write_digits-requires c =
    let long = ap length (print_decimal c.args.n (omega arith)) in
    (omega (arith, long, c.digits.ensures.is), omega (arith, c.digits.ensures.is, c.requires.1.fits))

pub returns : goal.returns
returns c =
    let e : decimal c.args.n ≡ print_natural c.args.n = print_decimal c.args.n (omega arith) in record {
      same_buffer = refl;
      is = patch_before _ _ c.write_digits.new.buf _ c.write_digits.result
          (omega (arith, ap length e, c.write_digits.ensures.start, c.digits.ensures.is))
          (c.write_digits.ensures.written ∙ ap₂ (λ t k. t ++ drop (c.args.self.now.at + k) c.args.self.now.out.now) e c.digits.ensures.is)
          c.write_digits.ensures.before;
      next = ap (λ k. c.args.self.now.at + k) c.digits.ensures.is;
    }
