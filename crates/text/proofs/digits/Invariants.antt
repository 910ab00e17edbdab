-- `text::digits` reads digit by digit. The invariant: what is left, behind the number so far, gives what the whole text gives. Assumes nothing.
use Rattle.text.specs.Digits.{digits_up_to}
use lib.ListN.{drop}
use Prim.Native.Nat.{◌≤◌}
use mathlib.Core.Path.{◌≡◌}
use Rattle.text.proofs.digits.Given as goal

abbrev pub invariant-loop-b : goal.invariant-loop-b
invariant-loop-b l = (l.n ≤ l.most) × (digits_up_to l.most l.n (drop l.b-index l.t) ≡ digits_up_to l.most 0 l.t)
