-- `answer::copy` copies a byte a turn. The invariant: the first i bytes are written. Assumes nothing.
use Rattle.std.proofs.Common.{◌≡◌}
use Rattle.answer.proofs.PatchLaws.{pasted}
use Rattle.answer.proofs.copy.Given as goal

abbrev pub invariant-loop-i : goal.invariant-loop-i
invariant-loop-i l = l.out ≡ pasted l.initial.out l.at l.text l.i
