-- `Text::put_raw` goes over what is left of the text, which is shorter at each turn. Assumes nothing.
use Rattle.std.proofs.Common.{length}
use Rattle.vectors.proofs.Text.put_raw.Given as goal

abbrev pub invariant-loop-byte : goal.invariant-loop-byte
invariant-loop-byte l = Unit {0}

abbrev pub decreases-loop-byte : goal.decreases-loop-byte
decreases-loop-byte l = length l.rest
