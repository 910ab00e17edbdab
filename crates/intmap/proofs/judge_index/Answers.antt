-- `judge_index` goes by where the index lies. Assumes nothing.
use mathlib.Core.Path.{sym}
use native.Mathlib.Omega.{arith}
use Rattle.intmap.proofs.SignedLaws.{index_below, index_above, index_within}
use Rattle.intmap.proofs.judge_index.Goals as goal

pub returns-then-i-lt-ZERO : goal.returns-then-i-lt-ZERO
returns-then-i-lt-ZERO c = record { answer = sym (index_below c.args.i c.if-i-lt-ZERO.true); small = tt }

pub returns-then-k-gt65535 : goal.returns-then-k-gt65535
returns-then-k-gt65535 c = record { answer = sym (index_above c.args.i (omega (arith, c.if-k-gt65535.true))); small = tt }

pub returns : goal.returns
returns c = record { answer = sym (index_within c.args.i (omega arith) (omega arith)); small = omega arith }
