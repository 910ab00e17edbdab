-- `answer::columns_len` adds a column a turn. The invariant: what is counted and what is still to come are the whole. Assumes nothing.
use Rattle.std.proofs.Common.{◌≡◌, ◌+◌, ◌*◌, ◌≤◌, length, drop}
use Rattle.answer.specs.Text.{columns_text}
use Rattle.answer.proofs.columns_len.Given as goal

abbrev pub invariant-loop-k : goal.invariant-loop-k
invariant-loop-k l = (l.n ≤ 64 * l.k) × (l.n + length (columns_text l.k (drop l.k l.columns)) ≡ length (columns_text 0 l.columns))
