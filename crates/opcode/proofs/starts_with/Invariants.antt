-- `opcode::starts_with` compares byte by byte. The invariant: what is left of the text starts with what is left of the word exactly where
-- the whole does. Assumes nothing.
use mathlib.Core.Path.{◌≡◌}
use lib.ListN.{drop}
use Rattle.type_info.specs.Ascii.{starts_with}
use Rattle.opcode.proofs.starts_with.Given as goal

abbrev pub invariant-loop-i : goal.invariant-loop-i
invariant-loop-i l = starts_with (drop l.i l.text) (drop l.i l.word) ≡ starts_with l.text l.word
