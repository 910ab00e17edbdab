-- `opcode::find` goes from entry to entry. The invariant: the entries that are left give what all of them give. Assumes nothing.
use mathlib.Core.Path.{◌≡◌}
use lib.ListN.{drop}
use Rattle.opcode.specs.Lookup.{found_in}
use Rattle.opcode.proofs.find.Given as goal

abbrev pub invariant-loop-text : goal.invariant-loop-text
invariant-loop-text g l = found_in l.given (drop l.text-index l.table) ≡ found_in l.given l.table
