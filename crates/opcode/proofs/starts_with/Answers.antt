-- `opcode::starts_with`, by the invariant of Invariants.antt. Assumes nothing.
use mathlib.Core.Path.{◌∙◌}
use native.Mathlib.Omega.{arith}
use lib.ListN.{drop}
use Rattle.opcode.proofs.LookupLaws.{too_short, byte_differs, byte_agrees, word_read}
use Rattle.opcode.proofs.starts_with.Goals as goal

pub returns-then-text-word : goal.returns-then-text-word
returns-then-text-word c = too_short c.args.text.now c.args.word.now (omega arith)

pub returns-then-text-i : goal.returns-then-text-i
returns-then-text-i c = byte_differs c.args.text.now c.args.word.now c.loop-i.i (omega arith) (omega arith) c.if-text-i.true ∙ c.loop-i.invariant

pub loop-i-preserved : goal.loop-i-preserved
loop-i-preserved c = byte_agrees c.args.text.now c.args.word.now c.loop-i.i (omega arith) (omega arith) c.if-text-i.false ∙ c.loop-i.invariant

pub returns : goal.returns
returns c = word_read (drop c.loop-i.i c.args.text.now) c.args.word.now c.loop-i.i (omega arith) ∙ c.loop-i.invariant
