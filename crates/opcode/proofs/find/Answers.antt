-- `opcode::find`, by the invariant of Invariants.antt. Assumes nothing.
use mathlib.Core.Path.{sym, ◌∙◌}
use native.Mathlib.Omega.{arith}
use Rattle.opcode.proofs.LookupLaws.{entry_found, entry_passed, no_entry}
use Rattle.opcode.proofs.find.Goals as goal

pub returns-then-starts_with : goal.returns-then-starts_with
returns-then-starts_with g c =
    entry_found c.args.given.now c.args.table.now c.loop-text.text-index c.loop-text-item.result (omega arith) c.loop-text-item.is
    (sym c.starts_with.ensures ∙ c.if-starts_with.true) ∙
    c.loop-text.invariant

pub loop-text-preserved : goal.loop-text-preserved
loop-text-preserved g c =
    entry_passed c.args.given.now c.args.table.now c.loop-text.text-index c.loop-text-item.result (omega arith) c.loop-text-item.is
    (sym c.starts_with.ensures ∙ c.if-starts_with.false) ∙
    c.loop-text.invariant

pub returns : goal.returns
returns g c = no_entry c.args.given.now c.args.table.now c.loop-text.text-index (omega arith) ∙ c.loop-text.invariant
