-- `explain::branch_row` reads the row that the state stands on. Assumes nothing.
use borrow.Author.Rules.{rules}
use Rattle.opcode.specs.declared.Operation.TheVariants.{IfPos}
use Rattle.opcode.proofs.Numbers.{operation_is}
use Rattle.explain.proofs.HandlingLaws.{number_branches, if_pos_branches}
use Rattle.explain.proofs.branch_row.Goals as goal

pub returns-then-lt : goal.returns-then-lt
returns-then-lt c = (c.jump.ensures.0.same, number_branches _ c.row_of-x.ensures (search rules) c.jump.ensures.1)

pub returns : goal.returns
returns c = (c.if_pos.ensures.0.same, if_pos_branches _ c.row_of-x.ensures (operation_is IfPos (search rules)) c.if_pos.ensures.1)
