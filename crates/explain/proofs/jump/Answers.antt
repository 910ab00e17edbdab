-- `explain::jump`: each operation leads to its arm, and Halt's is left. Assumes nothing.
use mathlib.Core.Path.{◌≡◌, refl, ap}
use mathlib.Core.List.{[], ◌∷◌}
use native.Mathlib.Omega.{arith}
use borrow.Author.Rules.{rules}
use Rattle.model.specs.Operation.{op_is_null, op_halt}
use Rattle.opcode.specs.Opcode.{arm_of}
use Rattle.opcode.specs.declared.Operation.TheVariants.{Goto, Gosub, Branch, IsNull, NotNull, MustBeInt, If, Rewind, InitCoroutine, EndCoroutine, Return, Yield, Jump, Halt}
use Rattle.opcode.proofs.Arms.{numbers_from}
use Rattle.opcode.proofs.Numbers.{NotThese, number_past, operation_is}
use Rattle.state.proofs.Stores.{stays}
use Rattle.explain.proofs.NumberLaws.{jump_number, jump_named, of_state, rows_number}
use Rattle.explain.proofs.jump.Goals as goal

pub returns-in-Goto : goal.returns-in-Goto
returns-in-Goto c = (stays, jump_number (ap arm_of c.in-Goto.is) (of_state c.at.ensures c.requires.0 c.goto.ensures))

pub returns-in-Gosub : goal.returns-in-Gosub
returns-in-Gosub c = (c.gosub.ensures.0, jump_number (ap arm_of c.in-Gosub.is) c.gosub.ensures.1)

pub returns-in-Branch : goal.returns-in-Branch
returns-in-Branch c = (stays, jump_number (ap arm_of c.in-Branch.is) (of_state c.at-in-Branch.ensures c.requires.0 c.branch-at.ensures))

pub returns-in-IsNull : goal.returns-in-IsNull
returns-in-IsNull c = (search rules, search (rules, jump_named op_is_null IsNull refl))

pub returns-in-NotNull : goal.returns-in-NotNull
returns-in-NotNull c = (c.not_null.ensures.0, jump_number (ap arm_of c.in-NotNull.is) c.not_null.ensures.1)

pub returns-in-MustBeInt : goal.returns-in-MustBeInt
returns-in-MustBeInt c = (stays, jump_number (ap arm_of c.in-MustBeInt.is) (of_state c.at-in-MustBeInt.ensures c.requires.0 c.must_be_int.ensures))

pub returns-in-If : goal.returns-in-If
returns-in-If c = (c.if_.ensures.0, jump_number (ap arm_of c.in-If.is) c.if_.ensures.1)

pub returns-in-Rewind : goal.returns-in-Rewind
returns-in-Rewind c = (c.rewind.ensures.0, jump_number (ap arm_of c.in-Rewind.is) c.rewind.ensures.1)

pub returns-in-InitCoroutine : goal.returns-in-InitCoroutine
returns-in-InitCoroutine c = (c.init_coroutine.ensures.0, jump_number (ap arm_of c.in-InitCoroutine.is) c.init_coroutine.ensures.1)

pub returns-in-EndCoroutine : goal.returns-in-EndCoroutine
returns-in-EndCoroutine c = (c.end_coroutine.ensures.0, rows_number (ap arm_of c.in-EndCoroutine.is) c.end_coroutine.ensures.1)

pub returns-in-Return : goal.returns-in-Return
returns-in-Return c = (c.return_.ensures.0, jump_number (ap arm_of c.in-Return.is) c.return_.ensures.1)

pub returns-in-Yield : goal.returns-in-Yield
returns-in-Yield c = (c.yield_.ensures.0, rows_number (ap arm_of c.in-Yield.is) c.yield_.ensures.1)

pub returns-in_default : goal.returns-in_default
unfolding NotThese numbers_from
returns-in_default c =
    let past = number_past c.args.x.op 1 13 (Jump ∷ Yield ∷ Return ∷ EndCoroutine ∷ InitCoroutine ∷ Rewind ∷ If ∷ MustBeInt ∷ NotNull ∷ IsNull ∷ Branch ∷ Gosub ∷ Goto ∷ []) refl c.requires.2 (search rules) in
    let last : c.args.x.op ≡ Halt = operation_is Halt (omega (arith, past, c.requires.3)) in
    (stays, search (rules, jump_named op_halt Halt refl, of_state, c.requires.0, last))
