-- `explain::register`: each operation leads to its arm, and those that store a constant are left. Assumes nothing.
use mathlib.Core.Path.{refl, ap}
use mathlib.Core.List.{[], ◌∷◌}
use borrow.Author.Rules.{rules}
use Rattle.opcode.specs.Opcode.{arm_of}
use Rattle.opcode.specs.declared.Operation.TheVariants.{MakeRecord, Variable, HaltIfNull, Function, AggStep, AggFinal, Cast, CopyOne, Copy, Move, Integer, Null, Arithmetic}
use Rattle.opcode.proofs.Arms.{numbers_from}
use Rattle.opcode.proofs.Numbers.{NotThese, number_past}
use Rattle.state.proofs.Stores.{leaves}
use Rattle.explain.proofs.NumberLaws.{constant_number, register_number}
use Rattle.explain.proofs.register.Goals as goal

pub returns-in-MakeRecord : goal.returns-in-MakeRecord
returns-in-MakeRecord c = (leaves c.make_record.ensures, λ from n row blocks. register_number (ap arm_of c.in-MakeRecord.is) c.make_record.ensures.is)

pub returns-in-Variable : goal.returns-in-Variable
returns-in-Variable c = (leaves c.variable.ensures, λ from n row blocks. register_number (ap arm_of c.in-Variable.is) c.variable.ensures.is)

pub returns-in-HaltIfNull : goal.returns-in-HaltIfNull
returns-in-HaltIfNull c = (leaves c.halt_if_null.ensures, λ from n row blocks. register_number (ap arm_of c.in-HaltIfNull.is) c.halt_if_null.ensures.is)

pub returns-in-Function : goal.returns-in-Function
returns-in-Function c = (leaves c.function.ensures, λ from n row blocks. register_number (ap arm_of c.in-Function.is) c.function.ensures.is)

pub returns-in-AggStep : goal.returns-in-AggStep
returns-in-AggStep c = (leaves c.agg_step.ensures, λ from n row blocks. register_number (ap arm_of c.in-AggStep.is) c.agg_step.ensures.is)

pub returns-in-AggFinal : goal.returns-in-AggFinal
returns-in-AggFinal c = (leaves c.agg_final.ensures, λ from n row blocks. register_number (ap arm_of c.in-AggFinal.is) c.agg_final.ensures.is)

pub returns-in-Cast : goal.returns-in-Cast
returns-in-Cast c = (leaves c.cast.ensures, λ from n row blocks. register_number (ap arm_of c.in-Cast.is) c.cast.ensures.is)

pub returns-in-CopyOne : goal.returns-in-CopyOne
returns-in-CopyOne c = (leaves c.scopy.ensures, λ from n row blocks. register_number (ap arm_of c.in-CopyOne.is) c.scopy.ensures.is)

pub returns-in-Copy : goal.returns-in-Copy
returns-in-Copy c = (leaves c.copy.ensures, λ from n row blocks. register_number (ap arm_of c.in-Copy.is) c.copy.ensures.is)

pub returns-in-Move : goal.returns-in-Move
returns-in-Move c = (leaves c.move_.ensures, λ from n row blocks. register_number (ap arm_of c.in-Move.is) c.move_.ensures.is)

pub returns-in-Integer : goal.returns-in-Integer
returns-in-Integer c = (leaves c.integer.ensures, λ from n row blocks. register_number (ap arm_of c.in-Integer.is) c.integer.ensures.is)

pub returns-in-Null : goal.returns-in-Null
returns-in-Null c = (leaves c.null.ensures, λ from n row blocks. register_number (ap arm_of c.in-Null.is) c.null.ensures.is)

pub returns-in-Arithmetic : goal.returns-in-Arithmetic
returns-in-Arithmetic c = (leaves c.arithmetic.ensures, λ from n row blocks. register_number (ap arm_of c.in-Arithmetic.is) c.arithmetic.ensures.is)

pub returns-in_default : goal.returns-in_default
unfolding NotThese numbers_from
returns-in_default c =
    let past = number_past c.args.x.op 16 13 (Arithmetic ∷ Null ∷ Integer ∷ Move ∷ Copy ∷ CopyOne ∷ Cast ∷ AggFinal ∷ AggStep ∷ Function ∷ HaltIfNull ∷ Variable ∷ MakeRecord ∷ []) refl c.requires.1 (search rules) in
    (leaves c.constant.ensures, λ from n row blocks. register_number (constant_number _ past c.requires.2 c.opcode_to_type.ensures) c.constant.ensures.is)
