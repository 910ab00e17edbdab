-- `in_place::register`: each operation leads to its arm. Assumes nothing.
use mathlib.Core.Path.{ap}
use Rattle.model.specs.Operation.{op_variable, op_halt_if_null, op_copy_one, op_integer, op_null, op_constant}
use Rattle.opcode.specs.Opcode.{arm_of}
use Rattle.explain.proofs.NumberLaws.{constant_operation}
use Rattle.in_place.proofs.NearLaws.{constant_near, variable_near, copies_near, integer_near}
use Rattle.in_place.proofs.HandleLaws.{register_not}
use Rattle.in_place.proofs.register.Goals as goal

pub returns-in-Variable : goal.returns-in-Variable
returns-in-Variable c = record { arm = op_variable; is = λ _. ap arm_of c.in-Variable.is; near = variable_near c.single_near.ensures }

pub returns-in-HaltIfNull : goal.returns-in-HaltIfNull
returns-in-HaltIfNull c = record { arm = op_halt_if_null; is = λ _. ap arm_of c.in-HaltIfNull.is; near = c.halt_if_null.ensures _ _ }

pub returns-in-CopyOne : goal.returns-in-CopyOne
returns-in-CopyOne c = record { arm = op_copy_one; is = λ _. ap arm_of c.in-CopyOne.is; near = copies_near c.copy.ensures }

pub returns-in-Integer : goal.returns-in-Integer
returns-in-Integer c = record { arm = op_integer; is = λ _. ap arm_of c.in-Integer.is; near = integer_near c.int_near.ensures }

pub returns-in-Null : goal.returns-in-Null
returns-in-Null c = record { arm = op_null; is = λ _. ap arm_of c.in-Null.is; near = c.null.ensures _ }

pub returns-in-ConstantInteger : goal.returns-in-ConstantInteger
returns-in-ConstantInteger c = record { arm = op_constant c.opcode_to_type.result; is = λ _. constant_operation c.in-ConstantInteger.is c.opcode_to_type.ensures; near = constant_near _ c.single_near-in-ConstantInteger.ensures }

pub returns-in_default : goal.returns-in_default
returns-in_default c = register_not
