-- The operations: the arms of `explain` (model's Operation) that the code's variants stand for, and their numbers in a cell, counted from 0 for a
-- name without an arm. Assumes nothing.
use Rattle.std.specs.Prelude.{◌≡◌, List, [], ◌∷◌, ℕ, ◌<◌, ◌≤◌, get_or, Option, None, Some}
use Rattle.type_info.specs.declared.DataType.{DataType}
use Rattle.type_info.specs.declared.DataType.TheVariants.{Null as Unknown, Integer as Integers, Float, Text, Blob}
use Rattle.model.specs.Operation.{Operation as Arm, operations as names, cursors, jumps, no_arm, registers, op_agg_final, op_agg_step, op_arithmetic, op_branch, op_cast, op_column, op_constant, op_copy, op_copy_one, op_delete, op_end_coroutine, op_function, op_gosub, op_goto, op_halt, op_halt_if_null, op_if, op_if_pos, op_init_coroutine, op_insert, op_integer, op_is_null, op_jump, op_make_record, op_move, op_must_be_int, op_not_null, op_null, op_null_row, op_open_dup, op_open_ephemeral, op_open_pseudo, op_open_read, op_result_row, op_return, op_rewind, op_row_data, op_variable, op_yield}
use Rattle.type_info.specs.Ascii.{equals}
use Rattle.model.specs.TextTable.{first_for}
use Rattle.opcode.specs.declared.Operation.{Operation}
use Rattle.opcode.specs.declared.Operation.TheVariants.{Other, Goto, Gosub, Branch, IsNull, NotNull, MustBeInt, If, Rewind, InitCoroutine, EndCoroutine, Return, Yield, Jump, Halt, IfPos, MakeRecord, Variable, HaltIfNull, Function, AggStep, AggFinal, Cast, CopyOne, Copy, Move, Integer, Null, Arithmetic, ConstantInteger, ConstantFloat, ConstantText, ConstantBlob, Column, RowData, Insert, Delete, OpenPseudo, OpenDup, OpenRead, OpenEphemeral, NullRow, ResultRow}

abbrev pub arm_of : Operation → Arm
arm_of Other = no_arm
arm_of Goto = jumps op_goto
arm_of Gosub = jumps op_gosub
arm_of Branch = jumps op_branch
arm_of IsNull = jumps op_is_null
arm_of NotNull = jumps op_not_null
arm_of MustBeInt = jumps op_must_be_int
arm_of If = jumps op_if
arm_of Rewind = jumps op_rewind
arm_of InitCoroutine = jumps op_init_coroutine
arm_of EndCoroutine = jumps op_end_coroutine
arm_of Return = jumps op_return
arm_of Yield = jumps op_yield
arm_of Jump = jumps op_jump
arm_of Halt = jumps op_halt
arm_of IfPos = op_if_pos
arm_of MakeRecord = registers op_make_record
arm_of Variable = registers op_variable
arm_of HaltIfNull = registers op_halt_if_null
arm_of Function = registers op_function
arm_of AggStep = registers op_agg_step
arm_of AggFinal = registers op_agg_final
arm_of Cast = registers op_cast
arm_of CopyOne = registers op_copy_one
arm_of Copy = registers op_copy
arm_of Move = registers op_move
arm_of Integer = registers op_integer
arm_of Null = registers op_null
arm_of Arithmetic = registers op_arithmetic
arm_of ConstantInteger = registers (op_constant Integers)
arm_of ConstantFloat = registers (op_constant Float)
arm_of ConstantText = registers (op_constant Text)
arm_of ConstantBlob = registers (op_constant Blob)
arm_of Column = cursors op_column
arm_of RowData = cursors op_row_data
arm_of Insert = cursors op_insert
arm_of Delete = cursors op_delete
arm_of OpenPseudo = cursors op_open_pseudo
arm_of OpenDup = cursors op_open_dup
arm_of OpenRead = cursors op_open_read
arm_of OpenEphemeral = cursors op_open_ephemeral
arm_of NullRow = cursors op_null_row
arm_of ResultRow = op_result_row

-- a name's arm is that of the operation
abbrev pub IsOpcode : Arm → Operation → Type 0
IsOpcode arm o = arm_of o ≡ arm

-- `as`: the variants in their order
abbrev pub number : Operation → ℕ
number Other = 0
number Goto = 1
number Gosub = 2
number Branch = 3
number IsNull = 4
number NotNull = 5
number MustBeInt = 6
number If = 7
number Rewind = 8
number InitCoroutine = 9
number EndCoroutine = 10
number Return = 11
number Yield = 12
number Jump = 13
number Halt = 14
number IfPos = 15
number MakeRecord = 16
number Variable = 17
number HaltIfNull = 18
number Function = 19
number AggStep = 20
number AggFinal = 21
number Cast = 22
number CopyOne = 23
number Copy = 24
number Move = 25
number Integer = 26
number Null = 27
number Arithmetic = 28
number ConstantInteger = 29
number ConstantFloat = 30
number ConstantText = 31
number ConstantBlob = 32
number Column = 33
number RowData = 34
number Insert = 35
number Delete = 36
number OpenPseudo = 37
number OpenDup = 38
number OpenRead = 39
number OpenEphemeral = 40
number NullRow = 41
number ResultRow = 42

unfoldable pub operations : List Operation
operations = Other ∷ Goto ∷ Gosub ∷ Branch ∷ IsNull ∷ NotNull ∷ MustBeInt ∷ If ∷ Rewind ∷ InitCoroutine ∷ EndCoroutine ∷ Return ∷ Yield ∷ Jump ∷ Halt ∷ IfPos ∷ MakeRecord ∷ Variable ∷ HaltIfNull ∷ Function ∷ AggStep ∷ AggFinal ∷ Cast ∷ CopyOne ∷ Copy ∷ Move ∷ Integer ∷ Null ∷ Arithmetic ∷ ConstantInteger ∷ ConstantFloat ∷ ConstantText ∷ ConstantBlob ∷ Column ∷ RowData ∷ Insert ∷ Delete ∷ OpenPseudo ∷ OpenDup ∷ OpenRead ∷ OpenEphemeral ∷ NullRow ∷ ResultRow ∷ []

unfoldable pub operation_at : ℕ → Operation
operation_at n = get_or operations n Other

-- what a number is read as
pub record Numbered (n : ℕ) (o : Operation) : Type 0 where
  pub known : n < 43 → number o ≡ n
  pub other : 43 ≤ n → o ≡ Other

-- `opcode_to_type`, for the arms that store a constant
abbrev pub constant_kind : Operation → DataType
constant_kind Other = Unknown
constant_kind Goto = Unknown
constant_kind Gosub = Unknown
constant_kind Branch = Unknown
constant_kind IsNull = Unknown
constant_kind NotNull = Unknown
constant_kind MustBeInt = Unknown
constant_kind If = Unknown
constant_kind Rewind = Unknown
constant_kind InitCoroutine = Unknown
constant_kind EndCoroutine = Unknown
constant_kind Return = Unknown
constant_kind Yield = Unknown
constant_kind Jump = Unknown
constant_kind Halt = Unknown
constant_kind IfPos = Unknown
constant_kind MakeRecord = Unknown
constant_kind Variable = Unknown
constant_kind HaltIfNull = Unknown
constant_kind Function = Unknown
constant_kind AggStep = Unknown
constant_kind AggFinal = Unknown
constant_kind Cast = Unknown
constant_kind CopyOne = Unknown
constant_kind Copy = Unknown
constant_kind Move = Unknown
constant_kind Integer = Unknown
constant_kind Null = Unknown
constant_kind Arithmetic = Unknown
constant_kind ConstantInteger = Integers
constant_kind ConstantFloat = Float
constant_kind ConstantText = Text
constant_kind ConstantBlob = Blob
constant_kind Column = Unknown
constant_kind RowData = Unknown
constant_kind Insert = Unknown
constant_kind Delete = Unknown
constant_kind OpenPseudo = Unknown
constant_kind OpenDup = Unknown
constant_kind OpenRead = Unknown
constant_kind OpenEphemeral = Unknown
constant_kind NullRow = Unknown
constant_kind ResultRow = Unknown

-- the operation of a name that has one
abbrev pub arms_of : Option Operation → Option Arm
arms_of None = None
arms_of (Some o) = Some (arm_of o)

abbrev pub AreNamed : List ℕ → Option Operation → Type 0
AreNamed name found = arms_of found ≡ first_for equals name names
