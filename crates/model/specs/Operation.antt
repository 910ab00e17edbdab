-- The operations: the arms of the `match` in `explain`, and the 111 names that lead to them (explain.rs, the constants OP_ and the arms).
-- 01, "The rows": "The arms of `explain` decide. An operation without an arm does nothing." Int64 has no arm. Assumes nothing.
use Rattle.std.specs.Prelude.{List, [], ◌∷◌, ℕ}
use Rattle.type_info.specs.declared.DataType.{DataType}
use Rattle.type_info.specs.declared.DataType.TheVariants.{Integer, Float, Text, Blob}
use Rattle.type_info.specs.Ascii.{equals}
use Rattle.model.specs.TextTable.{Named, ◌is◌, first_for, or_else}

-- arms that name the next row themselves, or end the branch
pub data JumpOperation : Type 0 where
  op_goto op_gosub op_branch op_is_null op_not_null op_must_be_int op_if op_rewind : JumpOperation
  op_init_coroutine op_end_coroutine op_return op_yield op_jump op_halt : JumpOperation

-- arms that write registers and go on to the next row
pub data RegisterOperation : Type 0 where
  op_make_record op_variable op_halt_if_null op_function op_agg_step op_agg_final op_cast : RegisterOperation
  op_copy_one op_copy op_move op_integer op_null op_arithmetic : RegisterOperation
  -- a value of this kind goes to P2; the kind is the Rust's `opcode_to_type`
  op_constant : DataType → RegisterOperation

-- arms that use a cursor and go on to the next row
pub data CursorOperation : Type 0 where
  op_column op_row_data op_insert op_delete op_open_pseudo op_open_dup op_open_read op_open_ephemeral op_null_row : CursorOperation

pub data Operation : Type 0 where
  jumps : JumpOperation → Operation
  -- the one arm that asks whether its row is handled again
  op_if_pos : Operation
  registers : RegisterOperation → Operation
  cursors : CursorOperation → Operation
  op_result_row : Operation
  no_arm : Operation

-- an arm of several names is called by the first, or by what they share
unfoldable pub operations : List (Named Operation)
operations =
    "Init" is jumps op_goto
    ∷ "Goto" is jumps op_goto
    ∷ "FkIfZero" is jumps op_goto
    ∷ "Gosub" is jumps op_gosub
    ∷ "DecrJumpZero" is jumps op_branch
    ∷ "ElseEq" is jumps op_branch
    ∷ "Eq" is jumps op_branch
    ∷ "Filter" is jumps op_branch
    ∷ "Found" is jumps op_branch
    ∷ "Ge" is jumps op_branch
    ∷ "Gt" is jumps op_branch
    ∷ "IdxGE" is jumps op_branch
    ∷ "IdxGT" is jumps op_branch
    ∷ "IdxLE" is jumps op_branch
    ∷ "IdxLT" is jumps op_branch
    ∷ "IfNoHope" is jumps op_branch
    ∷ "IfNot" is jumps op_branch
    ∷ "IfNotOpen" is jumps op_branch
    ∷ "IfNotZero" is jumps op_branch
    ∷ "IfNullRow" is jumps op_branch
    ∷ "IfSmaller" is jumps op_branch
    ∷ "IncrVacuum" is jumps op_branch
    ∷ "IsNullOrType" is jumps op_branch
    ∷ "Le" is jumps op_branch
    ∷ "Lt" is jumps op_branch
    ∷ "Ne" is jumps op_branch
    ∷ "Next" is jumps op_branch
    ∷ "NoConflict" is jumps op_branch
    ∷ "NotExists" is jumps op_branch
    ∷ "Once" is jumps op_branch
    ∷ "Prev" is jumps op_branch
    ∷ "Program" is jumps op_branch
    ∷ "RowSetRead" is jumps op_branch
    ∷ "RowSetTest" is jumps op_branch
    ∷ "SeekGE" is jumps op_branch
    ∷ "SeekGT" is jumps op_branch
    ∷ "SeekLE" is jumps op_branch
    ∷ "SeekLT" is jumps op_branch
    ∷ "SeekRowid" is jumps op_branch
    ∷ "SeekScan" is jumps op_branch
    ∷ "SequenceTest" is jumps op_branch
    ∷ "SorterNext" is jumps op_branch
    ∷ "VFilter" is jumps op_branch
    ∷ "VNext" is jumps op_branch
    ∷ "IsNull" is jumps op_is_null
    ∷ "NotNull" is jumps op_not_null
    ∷ "MustBeInt" is jumps op_must_be_int
    ∷ "If" is jumps op_if
    ∷ "IfPos" is op_if_pos
    ∷ "Rewind" is jumps op_rewind
    ∷ "Last" is jumps op_rewind
    ∷ "Sort" is jumps op_rewind
    ∷ "SorterSort" is jumps op_rewind
    ∷ "InitCoroutine" is jumps op_init_coroutine
    ∷ "EndCoroutine" is jumps op_end_coroutine
    ∷ "Return" is jumps op_return
    ∷ "Yield" is jumps op_yield
    ∷ "Jump" is jumps op_jump
    ∷ "Column" is cursors op_column
    ∷ "Sequence" is registers (op_constant Integer)
    ∷ "RowData" is cursors op_row_data
    ∷ "SorterData" is cursors op_row_data
    ∷ "MakeRecord" is registers op_make_record
    ∷ "Insert" is cursors op_insert
    ∷ "IdxInsert" is cursors op_insert
    ∷ "SorterInsert" is cursors op_insert
    ∷ "Delete" is cursors op_delete
    ∷ "OpenPseudo" is cursors op_open_pseudo
    ∷ "OpenDup" is cursors op_open_dup
    ∷ "OpenRead" is cursors op_open_read
    ∷ "OpenWrite" is cursors op_open_read
    ∷ "OpenEphemeral" is cursors op_open_ephemeral
    ∷ "OpenAutoindex" is cursors op_open_ephemeral
    ∷ "SorterOpen" is cursors op_open_ephemeral
    ∷ "Variable" is registers op_variable
    ∷ "HaltIfNull" is registers op_halt_if_null
    ∷ "Function" is registers op_function
    ∷ "NullRow" is cursors op_null_row
    ∷ "AggStep" is registers op_agg_step
    ∷ "AggValue" is registers op_agg_step
    ∷ "AggFinal" is registers op_agg_final
    ∷ "Cast" is registers op_cast
    ∷ "SCopy" is registers op_copy_one
    ∷ "IntCopy" is registers op_copy_one
    ∷ "Copy" is registers op_copy
    ∷ "Move" is registers op_move
    ∷ "Integer" is registers op_integer
    ∷ "Blob" is registers (op_constant Blob)
    ∷ "Count" is registers (op_constant Integer)
    ∷ "Real" is registers (op_constant Float)
    ∷ "String8" is registers (op_constant Text)
    ∷ "Rowid" is registers (op_constant Integer)
    ∷ "IdxRowid" is registers (op_constant Integer)
    ∷ "NewRowid" is registers (op_constant Integer)
    ∷ "Not" is registers op_copy_one
    ∷ "Null" is registers op_null
    ∷ "Or" is registers op_arithmetic
    ∷ "And" is registers op_arithmetic
    ∷ "BitAnd" is registers op_arithmetic
    ∷ "BitOr" is registers op_arithmetic
    ∷ "ShiftLeft" is registers op_arithmetic
    ∷ "ShiftRight" is registers op_arithmetic
    ∷ "Add" is registers op_arithmetic
    ∷ "Subtract" is registers op_arithmetic
    ∷ "Multiply" is registers op_arithmetic
    ∷ "Divide" is registers op_arithmetic
    ∷ "Remainder" is registers op_arithmetic
    ∷ "Concat" is registers op_arithmetic
    ∷ "OffsetLimit" is registers (op_constant Integer)
    ∷ "ResultRow" is op_result_row
    ∷ "Halt" is jumps op_halt
    ∷ []

unfoldable pub operation_of : List ℕ → Operation
operation_of name = or_else no_arm (first_for equals name operations)
