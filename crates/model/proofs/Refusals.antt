-- A row is refused with 6 to 10 or 12 and with no other number. Assumes nothing.
use mathlib.Core.Path.{◌≡◌, refl}
use mathlib.Core.Bool.{Bool, true, false}
use Rattle.std.specs.Prelude.{Option, None, Some}
use mathlib.Core.List.{List}
use Prim.Native.Nat.{ℕ, zero, suc}
use lib.Dec.{leb}
use lib.IntN.{ℤ, pos, negsuc, suc_ℤ}
use Rattle.type_info.specs.Utf8.{is_utf8}
use Rattle.model.specs.Walk.{Tried, refused}
use Rattle.model.specs.Row.{Row}
use Rattle.model.specs.IntMap.{get, insert}
use Rattle.model.specs.State.{Single, Record, Columns, RegDataType, Column, Int, CursorDataType, Normal, Pseudo, TableDataType, MemoryState, is_null_type, null}
use Rattle.model.specs.Equality.{eq_int, is_zero_int}
use Rattle.model.specs.Cells.{cells, register_depth, columns_depth}
use Rattle.model.specs.Access.{◌>>=◌, index_if, index, count_of, depth_if, judge_depth, cells_if, judge_cells, go_to, next, with_registers, with_cursors, with_tables, read_register, read_cursor, read_columns, store_register, store_cursor, store_table, update_register, remove_register}
use Rattle.model.specs.Cursor.{cursor_columns, null_columns, null_record}
use Rattle.model.specs.Functions.{text_if, text_of, FunctionValue, Aggregate, to_integer, to_real, to_sum, to_other_row, to_operand, aggregate_of}
use Rattle.model.specs.Meaning.{Meaning}
use Rattle.model.specs.Operation.{Operation, jumps, op_if_pos, registers, cursors, op_result_row, no_arm, operation_of, JumpOperation, op_goto, op_gosub, op_branch, op_is_null, op_not_null, op_must_be_int, op_if, op_rewind, op_init_coroutine, op_end_coroutine, op_return, op_yield, op_jump, op_halt, RegisterOperation, op_make_record, op_variable, op_halt_if_null, op_function, op_agg_step, op_agg_final, op_cast, op_copy_one, op_copy, op_move, op_integer, op_null, op_arithmetic, op_constant, CursorOperation, op_column, op_row_data, op_insert, op_delete, op_open_pseudo, op_open_dup, op_open_read, op_open_ephemeral, op_null_row}
use Rattle.model.specs.Offer.{Offer, turns, row_at}
use Rattle.model.specs.JumpArms.{is_null_arm, not_null_arm, known_int, store_if, if_branch, if_stay, if_known, if_arm, rewind_cursor, rewind_if, yield_target, return_else, end_coroutine_to, end_coroutine_arm, return_arm, yield_arm, jump_arm}
use Rattle.model.specs.IfPosArm.{if_pos_arm}
use Rattle.model.specs.ResultArm.{result_if, result_row_arm}
use Rattle.model.specs.RegisterArms.{store_some, copy_to, copy_many, move_some, move_many, null_many, null_turns, function_arm, agg_step_arm, agg_final_arm, register_arm}
use Rattle.model.specs.CursorArms.{column_of, store_into, insert_record, insert_null_if, insert_arm, store_some_cursor, open_table, cursor_arm}
use Rattle.model.specs.Explain.{arm, at_row, ways}
use Rattle.model.specs.Refusals.{of_row}
use Rattle.model.proofs.Refuses.{Refuses, refusal, value, ◌>>◌, refused_by}

-- what is tried is refused with a row's number, or is done
abbrev Numbered : {A : Type 0} → Tried A → Type 0
Numbered t = Refuses (λ k. of_row k ≡ true) t

-- accesses
index_if_lem : (b : Bool) (k : ℕ) → Numbered (index_if b k)
unfolding of_row
index_if_lem true k = value
index_if_lem false k = refusal refl

an_index : (i : ℤ) → Numbered (index i)
unfolding index of_row
an_index (pos k) = index_if_lem (leb k 65535) k
an_index (negsuc k) = refusal refl

a_count : (i : ℤ) → Numbered (count_of i)
unfolding count_of of_row
a_count (pos k) = value
a_count (negsuc k) = refusal refl

depth_if_lem : {A : Type 0} (b : Bool) (v : A) → Numbered (depth_if b v)
unfolding of_row
depth_if_lem true v = value
depth_if_lem false v = refusal refl

cells_if_lem : (b : Bool) (m : MemoryState) → Numbered (cells_if b m)
unfolding of_row
cells_if_lem true m = value
cells_if_lem false m = refusal refl

text_if_lem : (b : Bool) (p4 : List ℕ) → Numbered (text_if b p4)
unfolding of_row
text_if_lem true p4 = value
text_if_lem false p4 = refusal refl

a_text : (p4 : List ℕ) → Numbered (text_of p4)
unfolding text_of
a_text p4 = text_if_lem (is_utf8 p4) p4

module _ (i : ℤ) (m : MemoryState) where
  register_read : Numbered (read_register i m)
  unfolding read_register
  register_read = an_index i >> λ k. value

  cursor_read : Numbered (read_cursor i m)
  unfolding read_cursor
  cursor_read = an_index i >> λ k. value

  register_updated : (f : RegDataType → RegDataType) → Numbered (update_register i f m)
  unfolding update_register
  register_updated f = an_index i >> λ k. value

  register_removed : Numbered (remove_register i m)
  unfolding remove_register
  register_removed = an_index i >> λ k. value

columns-read : (n : ℕ) (i : ℤ) (m : MemoryState) → Numbered (read_columns n i m)
unfolding read_columns
columns-read zero i m = value
columns-read (suc n) i m = register_read i m >> λ v. (columns-read n (suc_ℤ i) m >> λ cs. value)

module _ (limit : ℕ) where
  few_cells : (m : MemoryState) → Numbered (judge_cells limit m)
  unfolding judge_cells
  few_cells m = cells_if_lem (leb (cells m) limit) m

  register_stored : (i : ℤ) (v : RegDataType) (m : MemoryState) → Numbered (store_register limit i v m)
  unfolding store_register judge_depth
  register_stored i v m = an_index i >> λ k. (depth_if_lem (leb (register_depth v) 8) v >> λ w. few_cells (with_registers (insert k w m.r) m))

  cursor_stored : (i : ℤ) (c : CursorDataType) (m : MemoryState) → Numbered (store_cursor limit i c m)
  unfolding store_cursor
  cursor_stored i c m = an_index i >> λ k. few_cells (with_cursors (insert k c m.p) m)

  table_stored : (row : ℕ) (t : TableDataType) (m : MemoryState) → Numbered (store_table limit row t m)
  unfolding store_table judge_depth
  table_stored row t m = depth_if_lem (leb (columns_depth t.cols) 8) t >> λ u. few_cells (with_tables (insert row u m.t) m)

  -- loops over registers
  some_stored : (i : ℤ) (f : RegDataType → RegDataType) (v : Option RegDataType) (m : MemoryState) → Numbered (store_some limit i f v m)
  some_stored i f None m = value
  some_stored i f (Some v) m = register_stored i (f v) m

  copied : (i j : ℤ) (f : RegDataType → RegDataType) (m : MemoryState) → Numbered (copy_to limit i j f m)
  unfolding copy_to
  copied i j f m = register_read i m >> λ v. some_stored j f v m

  many_copied : (n : ℕ) (i j : ℤ) (m : MemoryState) → Numbered (copy_many limit n i j m)
  unfolding copy_many
  many_copied zero i j m = value
  many_copied (suc n) i j m = copied i j (λ v. v) m >> λ s. many_copied n (suc_ℤ i) (suc_ℤ j) s

  some_moved : (i j : ℤ) (v : Option RegDataType) (m : MemoryState) → Numbered (move_some limit i j v m)
  some_moved i j None m = value
  some_moved i j (Some v) m = register_stored j v m >> λ s. register_stored i (Column null) s

  many_moved : (n : ℕ) (i j : ℤ) (m : MemoryState) → Numbered (move_many limit n i j m)
  unfolding move_many
  many_moved zero i j m = value
  many_moved (suc n) i j m = register_read i m >> λ v. (some_moved i j v m >> λ s. many_moved n (suc_ℤ i) (suc_ℤ j) s)

  many_nulled : (n : ℕ) (i : ℤ) (m : MemoryState) → Numbered (null_many limit n i m)
  unfolding null_many
  many_nulled zero i m = value
  many_nulled (suc n) i m = register_stored i (Column null) m >> λ s. many_nulled n (suc_ℤ i) s

  -- P4's texts
  function_stored : (x : Row) (m : MemoryState) (f : Option FunctionValue) → Numbered (function_arm limit x m f)
  function_stored x m None = value
  function_stored x m (Some f) = register_stored x.p3 _ m

  step_stored : (x : Row) (m : MemoryState) (a : Aggregate) → Numbered (agg_step_arm limit x m a)
  step_stored x m to_integer = register_stored x.p3 _ m
  step_stored x m to_real = register_stored x.p3 _ m
  step_stored x m to_sum = copied x.p2 x.p3 _ m
  step_stored x m to_other_row = copied x.p2 x.p3 _ m
  step_stored x m to_operand = copied x.p2 x.p3 _ m

  final_stored : (x : Row) (m : MemoryState) (a : Aggregate) → Numbered (agg_final_arm limit x m a)
  final_stored x m to_integer = register_stored x.p1 _ m
  final_stored x m to_real = register_stored x.p3 _ m
  final_stored x m to_sum = value
  final_stored x m to_other_row = copied x.p2 x.p3 _ m
  final_stored x m to_operand = value

  -- cursors and tables
  stored_into : (row : ℕ) (cs : Columns) (t : Option TableDataType) (m : MemoryState) → Numbered (store_into limit row cs t m)
  stored_into row cs None m = value
  stored_into row cs (Some t) m = table_stored row _ m

  record_inserted : (cs : Columns) (c : Option CursorDataType) (m : MemoryState) → Numbered (insert_record limit cs c m)
  unfolding insert_record
  record_inserted cs None m = value
  record_inserted cs (Some (Normal row)) m = stored_into row cs (get row m.t) m
  record_inserted cs (Some (Pseudo i)) m = value

  null_inserted : (b : Bool) (x : Row) (m : MemoryState) → Numbered (insert_null_if b x m)
  null_inserted true x m = cursor_read x.p1 m >> λ c. value
  null_inserted false x m = value

  inserted : (x : Row) (m : MemoryState) (v : Option RegDataType) → Numbered (insert_arm limit x m v)
  unfolding insert_arm
  inserted x m None = value
  inserted x m (Some (Column (Single d n))) = null_inserted (is_null_type d) x m
  inserted x m (Some (Column (Record cs))) = cursor_read x.p1 m >> λ c. record_inserted cs c m
  inserted x m (Some (Int i)) = value

  cursor_shared : (i : ℤ) (c : Option CursorDataType) (m : MemoryState) → Numbered (store_some_cursor limit i c m)
  cursor_shared i None m = value
  cursor_shared i (Some c) m = cursor_stored i c m

  table_opened : (row : ℕ) (x : Row) (t : TableDataType) (m : MemoryState) → Numbered (open_table limit row x t m)
  unfolding open_table
  table_opened row x t m = table_stored row t m >> λ s. cursor_stored x.p1 (Normal row) s

columns_of_lem : (c : Option CursorDataType) (m : MemoryState) → Numbered (cursor_columns c m)
unfolding cursor_columns
columns_of_lem None m = value
columns_of_lem (Some (Normal row)) m = value
columns_of_lem (Some (Pseudo i)) m = register_read i m >> λ v. value

one_column : (i : ℤ) (cs : Option Columns) → Numbered (column_of i cs)
unfolding column_of
one_column i None = value
one_column i (Some cs) = an_index i >> λ k. value

columns_nulled : (c : Option CursorDataType) (m : MemoryState) → Numbered (null_columns c m)
unfolding null_columns
columns_nulled None m = value
columns_nulled (Some (Normal row)) m = value
columns_nulled (Some (Pseudo i)) m = register_updated i m null_record

module _ (meaning : Meaning) (x : Row) (m : MemoryState) where
  register_arm_lem : (o : RegisterOperation) → Numbered (register_arm meaning x m o)
  unfolding register_arm
  register_arm_lem op_make_record = a_count x.p2 >> λ n. (columns-read n x.p1 m >> λ cs. register_stored meaning.cell_limit x.p3 _ m)
  register_arm_lem op_variable = register_stored meaning.cell_limit x.p2 _ m
  register_arm_lem op_halt_if_null = register_updated x.p3 m _
  register_arm_lem op_function = a_text x.p4 >> λ text. function_stored meaning.cell_limit x m (meaning.function_for text)
  register_arm_lem op_agg_step = a_text x.p4 >> λ text. step_stored meaning.cell_limit x m (aggregate_of text)
  register_arm_lem op_agg_final = a_text x.p4 >> λ text. final_stored meaning.cell_limit x m (aggregate_of text)
  register_arm_lem op_cast = register_updated x.p1 m _
  register_arm_lem op_copy_one = copied meaning.cell_limit x.p1 x.p2 _ m
  register_arm_lem op_copy = many_copied meaning.cell_limit (turns (suc_ℤ x.p3)) x.p1 x.p2 m
  register_arm_lem op_move = many_moved meaning.cell_limit (turns x.p3) x.p1 x.p2 m
  register_arm_lem op_integer = register_stored meaning.cell_limit x.p2 _ m
  register_arm_lem op_null = many_nulled meaning.cell_limit (null_turns x) x.p2 m
  register_arm_lem op_arithmetic = register_read x.p1 m >> λ a. (register_read x.p2 m >> λ b. register_stored meaning.cell_limit x.p3 _ m)
  register_arm_lem (op_constant d) = register_stored meaning.cell_limit x.p2 _ m

  cursor_arm_lem : (row : ℕ) (o : CursorOperation) → Numbered (cursor_arm meaning row x m o)
  unfolding cursor_arm
  cursor_arm_lem row op_column =
      cursor_read x.p1 m >> λ c. (columns_of_lem c m >> λ cs. (one_column x.p2 cs >> λ v. register_stored meaning.cell_limit x.p3 _ m))
  cursor_arm_lem row op_row_data = cursor_read x.p1 m >> λ c. (columns_of_lem c m >> λ cs. register_stored meaning.cell_limit x.p2 _ m)
  cursor_arm_lem row op_insert = register_read x.p2 m >> λ v. inserted meaning.cell_limit x m v
  cursor_arm_lem row op_delete = cursor_read x.p1 m >> λ c. value
  cursor_arm_lem row op_open_pseudo = cursor_stored meaning.cell_limit x.p1 _ m
  cursor_arm_lem row op_open_dup = cursor_read x.p2 m >> λ c. cursor_shared meaning.cell_limit x.p1 c m
  cursor_arm_lem row op_open_read = table_opened meaning.cell_limit row x _ m
  cursor_arm_lem row op_open_ephemeral = a_count x.p2 >> λ n. table_opened meaning.cell_limit row x _ m
  cursor_arm_lem row op_null_row = cursor_read x.p1 m >> λ c. columns_nulled c m

-- jumps
store_if_lem : (b : Bool) (limit : ℕ) (i n : ℤ) (m : MemoryState) → Numbered (store_if b limit i n m)
store_if_lem true limit i n m = register_stored limit i (Int n) m
store_if_lem false limit i n m = value

module _ (limit : ℕ) (rows : List Row) (x : Row) (m : MemoryState) where
  branch_stored : Numbered (if_branch limit x m)
  unfolding if_branch
  branch_stored = store_if_lem (is_zero_int x.p3) limit x.p1 (pos 1) (go_to x.p2 m)

  stay_stored : Numbered (if_stay limit x m)
  unfolding if_stay
  stay_stored = store_if_lem (is_zero_int x.p3) limit x.p1 (pos 0) (next m)

  if_known_lem : (b : Bool) → Numbered (if_known limit x m b)
  if_known_lem true = stay_stored >> λ s. value
  if_known_lem false = branch_stored >> λ s. value

  if_arm_lem : (n : Option ℤ) → Numbered (if_arm limit x m n)
  unfolding if_arm
  if_arm_lem None = branch_stored >> λ b. (stay_stored >> λ s. value)
  if_arm_lem (Some n) = if_known_lem (is_zero_int n)

  rewound : (c : Option CursorDataType) → Numbered (rewind_cursor x m c)
  unfolding rewind_cursor
  rewound None = value
  rewound (Some c) = value

  rewind_if_lem : (b : Bool) → Numbered (rewind_if b x m)
  rewind_if_lem true = value
  rewind_if_lem false = cursor_read x.p1 m >> rewound

  ended_to : (target : Option ℤ) → Numbered (end_coroutine_to x m target)
  ended_to None = value
  ended_to (Some target) = register_removed x.p1 (go_to target m) >> λ s. value

  end_coroutine : (n : Option ℤ) → Numbered (end_coroutine_arm rows x m n)
  unfolding end_coroutine_arm
  end_coroutine None = value
  end_coroutine (Some i) = ended_to (yield_target (row_at rows i))

  return_else_lem : (b : Bool) → Numbered (return_else b m)
  return_else_lem true = value
  return_else_lem false = value

  returned : (n : Option ℤ) → Numbered (return_arm x m n)
  unfolding return_arm
  returned None = return_else_lem (eq_int x.p3 (pos 1))
  returned (Some i) = register_removed x.p1 (go_to (suc_ℤ i) m) >> λ s. value

  yielded : (n : Option ℤ) → Numbered (yield_arm rows x m n)
  unfolding yield_arm
  yielded None = value
  yielded (Some i) = register_updated x.p1 _ _ >> λ s. value

  -- a register is read, and changed in two ways
  two_ways :
      (f g : RegDataType → RegDataType) (rest : Option RegDataType → MemoryState → MemoryState → Offer) →
      ((v : Option RegDataType) (b s : MemoryState) → Numbered (rest v b s)) →
      Numbered (read_register x.p1 m >>= λ v. update_register x.p1 f (go_to x.p2 m) >>= λ b. update_register x.p1 g (next m) >>= λ s. rest v b s)
  two_ways f g rest h =
      register_read x.p1 m >> λ v. (register_updated x.p1 (go_to x.p2 m) f >> λ b. (register_updated x.p1 (next m) g >> λ s. h v b s))

  jump_arm_lem : (o : JumpOperation) → Numbered (jump_arm limit rows x m o)
  unfolding jump_arm is_null_arm not_null_arm
  jump_arm_lem op_goto = value
  jump_arm_lem op_gosub = register_stored limit x.p1 _ m >> λ s. value
  jump_arm_lem op_branch = value
  jump_arm_lem op_is_null = two_ways _ _ _ (λ v b s. value)
  jump_arm_lem op_not_null = two_ways _ _ _ (λ v b s. value)
  jump_arm_lem op_must_be_int = value
  jump_arm_lem op_if = register_read x.p1 m >> λ v. if_arm_lem (known_int v)
  jump_arm_lem op_rewind = rewind_if_lem (is_zero_int x.p2)
  jump_arm_lem op_init_coroutine = register_stored limit x.p1 _ m >> λ s. value
  jump_arm_lem op_end_coroutine = register_read x.p1 m >> λ v. end_coroutine (known_int v)
  jump_arm_lem op_return = register_read x.p1 m >> λ v. returned (known_int v)
  jump_arm_lem op_yield = register_read x.p1 m >> λ v. yielded (known_int v)
  jump_arm_lem op_jump = value
  jump_arm_lem op_halt = value

  if_pos_arm_lem : (again : Bool) → Numbered (if_pos_arm again x m)
  unfolding if_pos_arm
  if_pos_arm_lem again = two_ways _ _ _ (λ v b s. value)

result_if_lem : (b : Bool) (row : ℕ) (x : Row) (m : MemoryState) → Numbered (result_if b row x m)
unfolding of_row
result_if_lem true row x m = columns-read (turns x.p2) x.p1 m >> λ cs. value
result_if_lem false row x m = refusal refl

module _ (meaning : Meaning) (rows : List Row) (again : Bool) (m : MemoryState) where
  any_arm : (x : Row) (o : Operation) → Numbered (arm meaning rows again m x o)
  unfolding arm result_row_arm
  any_arm x (jumps o) = jump_arm_lem meaning.cell_limit rows x m o
  any_arm x op_if_pos = if_pos_arm_lem meaning.cell_limit rows x m again
  any_arm x (registers o) = register_arm_lem meaning x m o >> λ s. value
  any_arm x (cursors o) = cursor_arm_lem meaning x m (turns m.program_i) o >> λ s. value
  any_arm x op_result_row = result_if_lem (leb (turns x.p2) 2000) (turns m.program_i) x m
  any_arm x no_arm = value

  at_row_lem : (o : Option Row) → Numbered (at_row meaning rows again m o)
  at_row_lem None = value
  at_row_lem (Some x) = any_arm x (operation_of x.op)

  pub row_refusals : (k : ℕ) → ways meaning rows again m ≡ refused k → of_row k ≡ true
  unfolding ways
  row_refusals k e = refused_by (at_row_lem (row_at rows m.program_i)) e
