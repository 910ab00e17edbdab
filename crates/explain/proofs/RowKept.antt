-- The arms that fall through leave the state on its row: `program_i += 1` comes behind them. Assumes nothing.
use mathlib.Core.Path.{refl, ◌∙◌}
use mathlib.Core.Bool.{Bool, true, false}
use Rattle.std.specs.Prelude.{Option, None, Some}
use Prim.Native.Nat.{ℕ, zero, suc}
use lib.Dec.{leb}
use lib.IntN.{ℤ, suc_ℤ}
use Rattle.model.specs.Walk.{Tried}
use Rattle.model.specs.Row.{Row}
use Rattle.model.specs.IntMap.{get}
use Rattle.model.specs.State.{Single, Record, Columns, RegDataType, Column, Int, CursorDataType, Normal, Pseudo, TableDataType, MemoryState, is_null_type}
use Rattle.model.specs.Cells.{cells, columns_depth}
use Rattle.model.specs.Access.{index, judge_depth, cells_if, judge_cells, read_register, read_cursor, read_columns, count_of, store_cursor, store_table, update_table}
use Rattle.model.specs.Cursor.{cursor_columns, update_cursor_table, null_columns}
use Rattle.model.specs.Offer.{turns}
use Rattle.model.specs.Functions.{FunctionValue, text_of, Aggregate, to_integer, to_real, to_sum, to_other_row, to_operand, aggregate_of}
use Rattle.model.specs.Meaning.{Meaning}
use Rattle.model.specs.Operation.{RegisterOperation, CursorOperation, op_make_record, op_variable, op_halt_if_null, op_function, op_agg_step, op_agg_final, op_cast, op_copy_one, op_copy, op_move, op_integer, op_null, op_arithmetic, op_constant, op_column, op_row_data, op_insert, op_delete, op_open_pseudo, op_open_dup, op_open_read, op_open_ephemeral, op_null_row}
use Rattle.model.specs.RegisterArms.{null_turns, store_some, copy_to, copy_many, move_some, move_many, null_many, function_arm, agg_step_arm, agg_final_arm, register_arm}
use Rattle.model.specs.CursorArms.{column_of, insert_null_if, store_into, insert_record, insert_arm, store_some_cursor, open_table, cursor_arm}
use Rattle.model.proofs.Tried.{Kept, refusal, value, ◌>>◌, anything}
use Rattle.jump_arms.proofs.StoreSteps.{SameRow, store-row}
use Rattle.jump_arms.proofs.NullLaws.{update-row}

-- ---- the stores of cursors and tables

judged-row : (limit : ℕ) (m n : MemoryState) → SameRow m n → Kept (SameRow m) (judge_cells limit n)
unfolding judge_cells
judged-row limit m n e = go (leb (cells n) limit)
  where
    go : (t : Bool) → Kept (SameRow m) (cells_if t n)
    go true = value e
    go false = refusal

cursor-store-row : (limit : ℕ) (i : ℤ) (c : CursorDataType) (m : MemoryState) → Kept (SameRow m) (store_cursor limit i c m)
unfolding store_cursor
cursor-store-row limit i c m = anything (index i) >> λ k _. judged-row limit m _ refl

table-store-row : (limit row : ℕ) (t : TableDataType) (m : MemoryState) → Kept (SameRow m) (store_table limit row t m)
unfolding store_table
table-store-row limit row t m = anything (judge_depth (columns_depth t.cols) t) >> λ u _. judged-row limit m _ refl

table-update-row : (f : TableDataType → TableDataType) (c : Option CursorDataType) (m : MemoryState) → SameRow m (update_cursor_table f c m)
unfolding update_cursor_table update_table
table-update-row f None m = refl
table-update-row f (Some (Normal row)) m = refl
table-update-row f (Some (Pseudo i)) m = refl

-- one after the other
then_row : (m n : MemoryState) {t : Tried MemoryState} → SameRow m n → Kept (SameRow n) t → Kept (SameRow m) t
then_row m n e refusal = refusal
then_row m n e (value f) = value (f ∙ e)

-- ---- the arms that write registers

module _ (limit : ℕ) where
  copy_row : (i j : ℤ) (f : RegDataType → RegDataType) (m : MemoryState) → Kept (SameRow m) (copy_to limit i j f m)
  unfolding copy_to
  copy_row i j f m = anything (read_register i m) >> λ v _. by v
    where
      by : (v : Option RegDataType) → Kept (SameRow m) (store_some limit j f v m)
      by None = value refl
      by (Some v) = store-row limit j (f v) m

  move_row : (i j : ℤ) (v : Option RegDataType) (m : MemoryState) → Kept (SameRow m) (move_some limit i j v m)
  move_row i j None m = value refl
  move_row i j (Some v) m = store-row limit j v m >> λ s h. then_row m s h (store-row limit i _ s)

  copies_row : (n : ℕ) (i j : ℤ) (m : MemoryState) → Kept (SameRow m) (copy_many limit n i j m)
  unfolding copy_many
  copies_row zero i j m = value refl
  copies_row (suc n) i j m = copy_row i j (λ v. v) m >> λ s h. then_row m s h (copies_row n (suc_ℤ i) (suc_ℤ j) s)

  moves_row : (n : ℕ) (i j : ℤ) (m : MemoryState) → Kept (SameRow m) (move_many limit n i j m)
  unfolding move_many
  moves_row zero i j m = value refl
  moves_row (suc n) i j m = anything (read_register i m) >> λ v _. move_row i j v m >> λ s h. then_row m s h (moves_row n (suc_ℤ i) (suc_ℤ j) s)

  nulls_row : (n : ℕ) (i : ℤ) (m : MemoryState) → Kept (SameRow m) (null_many limit n i m)
  unfolding null_many
  nulls_row zero i m = value refl
  nulls_row (suc n) i m = store-row limit i _ m >> λ s h. then_row m s h (nulls_row n (suc_ℤ i) s)

  module _ (x : Row) (m : MemoryState) where
    function_row : (f : Option FunctionValue) → Kept (SameRow m) (function_arm limit x m f)
    function_row None = value refl
    function_row (Some f) = store-row limit x.p3 _ m

    step_row : (a : Aggregate) → Kept (SameRow m) (agg_step_arm limit x m a)
    step_row to_integer = store-row limit x.p3 _ m
    step_row to_real = store-row limit x.p3 _ m
    step_row to_sum = copy_row x.p2 x.p3 _ m
    step_row to_other_row = copy_row x.p2 x.p3 _ m
    step_row to_operand = copy_row x.p2 x.p3 _ m

    final_row : (a : Aggregate) → Kept (SameRow m) (agg_final_arm limit x m a)
    final_row to_integer = store-row limit x.p1 _ m
    final_row to_real = store-row limit x.p3 _ m
    final_row to_sum = value refl
    final_row to_other_row = copy_row x.p2 x.p3 _ m
    final_row to_operand = value refl

module _ (meaning : Meaning) (x : Row) (m : MemoryState) where
  pub register_row : (o : RegisterOperation) → Kept (SameRow m) (register_arm meaning x m o)
  unfolding register_arm
  register_row op_make_record = anything (count_of x.p2) >> λ n _. anything (read_columns n x.p1 m) >> λ cs _. store-row meaning.cell_limit x.p3 _ m
  register_row op_variable = store-row meaning.cell_limit x.p2 _ m
  register_row op_halt_if_null = update-row x.p3 _ m
  register_row op_function = anything (text_of x.p4) >> λ text _. function_row meaning.cell_limit x m (meaning.function_for text)
  register_row op_agg_step = anything (text_of x.p4) >> λ text _. step_row meaning.cell_limit x m (aggregate_of text)
  register_row op_agg_final = anything (text_of x.p4) >> λ text _. final_row meaning.cell_limit x m (aggregate_of text)
  register_row op_cast = update-row x.p1 _ m
  register_row op_copy_one = copy_row meaning.cell_limit x.p1 x.p2 (λ v. v) m
  register_row op_copy = copies_row meaning.cell_limit (turns (suc_ℤ x.p3)) x.p1 x.p2 m
  register_row op_move = moves_row meaning.cell_limit (turns x.p3) x.p1 x.p2 m
  register_row op_integer = store-row meaning.cell_limit x.p2 _ m
  register_row op_null = nulls_row meaning.cell_limit (null_turns x) x.p2 m
  register_row op_arithmetic = anything (read_register x.p1 m) >> λ a _. anything (read_register x.p2 m) >> λ b _. store-row meaning.cell_limit x.p3 _ m
  register_row (op_constant d) = store-row meaning.cell_limit x.p2 _ m

-- ---- the arms that use a cursor

module _ (limit : ℕ) (m : MemoryState) where
  record_row : (cs : Columns) (c : Option CursorDataType) → Kept (SameRow m) (insert_record limit cs c m)
  unfolding insert_record
  record_row cs None = value refl
  record_row cs (Some (Normal row)) = by (get row m.t)
    where
      by : (t : Option TableDataType) → Kept (SameRow m) (store_into limit row cs t m)
      by None = value refl
      by (Some t) = table-store-row limit row _ m
  record_row cs (Some (Pseudo i)) = value refl

  insert_row : (x : Row) (v : Option RegDataType) → Kept (SameRow m) (insert_arm limit x m v)
  unfolding insert_arm
  insert_row x None = value refl
  insert_row x (Some (Column (Single d n))) = by (is_null_type d)
    where
      by : (b : Bool) → Kept (SameRow m) (insert_null_if b x m)
      by true = anything (read_cursor x.p1 m) >> λ c _. value (table-update-row _ c m)
      by false = value refl
  insert_row x (Some (Column (Record cs))) = anything (read_cursor x.p1 m) >> λ c _. record_row cs c
  insert_row x (Some (Int i)) = value refl

  dup_row : (i : ℤ) (c : Option CursorDataType) → Kept (SameRow m) (store_some_cursor limit i c m)
  dup_row i None = value refl
  dup_row i (Some c) = cursor-store-row limit i c m

  open_row : (row : ℕ) (x : Row) (t : TableDataType) → Kept (SameRow m) (open_table limit row x t m)
  unfolding open_table
  open_row row x t = table-store-row limit row t m >> λ s h. then_row m s h (cursor-store-row limit x.p1 (Normal row) s)

null-columns-row : (c : Option CursorDataType) (m : MemoryState) → Kept (SameRow m) (null_columns c m)
unfolding null_columns update_table
null-columns-row None m = value refl
null-columns-row (Some (Normal row)) m = value refl
null-columns-row (Some (Pseudo i)) m = update-row i _ m

module _ (meaning : Meaning) (row : ℕ) (x : Row) (m : MemoryState) where
  pub cursor_row : (o : CursorOperation) → Kept (SameRow m) (cursor_arm meaning row x m o)
  unfolding cursor_arm
  cursor_row op_column =
      anything (read_cursor x.p1 m) >> λ c _. anything (cursor_columns c m) >> λ cs _. anything (column_of x.p2 cs) >> λ v _.
      store-row meaning.cell_limit x.p3 _ m
  cursor_row op_row_data = anything (read_cursor x.p1 m) >> λ c _. anything (cursor_columns c m) >> λ cs _. store-row meaning.cell_limit x.p2 _ m
  cursor_row op_insert = anything (read_register x.p2 m) >> λ v _. insert_row meaning.cell_limit m x v
  cursor_row op_delete = anything (read_cursor x.p1 m) >> λ c _. value (table-update-row _ c m)
  cursor_row op_open_pseudo = cursor-store-row meaning.cell_limit x.p1 _ m
  cursor_row op_open_dup = anything (read_cursor x.p2 m) >> λ c _. dup_row meaning.cell_limit m x.p1 c
  cursor_row op_open_read = open_row meaning.cell_limit m row x _
  cursor_row op_open_ephemeral = anything (count_of x.p2) >> λ n _. open_row meaning.cell_limit m row x _
  cursor_row op_null_row = anything (read_cursor x.p1 m) >> λ c _. null-columns-row c m
