-- The arms that jump offer good states only. Assumes nothing.
use mathlib.Core.Bool.{Bool, true, false, not, ◌||◌}
use Rattle.std.specs.Prelude.{Option, None, Some}
use mathlib.Core.List.{List, [], ◌∷◌}
use Prim.Native.Nat.{ℕ}
use lib.Dec.{leb}
use lib.IntN.{ℤ, pos, suc_ℤ}
use Rattle.model.specs.Row.{Row}
use Rattle.model.specs.State.{Int, CursorDataType, MemoryState, to_not_null, is_true, is_false}
use Rattle.model.specs.Equality.{eq_int, is_zero_int}
use Rattle.model.specs.Access.{go_to, next, read_cursor, read_columns, store_register}
use Rattle.model.specs.Cursor.{cursor_is_empty, set_empty}
use Rattle.model.specs.Offer.{goes_on, ends, branch_if, stay_if, turns, row_at}
use Rattle.model.specs.Operation.{JumpOperation, op_goto, op_gosub, op_branch, op_is_null, op_not_null, op_must_be_int, op_if, op_rewind, op_init_coroutine, op_end_coroutine, op_return, op_yield, op_jump, op_halt}
use Rattle.model.specs.JumpArms.{may_be_null, has_kind, to_default, is_null_arm, not_null_arm, known_int, store_if, init_coroutine_to, if_branch, if_stay, if_known, if_arm, rewind_cursor, rewind_if, yield_target, row_after_yield, return_else, end_coroutine_to, end_coroutine_arm, return_arm, yield_arm, jump_arm}
use Rattle.model.specs.IfPosArm.{may_be_positive, may_not_be_positive, count_down, forget, if_pos_stays, if_pos_arm}
use Rattle.model.specs.ResultArm.{result_if, result_row_arm}
use Rattle.model.specs.Good.{Good, Each, OnSome, GoodWays}
use Rattle.model.proofs.Tried.{Kept, refusal, value, ◌>>◌, anything}
use Rattle.model.proofs.InPlace.{int_good, to_int, to_default_no_larger, to_not_null_no_larger, count_down_no_larger, forget_no_larger, set_empty_no_larger}
use Rattle.model.proofs.Access.{go_to_good, next_good, read_register_good, store_register_good, update_register_good, update_cursor_table_good, remove_register_good}

branch_good : {limit : ℕ} {m : MemoryState} (b : Bool) → Good limit m → Each (Good limit) (branch_if b m)
branch_good true g = (g, tt)
branch_good false g = tt

stay_good : {limit : ℕ} {m : MemoryState} (b : Bool) → Good limit m → OnSome (Good limit) (stay_if b m)
stay_good true g = g
stay_good false g = tt

pub ends_good : {limit : ℕ} → Kept (GoodWays limit) ends
ends_good = value (record { branches = tt; stays = tt })

module _ {limit : ℕ} {m : MemoryState} (g : Good limit m) where
  pub goes_on_good : Kept (GoodWays limit) (goes_on m)
  goes_on_good = value (record { branches = tt; stays = g })

  -- a number goes into a register
  store_int_good : (i n : ℤ) → Kept (Good limit) (store_register limit i (Int n) m)
  store_int_good i n = store_register_good g i (Int n) (λ h. (int_good n).sorted)

  store_if_good : (b : Bool) (i n : ℤ) → Kept (Good limit) (store_if b limit i n m)
  store_if_good true i n = store_int_good i n
  store_if_good false i n = value g

module _ (limit : ℕ) (rows : List Row) (x : Row) (m : MemoryState) (g : Good limit m) where
  is_null_good : Kept (GoodWays limit) (is_null_arm x m)
  unfolding is_null_arm
  is_null_good =
      read_register_good g x.p1 >> λ v _.
      update_register_good (go_to_good g x.p2) x.p1 to_default to_default_no_larger >> λ branch b.
      update_register_good (next_good g) x.p1 to_not_null to_not_null_no_larger >> λ stays s.
      value (record { branches = branch_good (may_be_null v) b; stays = stay_good (may_be_null v) s })

  not_null_good : Kept (GoodWays limit) (not_null_arm x m)
  unfolding not_null_arm
  not_null_good =
      read_register_good g x.p1 >> λ v _.
      update_register_good (go_to_good g x.p2) x.p1 to_not_null to_not_null_no_larger >> λ branch b.
      update_register_good (next_good g) x.p1 to_default to_default_no_larger >> λ stays s.
      value (record { branches = branch_good (has_kind v) b; stays = stay_good (may_be_null v) s })

  if_branch_good : Kept (Good limit) (if_branch limit x m)
  unfolding if_branch
  if_branch_good = store_if_good (go_to_good g x.p2) (is_zero_int x.p3) x.p1 (pos 1)

  if_stay_good : Kept (Good limit) (if_stay limit x m)
  unfolding if_stay
  if_stay_good = store_if_good (next_good g) (is_zero_int x.p3) x.p1 (pos 0)

  if_good : (n : Option ℤ) → Kept (GoodWays limit) (if_arm limit x m n)
  unfolding if_arm
  if_good None = if_branch_good >> λ branch b. if_stay_good >> λ stays s. value (record { branches = (b, tt); stays = s })
  if_good (Some n) = by (is_zero_int n)
    where
      by : (b : Bool) → Kept (GoodWays limit) (if_known limit x m b)
      by true = if_stay_good >> λ stays s. goes_on_good s
      by false = if_branch_good >> λ branch b. value (record { branches = (b, tt); stays = tt })

  rewind_good : (b : Bool) → Kept (GoodWays limit) (rewind_if b x m)
  unfolding rewind_cursor
  rewind_good true = goes_on_good (next_good g)
  rewind_good false = anything (read_cursor x.p1 m) >> λ c _. by c
    where
      by : (c : Option CursorDataType) → Kept (GoodWays limit) (rewind_cursor x m c)
      by None = ends_good
      by (Some c) =
          value (record {
            branches = branch_good (not (is_false (cursor_is_empty c m))) (update_cursor_table_good (go_to_good g x.p2) (set_empty (Some true)) (set_empty_no_larger (λ t. Some true)) (Some c));
            stays = stay_good (not (is_true (cursor_is_empty c m))) (next_good g);
          })

  init_coroutine_good : (b : Bool) {s : MemoryState} → Good limit s → Good limit (init_coroutine_to b x s)
  init_coroutine_good true h = next_good h
  init_coroutine_good false h = go_to_good h x.p2

  end_coroutine_good : (n : Option ℤ) → Kept (GoodWays limit) (end_coroutine_arm rows x m n)
  unfolding end_coroutine_arm
  end_coroutine_good None = ends_good
  end_coroutine_good (Some i) = by (yield_target (row_at rows i))
    where
      by : (target : Option ℤ) → Kept (GoodWays limit) (end_coroutine_to x m target)
      by None = ends_good
      by (Some target) = remove_register_good (go_to_good g target) x.p1 >> λ s h. goes_on_good h

  return_good : (n : Option ℤ) → Kept (GoodWays limit) (return_arm x m n)
  unfolding return_arm
  return_good None = by (eq_int x.p3 (pos 1))
    where
      by : (b : Bool) → Kept (GoodWays limit) (return_else b m)
      by true = goes_on_good (next_good g)
      by false = ends_good
  return_good (Some i) = remove_register_good (go_to_good g (suc_ℤ i)) x.p1 >> λ s h. goes_on_good h

  yield_good : (n : Option ℤ) → Kept (GoodWays limit) (yield_arm rows x m n)
  unfolding yield_arm
  yield_good None = ends_good
  yield_good (Some i) =
      update_register_good (go_to_good g (row_after_yield (yield_target (row_at rows i)) i)) x.p1 _ (to_int m.program_i) >> λ s h.
      goes_on_good h

  pub jump_good : (o : JumpOperation) → Kept (GoodWays limit) (jump_arm limit rows x m o)
  unfolding jump_arm
  jump_good op_goto = goes_on_good (go_to_good g x.p2)
  jump_good op_gosub = store_int_good g x.p1 m.program_i >> λ s h. goes_on_good (go_to_good h x.p2)
  jump_good op_branch = value (record { branches = branch_good true (go_to_good g x.p2); stays = next_good g })
  jump_good op_is_null = is_null_good
  jump_good op_not_null = not_null_good
  jump_good op_must_be_int = value (record { branches = branch_good (not (is_zero_int x.p2)) (go_to_good g x.p2); stays = next_good g })
  jump_good op_if = read_register_good g x.p1 >> λ v _. if_good (known_int v)
  jump_good op_rewind = rewind_good (is_zero_int x.p2)
  jump_good op_init_coroutine =
      store_int_good g x.p1 x.p3 >> λ s h. goes_on_good (init_coroutine_good (is_zero_int x.p2) h)
  jump_good op_end_coroutine = read_register_good g x.p1 >> λ v _. end_coroutine_good (known_int v)
  jump_good op_return = read_register_good g x.p1 >> λ v _. return_good (known_int v)
  jump_good op_yield = read_register_good g x.p1 >> λ v _. yield_good (known_int v)
  jump_good op_jump =
      let three : Each (Good limit) (go_to x.p1 m ∷ go_to x.p2 m ∷ go_to x.p3 m ∷ []) = (go_to_good g x.p1, (go_to_good g x.p2, (go_to_good g x.p3, tt))) in
      value (record { branches = three; stays = next_good g })
  jump_good op_halt = ends_good

  pub if_pos_good : (again : Bool) → Kept (GoodWays limit) (if_pos_arm again x m)
  unfolding if_pos_arm
  if_pos_good again =
      read_register_good g x.p1 >> λ v _.
      update_register_good (go_to_good g x.p2) x.p1 count_down count_down_no_larger >> λ branch b.
      update_register_good (next_good g) x.p1 forget forget_no_larger >> λ forgotten f.
      value (record { branches = branch_good (may_be_positive v || again) b; stays = stays (may_not_be_positive v) again f })
    where
      stays : (b c : Bool) {s : MemoryState} → Good limit s → OnSome (Good limit) (if_pos_stays b c (next m) s)
      stays true c h = next_good g
      stays false true h = h
      stays false false h = tt

  pub result_row_good : (row : ℕ) → Kept (GoodWays limit) (result_row_arm row x m)
  unfolding result_row_arm
  result_row_good row = by (leb (turns x.p2) 2000)
    where
      by : (b : Bool) → Kept (GoodWays limit) (result_if b row x m)
      by true = anything (read_columns (turns x.p2) x.p1 m) >> λ cs _. value (record { branches = (next_good g, tt); stays = tt })
      by false = refusal
