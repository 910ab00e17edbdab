-- The arms of `explain` that name the next row themselves, add branches, or end the branch (`continue` and `break` in explain.rs); IfPos
-- and ResultRow have files of their own. "IsNull, NotNull on an absent register: no successor." "Return to −1 + 1 is row 0."
-- "Jump adds three branches and also goes on to the next row." (01, "The rows") Assumes nothing.
use Rattle.std.specs.Prelude.{Bool, true, false, not, List, [], ◌∷◌, ℕ, ℤ, pos, Option, None, Some}
use Rattle.std.proofs.Math.IntN.{suc_ℤ}
use Rattle.type_info.specs.Ascii.{ascii, equals}
use Rattle.model.specs.Walk.{Tried, done}
use Rattle.model.specs.Row.{Row}
use Rattle.model.specs.State.{RegDataType, Column, Int, CursorDataType, MemoryState, default, map_to_datatype, map_to_nullable, to_not_null, is_true, is_false, is_null_type}
use Rattle.model.specs.Equality.{eq_int, is_zero_int}
use Rattle.model.specs.Access.{◌>>=◌, go_to, next, read_register, read_cursor, store_register, update_register, remove_register}
use Rattle.model.specs.Cursor.{cursor_is_empty, update_cursor_table, set_empty}
use Rattle.model.specs.Offer.{Offer, offers, goes_on, ends, branch_if, stay_if, row_at}
use Rattle.model.specs.Operation.{JumpOperation, op_goto, op_gosub, op_branch, op_is_null, op_not_null, op_must_be_int, op_if, op_rewind, op_init_coroutine, op_end_coroutine, op_return, op_yield, op_jump, op_halt}

-- what IsNull and NotNull ask of a register, and the change to one that is null
abbrev pub may_be_null : Option RegDataType → Bool
may_be_null None = false
may_be_null (Some v) = not (is_false (map_to_nullable v))

abbrev pub has_kind : Option RegDataType → Bool
has_kind None = false
has_kind (Some v) = not (is_null_type (map_to_datatype v))

abbrev pub to_default : RegDataType → RegDataType
to_default v = Column default

unfoldable pub is_null_arm : Row → MemoryState → Offer
is_null_arm x m =
    read_register x.p1 m >>= λ v.
    update_register x.p1 to_default (go_to x.p2 m) >>= λ branch.
    update_register x.p1 to_not_null (next m) >>= λ stays.
    offers (branch_if (may_be_null v) branch) (stay_if (may_be_null v) stays)

unfoldable pub not_null_arm : Row → MemoryState → Offer
not_null_arm x m =
    read_register x.p1 m >>= λ v.
    update_register x.p1 to_not_null (go_to x.p2 m) >>= λ branch.
    update_register x.p1 to_default (next m) >>= λ stays.
    offers (branch_if (has_kind v) branch) (stay_if (may_be_null v) stays)

-- the number that a register is known to hold
abbrev pub known_int : Option RegDataType → Option ℤ
known_int None = None
known_int (Some (Column c)) = None
known_int (Some (Int i)) = Some i

-- a number goes into a register, where a test says so
abbrev pub store_if : Bool → ℕ → ℤ → ℤ → MemoryState → Tried MemoryState
store_if true limit i n m = store_register limit i (Int n) m
store_if false limit i n m = done m

abbrev pub init_coroutine_to : Bool → Row → MemoryState → MemoryState
init_coroutine_to true x m = next m
init_coroutine_to false x m = go_to x.p2 m

module _ (limit : ℕ) (x : Row) (m : MemoryState) where
  -- If's two ways: "if p3 == 0" the register's number is known from then on
  unfoldable pub if_branch : Tried MemoryState
  if_branch = store_if (is_zero_int x.p3) limit x.p1 (pos 1) (go_to x.p2 m)

  unfoldable pub if_stay : Tried MemoryState
  if_stay = store_if (is_zero_int x.p3) limit x.p1 (pos 0) (next m)

  abbrev pub if_known : Bool → Offer
  if_known true = if_stay >>= λ stays. goes_on stays
  if_known false = if_branch >>= λ branch. offers (branch ∷ []) None

  unfoldable pub if_arm : Option ℤ → Offer
  if_arm None = if_branch >>= λ branch. if_stay >>= λ stays. offers (branch ∷ []) (Some stays)
  if_arm (Some n) = if_known (is_zero_int n)

-- Rewind, Last, Sort, SorterSort
unfoldable pub rewind_cursor : Row → MemoryState → Option CursorDataType → Offer
rewind_cursor x m None = ends
rewind_cursor x m (Some c) =
    offers
    (branch_if (not (is_false (cursor_is_empty c m))) (update_cursor_table (set_empty (Some true)) (Some c) (go_to x.p2 m)))
    (stay_if (not (is_true (cursor_is_empty c m))) (next m))

abbrev pub rewind_if : Bool → Row → MemoryState → Offer
rewind_if true x m = goes_on (next m)
rewind_if false x m = read_cursor x.p1 m >>= rewind_cursor x m

-- EndCoroutine, Return, Yield
unfoldable pub is_yield : Row → Bool
is_yield x = equals x.op (ascii "Yield")

abbrev pub target_if : Bool → Row → Option ℤ
target_if true x = Some x.p2
target_if false x = None

-- where the Yield row at a number goes, if there is one
abbrev pub yield_target : Option Row → Option ℤ
yield_target None = None
yield_target (Some x) = target_if (is_yield x) x

abbrev pub row_after_yield : Option ℤ → ℤ → ℤ
row_after_yield None i = i
row_after_yield (Some target) i = suc_ℤ i

abbrev pub return_else : Bool → MemoryState → Offer
return_else true m = goes_on (next m)
return_else false m = ends

module _ (x : Row) (m : MemoryState) where
  unfoldable pub return_arm : Option ℤ → Offer
  return_arm None = return_else (eq_int x.p3 (pos 1)) m
  return_arm (Some i) = remove_register x.p1 (go_to (suc_ℤ i) m) >>= λ s. goes_on s

  abbrev pub end_coroutine_to : Option ℤ → Offer
  end_coroutine_to None = ends
  end_coroutine_to (Some target) = remove_register x.p1 (go_to target m) >>= λ s. goes_on s

module _ (rows : List Row) (x : Row) (m : MemoryState) where
  unfoldable pub end_coroutine_arm : Option ℤ → Offer
  end_coroutine_arm None = ends
  end_coroutine_arm (Some i) = end_coroutine_to x m (yield_target (row_at rows i))

  unfoldable pub yield_arm : Option ℤ → Offer
  yield_arm None = ends
  yield_arm (Some i) =
      update_register x.p1 (λ v. Int m.program_i) (go_to (row_after_yield (yield_target (row_at rows i)) i) m) >>= λ s. goes_on s

module _ (limit : ℕ) (rows : List Row) (x : Row) (m : MemoryState) where
  unfoldable pub jump_arm : JumpOperation → Offer
  jump_arm op_goto = goes_on (go_to x.p2 m)
  jump_arm op_gosub = store_register limit x.p1 (Int m.program_i) m >>= λ s. goes_on (go_to x.p2 s)
  jump_arm op_branch = offers (go_to x.p2 m ∷ []) (Some (next m))
  jump_arm op_is_null = is_null_arm x m
  jump_arm op_not_null = not_null_arm x m
  jump_arm op_must_be_int = offers (branch_if (not (is_zero_int x.p2)) (go_to x.p2 m)) (Some (next m))
  jump_arm op_if = read_register x.p1 m >>= λ v. if_arm limit x m (known_int v)
  jump_arm op_rewind = rewind_if (is_zero_int x.p2) x m
  jump_arm op_init_coroutine = store_register limit x.p1 (Int x.p3) m >>= λ s. goes_on (init_coroutine_to (is_zero_int x.p2) x s)
  jump_arm op_end_coroutine = read_register x.p1 m >>= λ v. end_coroutine_arm rows x m (known_int v)
  jump_arm op_return = read_register x.p1 m >>= λ v. return_arm x m (known_int v)
  jump_arm op_yield = read_register x.p1 m >>= λ v. yield_arm rows x m (known_int v)
  jump_arm op_jump = offers (go_to x.p1 m ∷ go_to x.p2 m ∷ go_to x.p3 m ∷ []) (Some (next m))
  jump_arm op_halt = ends
