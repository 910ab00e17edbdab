-- The arm IfPos of `explain`, the one that asks whether its row is handled again. 01, "The rows": "IfPos at the second or third handling of
-- a row in a lineage follows both ways; a known number of 1 or more becomes an unknown Integer when it stays, a smaller one is kept. Each such
-- handling counts one repeat." Assumes nothing.
use Rattle.std.specs.Prelude.{Bool, true, false, not, ◌||◌, zero, suc, ℤ, pos, negsuc, Option, None, Some}
use Rattle.std.proofs.Math.IntN.{pred_ℤ}
use Rattle.type_info.specs.declared.DataType.TheVariants.{Integer}
use Rattle.model.specs.Walk.{done}
use Rattle.model.specs.Row.{Row}
use Rattle.model.specs.State.{RegDataType, Column, Int, MemoryState, never_null}
use Rattle.model.specs.Access.{◌>>=◌, go_to, next, read_register, update_register}
use Rattle.model.specs.Offer.{Offer, branch_if}

abbrev pub is_positive : ℤ → Bool
is_positive (pos zero) = false
is_positive (pos (suc k)) = true
is_positive (negsuc k) = false

-- the Rust's `might_branch` and `might_not_branch`
abbrev pub may_be_positive : Option RegDataType → Bool
may_be_positive None = true
may_be_positive (Some (Column c)) = true
may_be_positive (Some (Int i)) = is_positive i

abbrev pub may_not_be_positive : Option RegDataType → Bool
may_not_be_positive None = true
may_not_be_positive (Some (Column c)) = true
may_not_be_positive (Some (Int i)) = not (is_positive i)

abbrev pub count_down : RegDataType → RegDataType
count_down (Column c) = Column c
count_down (Int i) = Int (pred_ℤ i)

-- "forget the exact value, in case some later cares"
abbrev pub forget : RegDataType → RegDataType
forget (Column c) = Column c
forget (Int i) = never_null Integer

abbrev pub if_pos_stays : Bool → Bool → MemoryState → MemoryState → Option MemoryState
if_pos_stays true again kept forgotten = Some kept
if_pos_stays false true kept forgotten = Some forgotten
if_pos_stays false false kept forgotten = None

unfoldable pub if_pos_arm : Bool → Row → MemoryState → Offer
if_pos_arm again x m =
    read_register x.p1 m >>= λ v.
    update_register x.p1 count_down (go_to x.p2 m) >>= λ branch.
    update_register x.p1 forget (next m) >>= λ forgotten.
    done (record {
      branches = branch_if (may_be_positive v || again) branch;
      stays = if_pos_stays (may_not_be_positive v) again (next m) forgotten;
      result = None;
      repeat = again;
    })
