-- Only IfPos asks whether its row is handled again, and it counts a repeat when it does: a handling that counts no repeat offers what a
-- first handling offers. Assumes nothing.
use mathlib.Core.Path.{◌≡◌, refl, sym, ◌∙◌}
use mathlib.Core.Bool.{true, false, true≢false}
use Rattle.std.specs.Prelude.{Option, None, Some}
use mathlib.Core.List.{List}
use Rattle.model.specs.Walk.{done, Ways}
use Rattle.model.specs.Row.{Row}
use Rattle.model.specs.State.{MemoryState}
use Rattle.model.specs.Access.{go_to, next, read_register, update_register}
use Rattle.model.specs.Results.{ResultRow}
use Rattle.model.specs.Meaning.{Meaning}
use Rattle.model.specs.Operation.{Operation, jumps, op_if_pos, registers, cursors, op_result_row, no_arm, operation_of}
use Rattle.model.specs.Offer.{row_at}
use Rattle.model.specs.IfPosArm.{if_pos_arm, count_down, forget}
use Rattle.model.specs.Explain.{arm, at_row, ways}
use Rattle.model.proofs.Tried.{Kept, value, ◌>>◌, anything, kept}

-- IfPos counts a repeat whenever it is told of one
if_pos_counts : (x : Row) (m : MemoryState) → Kept (λ (w : Ways MemoryState ResultRow). w.repeat ≡ true) (if_pos_arm true x m)
unfolding if_pos_arm
if_pos_counts x m =
    anything (read_register x.p1 m) >> λ v _.
    anything (update_register x.p1 count_down (go_to x.p2 m)) >> λ branch _.
    anything (update_register x.p1 forget (next m)) >> λ forgotten _.
    value refl

module _ (meaning : Meaning) (rows : List Row) (m : MemoryState) (w : Ways MemoryState ResultRow) (uncounted : w.repeat ≡ false) where
  arm_repeats : (x : Row) (o : Operation) → arm meaning rows true m x o ≡ done w → arm meaning rows true m x o ≡ arm meaning rows false m x o
  unfolding arm
  arm_repeats x (jumps o) e = refl
  arm_repeats x op_if_pos e = absurd (true≢false (sym (kept (if_pos_counts x m) e) ∙ uncounted))
  arm_repeats x (registers o) e = refl
  arm_repeats x (cursors o) e = refl
  arm_repeats x op_result_row e = refl
  arm_repeats x no_arm e = refl

  pub repeats_counted : ways meaning rows true m ≡ done w → ways meaning rows true m ≡ ways meaning rows false m
  unfolding ways
  repeats_counted = go (row_at rows m.program_i)
    where
      go : (o : Option Row) → at_row meaning rows true m o ≡ done w → at_row meaning rows true m o ≡ at_row meaning rows false m o
      go None e = refl
      go (Some x) e = arm_repeats x (operation_of x.op) e
