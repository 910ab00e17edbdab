-- `IntMap::store_cell` judges the index, then inserts the cell under its key: a cell has no depth to judge. Assumes nothing.
use mathlib.Core.Path.{refl, ap}
use mathlib.Core.List.{[], ◌∷◌}
use native.Mathlib.Omega.{arith}
use Rattle.refusal.proofs.Passed.{passed}
use Rattle.area.specs.declared.Cell.{Cell}
use Rattle.intmap.proofs.JudgedLaws.{store_bad, store_tried}
use Rattle.intmap.proofs.IntMap.store_cell.Goals as goal

pub returns-in_err-k : goal.returns-in_err-k
returns-in_err-k c = rw (passed _ _ c.from_residual.ensures.1) (store_bad _ _ _ _ _ _ _ _ _ c.judge_index.ensures.answer _ c.in_err-k.was refl)

pub returns : goal.returns
returns c = store_tried _ _ _ _ _ _ _ _ _ c.judge_index.ensures.answer _ c.in_ok-k.was _ _ _ (omega arith) c.class_key.ensures (ap (λ (h : Cell). h ∷ []) c.with_key.ensures) c.insert_cell.ensures
