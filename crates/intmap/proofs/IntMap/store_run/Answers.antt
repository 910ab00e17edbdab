-- `IntMap::store_run` judges the index, then the run's depth, then inserts it under its key. Assumes nothing.
use mathlib.Core.Path.{refl, ap}
use Prim.Native.Nat.{ℕ}
use native.Mathlib.Omega.{arith}
use Rattle.refusal.proofs.Passed.{passed}
use Rattle.area.specs.Cells.{cells}
use Rattle.intmap.specs.Entries.{span}
use Rattle.intmap.specs.Change.{rekey}
use Rattle.intmap.proofs.JudgedLaws.{store_bad, store_nested, store_tried}
use Rattle.intmap.proofs.IntMap.store_run.Goals as goal

pub returns-then-depth_of-gt8 : goal.returns-then-depth_of-gt8
returns-then-depth_of-gt8 c = store_nested _ _ _ _ _ _ _ _ _ c.judge_index.ensures.answer _ c.in_ok-k.was (omega (arith, c.if-depth_of-gt8.true, c.depth_of.ensures)) refl

pub returns-in_err-k : goal.returns-in_err-k
returns-in_err-k c = rw (passed _ _ c.from_residual.ensures.1) (store_bad _ _ _ _ _ _ _ _ _ c.judge_index.ensures.answer _ c.in_err-k.was refl)

pub returns : goal.returns
returns c = let a = c.args in
    store_tried _ _ _ _ _ _ _ _ _ c.judge_index.ensures.answer _ c.in_ok-k.was _ _ _ (omega (arith, c.if-depth_of-gt8.false, c.depth_of.ensures)) c.class_key.ensures
    (ap (λ (n : ℕ). rekey c.class_key.result (span (cells a.area.now) a.from n)) c.count-n.ensures)
    c.insert_run.ensures
