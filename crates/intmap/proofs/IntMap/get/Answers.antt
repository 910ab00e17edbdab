-- `IntMap::get` judges the index, then looks for its key. Assumes nothing.
use Rattle.refusal.proofs.Passed.{passed}
use Rattle.intmap.proofs.GetLaws.{get_bad, get_absent, get_at}
use Rattle.intmap.proofs.IntMap.get.Goals as goal

pub returns-in-Ok : goal.returns-in-Ok
returns-in-Ok c = get_at _ _ _ _ _ c.judge_index.ensures.answer c.requires _ c.in_ok-k.was (rw c.class_key.ensures at c.in-Ok.ensures)

pub returns-in_err-k : goal.returns-in_err-k
returns-in_err-k c = rw (passed _ _ c.from_residual.ensures.1) (get_bad _ _ _ _ _ c.judge_index.ensures.answer _ c.in_err-k.was)

pub returns-in-Err : goal.returns-in-Err
returns-in-Err c = get_absent _ _ _ _ _ c.judge_index.ensures.answer c.requires _ c.in_ok-k.was (rw c.class_key.ensures at c.in-Err.ensures)
