-- `IntMap::remove_at` judges the index, then takes the entry under its key out. Assumes nothing.
use mathlib.Core.Path.{refl}
use Rattle.refusal.proofs.Passed.{passed}
use Rattle.intmap.proofs.JudgedLaws.{removal_bad, removal_done}
use Rattle.intmap.proofs.IntMap.remove_at.Goals as goal

pub returns-in_err-k : goal.returns-in_err-k
returns-in_err-k c = rw (passed _ _ c.from_residual.ensures.1) (removal_bad _ _ _ _ _ _ c.judge_index.ensures.answer _ c.in_err-k.was refl)

pub returns : goal.returns
returns c = removal_done _ _ _ _ _ _ c.judge_index.ensures.answer _ _ _ c.in_ok-k.was c.class_key.ensures c.requires c.remove.ensures
