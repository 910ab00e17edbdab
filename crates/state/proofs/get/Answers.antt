-- `state::get` judges the index first. Assumes nothing.
use Rattle.refusal.proofs.Passed.{passed}
use Rattle.intmap.proofs.GetLaws.{get_bad}
use Rattle.state.proofs.OwnLaws.{entry_gets, judged_bad, judged_at}
use Rattle.state.proofs.get.Goals as goal

pub returns-in_err-k : goal.returns-in_err-k
returns-in_err-k c =
    rw (passed _ _ c.from_residual.ensures.1) (record { gets = get_bad _ _ _ _ _ c.judge_index.ensures.answer _ c.in_err-k.was; place = judged_bad _ _ _ _ _ c.judge_index.ensures _ c.in_err-k.was })

pub returns : goal.returns
returns c =
    record {
      gets = entry_gets _ _ _ _ _ _ c.judge_index.ensures c.requires.map c.in_ok-k.was _ c.entry_at.ensures;
      place = judged_at _ _ _ _ _ c.judge_index.ensures _ c.in_ok-k.was _ c.entry_at.ensures;
    }
