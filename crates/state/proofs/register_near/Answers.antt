-- `state::register_near` judges the index and looks for its key. Assumes nothing.
use mathlib.Core.Path.{sym, ◌∙◌}
use Rattle.state.proofs.OwnLaws.{was_ok, gets_near}
use Rattle.state.proofs.register_near.Goals as goal

pub returns : goal.returns
returns c = gets_near c.judge_index.ensures (was_ok (sym c.ok.ensures.value ∙ c.in_ok-k.was)) c.class_key.ensures c.near_first.ensures
