-- `state::over_register` judges the index. Assumes nothing.
use Rattle.state.proofs.OverLaws.{register_over}
use Rattle.state.proofs.over_register.Goals as goal

pub returns : goal.returns
returns c = register_over c.judge_index.ensures c.in-Ok.is c.over_entry.ensures
