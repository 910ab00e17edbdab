-- `type_info::utf8::state_after`: an entry of the table. Assumes nothing.
use Rattle.type_info.proofs.Tables.{states_right}
use Rattle.type_info.proofs.utf8.state_after.Goals as goal

pub returns : goal.returns
returns c = rw (c.from.ensures, c.from-2.ensures) (states_right.at c.args.state c.args.class c.requires.0 c.requires.1)
