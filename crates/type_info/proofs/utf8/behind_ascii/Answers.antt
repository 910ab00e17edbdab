-- `type_info::utf8::behind_ascii`: what stands before the first byte that is not ASCII is passed, or all, where there is none. Assumes nothing.
use Rattle.type_info.proofs.Automaton.{start_passed}
use Rattle.type_info.proofs.utf8.behind_ascii.Goals as goal

pub returns : goal.returns
returns c = start_passed c.args.s.now _ c.first_other.ensures _ c.unwrap_or.ensures
