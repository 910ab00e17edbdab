-- `type_info::is_word`: std's test, in the words of specs/Ascii.antt. Assumes nothing.
use Rattle.type_info.proofs.Words.{same_word}
use Rattle.type_info.proofs.is_word.Goals as goal

pub returns : goal.returns
returns c = same_word _ c.args.s.now c.args.word.now c.eq_ignore_ascii_case.ensures.test
