-- `area::word_at` reads the eight bytes of the word. Assumes nothing.
use mathlib.Core.Path.{sym, ◌∙◌}
use native.Mathlib.Omega.{arith}
use Rattle.area.proofs.WordLaws.{word_fits, words-at}
use Rattle.area.proofs.word_at.Goals as goal

pub overflow_mul-i : goal.overflow_mul-i
overflow_mul-i c = omega (arith, word_fits _ _ c.requires.within)

pub word_from-requires : goal.word_from-requires
word_from-requires c = word_fits _ _ c.requires.within

pub returns : goal.returns
returns c = c.word_from.ensures ∙ sym (words-at _ _ c.requires.within)
