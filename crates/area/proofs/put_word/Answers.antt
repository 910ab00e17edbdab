-- `area::put_word` writes the eight bytes of the word. Assumes nothing.
use native.Mathlib.Omega.{arith}
use Rattle.area.proofs.WordLaws.{word_fits, words-set}
use Rattle.area.proofs.put_word.Goals as goal

pub overflow_mul-i : goal.overflow_mul-i
overflow_mul-i c = omega (arith, word_fits _ _ c.requires.within)

pub put_from-requires : goal.put_from-requires
put_from-requires c = word_fits _ _ c.requires.within

pub returns : goal.returns
returns c = words-set _ _ _ _ c.requires.within c.ranges.v.fits c.put_from.ensures
