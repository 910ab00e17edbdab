-- `area::raise_count` stores the byte of the count, one more. Assumes nothing.
use native.Mathlib.Omega.{arith}
use Rattle.area.specs.Counts.{count}
use Rattle.area.proofs.CountLaws.{count_fits, raised}
use Rattle.area.proofs.raise_count.Goals as goal

pub bounds-area-p : goal.bounds-area-p
bounds-area-p c = count_fits _ _ _ c.requires.inside

pub overflow_add-area : goal.overflow_add-area
unfolding count
overflow_add-area c = omega arith

pub bounds-area-p-2 : goal.bounds-area-p-2
bounds-area-p-2 c = count_fits _ _ _ c.requires.inside

pub returns : goal.returns
returns c = raised _ _ _ c.requires.inside
