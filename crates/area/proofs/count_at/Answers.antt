-- `area::count_at` reads the byte of the count. Assumes nothing.
use mathlib.Core.Path.{refl}
use Rattle.area.specs.Counts.{count}
use Rattle.area.proofs.CountLaws.{count_fits}
use Rattle.area.proofs.count_at.Goals as goal

pub bounds-area-from : goal.bounds-area-from
bounds-area-from c = count_fits _ _ _ c.requires

pub returns : goal.returns
unfolding count
returns c = refl
