-- `explain::fall_row` reads the row that the state stands on. Assumes nothing.
use mathlib.Core.Path.{sym, subst}
use Rattle.explain.specs.Numbers.{NumberArm}
use Rattle.explain.proofs.HandlingLaws.{alone_handles, row_handles}
use Rattle.explain.proofs.fall_row.Goals as goal

pub returns : goal.returns
returns c = (
  c.fall-stored.ensures.0,
  record { handles = λ again. row_handles c.row_of-x.ensures (alone_handles _ (subst (NumberArm _ _ _ _ _ _ _ _ _) (sym c.falls_through.ensures) (c.fall-stored.ensures.1 _ _))) },
)
