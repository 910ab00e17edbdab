-- `Walk::take_up` loads what was taken. Assumes nothing.
use mathlib.Core.Path.{sym, subst}
use borrow.Author.Rules.{rules}
use Rattle.walk.specs.Loop.{TakesUp}
use Rattle.walk.proofs.UpLaws.{none_left, may_load, is_current}
use Rattle.walk.proofs.Walk.take_up.Goals as goal

pub returns-in_err-at : goal.returns-in_err-at
returns-in_err-at c = subst (TakesUp _ _ _ _ _) (sym c.from_residual.ensures) (none_left _ _ _ _ c.in_err-at.ensures)

pub load-requires : goal.load-requires
load-requires c = may_load _ _ _ _ _ c.in_ok-at.ensures _ c.layout.ensures c.requires

pub returns : goal.returns
returns c = is_current _ _ _ _ _ c.in_ok-at.ensures _ c.layout.ensures _ _ (search rules) c.type_inv.area c.load.ensures
