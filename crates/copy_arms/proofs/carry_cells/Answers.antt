-- What is left of `carry_cells`, by the invariant of Invariants.antt. Assumes nothing.
use mathlib.Core.Path.{◌≡◌, subst}
use Rattle.copy_arms.specs.InPlace.{CarriesRun}
use native.Mathlib.Omega.{arith}
use Rattle.copy_arms.proofs.TurnLaws.{carrying_first, carrying_on, carrying_end}
use Rattle.copy_arms.proofs.carry_cells.Goals as goal

pub loop-done-init : goal.loop-done-init
loop-done-init c = carrying_first _ _ _ _ _ _ _ c.requires.0 c.requires.1 c.requires.2

pub loop-done-preserved : goal.loop-done-preserved
loop-done-preserved c = carrying_on c.loop-done.invariant (c.is_alone.ensures c.if-not-is_alone.false) (c.is_alone-in-loop-done.ensures c.if-not-is_alone-2.false) c.carry_cell.ensures

pub returns : goal.returns
returns c = let e : c.loop-done.done ≡ c.args.n = omega arith in subst (CarriesRun _ _ _ _ _ _ c.args.n) e (carrying_end _ c.loop-done.invariant (omega arith))
