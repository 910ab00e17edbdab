-- What is left of `carry_many`, by the invariant of Invariants.antt. Assumes nothing.
use mathlib.Core.Path.{refl, ap}
use native.Mathlib.Omega.{arith}
use Rattle.state.specs.Stores.{stored_in}
use Rattle.state.proofs.Stores.{same_then, same_at, no_refusal}
use Rattle.copy_arms.proofs.StoreLaws.{said_of}
use Rattle.copy_arms.proofs.TurnLaws.{leads_to, turns_run, turns_end, turns_stop, turns_on}
use Rattle.copy_arms.proofs.carry_many.Goals as goal

pub returns-then-done-n : goal.returns-then-done-n
returns-then-done-n c =
    let run = c.carry_run-done.ensures in
    record { same = same_then c.loop-done.invariant.0 run.same; kept = no_refusal; is = leads_to run.map (turns_end _ _ _ _ _ _ (turns_run _ _ _ _ _ _ c.loop-done.invariant.2 _ run.is) (omega (arith, c.if-done-n.true))) }

pub returns-in-Err : goal.returns-in-Err
returns-in-Err c =
    let run = c.carry_run-done.ensures in
    let same = same_then c.loop-done.invariant.0 run.same in
    record { same = same_at _ (same_then same c.carry_register.ensures.same); kept = λ e was. refl; is = turns_stop _ _ _ _ _ _ (turns_run _ _ _ _ _ _ c.loop-done.invariant.2 _ run.is) (omega (arith, run.is.most, c.if-done-n.false)) _ (said_of same.limit run.map c.carry_register.ensures) _ (ap (stored_in c.carry_register.new.store) c.in-Err.is) }

pub loop-done-preserved : goal.loop-done-preserved
loop-done-preserved c =
    let run = c.carry_run-done.ensures in
    let same = same_then c.loop-done.invariant.0 run.same in
    (same_then same c.carry_register.ensures.same, omega (arith, run.is.most, c.if-done-n.false, c.absent.ensures.most), turns_on _ _ _ _ _ _ (turns_run _ _ _ _ _ _ c.loop-done.invariant.2 _ run.is) (omega (arith, run.is.most, c.if-done-n.false)) _ (said_of same.limit run.map c.carry_register.ensures) _ (ap (stored_in c.carry_register.new.store) c.in_default.is) _ c.absent.ensures)

pub returns : goal.returns
returns c = record { same = c.loop-done.invariant.0; kept = no_refusal; is = turns_end _ _ _ _ _ _ c.loop-done.invariant.2 (omega arith) }
