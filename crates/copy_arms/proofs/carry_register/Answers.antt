-- `copy_arms::carry_register` looks for the register, and stores its entry once more, and then null in its place, if it moves. Assumes nothing.
use Rattle.std.specs.Prelude.{Ok}
use mathlib.Core.Path.{refl, ap, ◌∙◌}
use native.Mathlib.Omega.{arith}
use Rattle.refusal.proofs.Passed.{passed}
use Rattle.state.specs.Stores.{stored_in}
use Rattle.state.proofs.LeadsLaws.{reached_last}
use Rattle.state.proofs.ReadLaws.{read_within}
use Rattle.state.proofs.Stores.{untouched, same_then, no_refusal, same_at}
use Rattle.copy_arms.proofs.CopyLaws.{carry_bad, carry_absent, carry_copies, carry_stop, carry_next}
use Rattle.copy_arms.proofs.StoreLaws.{current_at}
use Rattle.copy_arms.proofs.carry_register.Goals as goal

pub cell_at-c-requires : goal.cell_at-c-requires
cell_at-c-requires c = omega (arith, read_within _ _ _ _ c.get.ensures.gets _ (c.in_ok-at.was ∙ ap Ok c.in-Some.is), c.requires.room.room, c.requires.room.most, c.requires.room.small)

pub returns-in_err-at : goal.returns-in_err-at
returns-in_err-at c = rw (passed _ _ c.from_residual.ensures.1) (record { same = untouched; kept = λ e was. refl; is = carry_bad _ _ _ _ c.requires _ c.get.ensures.gets _ _ _ c.in_err-at.was })

pub returns-in_default : goal.returns-in_default
returns-in_default c = record { same = untouched; kept = λ e was. refl; is = carry_absent _ _ _ _ c.requires _ c.get.ensures.gets _ _ (c.in_ok-at.was ∙ ap Ok c.in_default.is) }

pub returns-in_err-store_from : goal.returns-in_err-store_from
returns-in_err-store_from c = rw (passed _ _ c.from_residual-in_err-store_from.ensures.1) (record { same = c.store_from.ensures.same; kept = λ e was. c.store_from.ensures.kept _ c.in_err-store_from.was; is = carry_stop _ _ _ _ c.requires _ c.get.ensures.gets _ _ _ (c.in_ok-at.was ∙ ap Ok c.in-Some.is) _ c.cell_at-c.ensures _ _ c.store_from.ensures.is _ (ap (stored_in c.store_from.new.store) c.in_err-store_from.was) })

pub returns-then-not-moves : goal.returns-then-not-moves
returns-then-not-moves c = record { same = c.store_from.ensures.same; kept = no_refusal; is = carry_copies _ _ _ _ c.requires _ c.get.ensures.gets _ _ _ (c.in_ok-at.was ∙ ap Ok c.in-Some.is) _ c.cell_at-c.ensures _ _ c.in_ok-store_from.ensures.is c.if-not-moves.true }

pub store_single-requires : goal.store_single-requires
store_single-requires c = current_at c.store_from.new.store c.store_from.ensures.same.limit refl (carry_next _ _ _ _ c.requires _ c.get.ensures.gets _ _ _ (c.in_ok-at.was ∙ ap Ok c.in-Some.is) _ c.cell_at-c.ensures _ _ c.store_from.ensures.is c.if-not-moves.false _ (ap (stored_in c.store_from.new.store) c.in_ok-store_from.was)).current

pub returns-in-Err : goal.returns-in-Err
returns-in-Err c =
    let stored = carry_next _ _ _ _ c.requires _ c.get.ensures.gets _ _ _ (c.in_ok-at.was ∙ ap Ok c.in-Some.is) _ c.cell_at-c.ensures _ _ c.store_from.ensures.is c.if-not-moves.false _ (ap (stored_in c.store_from.new.store) c.in_ok-store_from.was) in
    let last = rw (c.store_from.ensures.same.limit, c.in-Err.is) at c.store_single.ensures.is in
    record { same = same_at _ (same_then c.store_from.ensures.same c.store_single.ensures.same); kept = λ e was. refl; is = reached_last stored _ _ last }

pub returns : goal.returns
returns c =
    let stored = carry_next _ _ _ _ c.requires _ c.get.ensures.gets _ _ _ (c.in_ok-at.was ∙ ap Ok c.in-Some.is) _ c.cell_at-c.ensures _ _ c.store_from.ensures.is c.if-not-moves.false _ (ap (stored_in c.store_from.new.store) c.in_ok-store_from.was) in
    let last = rw (c.store_from.ensures.same.limit, c.in_default-store_single.is) at c.store_single.ensures.is in
    record { same = same_then c.store_from.ensures.same c.store_single.ensures.same; kept = no_refusal; is = reached_last stored _ _ last }
