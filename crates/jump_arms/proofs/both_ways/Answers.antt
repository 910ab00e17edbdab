-- `jump_arms::both_ways` changes the copy behind the map, and then the map where it was. Assumes nothing.
use mathlib.Core.Path.{refl, sym}
use Rattle.refusal.proofs.Passed.{passed}
use Rattle.jump_arms.proofs.BothLaws.{behind_of, ways, first_ready, second_ready}
use Rattle.jump_arms.proofs.StoreSteps.{both_err, both_ok}
use Rattle.jump_arms.proofs.both_ways.Goals as goal

pub second-requires : goal.second-requires
second-requires g c =
    let behind = behind_of c.args.store.now c.copy_to-store.result c.copy_to-store.new.area c.copy_to-store.auto.area c.copy_to-store.ensures in
    c.requires.second _ (second_ready c.requires.ready.current behind (c.requires.within _ _ _ (first_ready c.requires.ready.current behind) (record { shown = _; shows = refl; left = _; met = c.first-changed.ensures; leaves = refl }))) _ refl

pub returns-in_err-changed : goal.returns-in_err-changed
returns-in_err-changed g c =
    ways _ _ (behind_of c.args.store.now c.copy_to-store.result c.copy_to-store.new.area c.copy_to-store.auto.area c.copy_to-store.ensures) (record { shown = _; shows = refl; left = _; met = c.first-changed.ensures; leaves = refl })
    (rw c.in_err-changed.was (refl, passed _ _ c.from_residual.ensures.1))

pub returns-in_err-second : goal.returns-in_err-second
returns-in_err-second g c =
    ways _ _ (behind_of c.args.store.now c.copy_to-store.result c.copy_to-store.new.area c.copy_to-store.auto.area c.copy_to-store.ensures) (record { shown = _; shows = refl; left = _; met = c.first-changed.ensures; leaves = refl })
    (rw c.in_ok-changed.was (_, record { shown = _; shows = refl; left = _; met = c.second.ensures; leaves = refl }, sym (both_err c.second.new.arg2 c.in_err-second.was (passed _ _ c.from_residual-in_err-second.ensures.1) _ _)))

pub returns : goal.returns
returns g c =
    ways _ _ (behind_of c.args.store.now c.copy_to-store.result c.copy_to-store.new.area c.copy_to-store.auto.area c.copy_to-store.ensures) (record { shown = _; shows = refl; left = _; met = c.first-changed.ensures; leaves = refl })
    (rw c.in_ok-changed.was (_, record { shown = _; shows = refl; left = _; met = c.second.ensures; leaves = refl }, sym (both_ok c.second.new.arg2 c.in_ok-second.was _ _ _ _ c.branch_and_go.ensures c.at-branch.ensures)))
