-- `open_arms::open_table` stores the run, then the cursor. Assumes nothing.
use mathlib.Core.Path.{refl, ap}
use Rattle.refusal.proofs.Passed.{passed}
use Rattle.state.specs.Stores.{stored_in}
use Rattle.state.proofs.Stores.{same_then, same_at, no_refusal}
use Rattle.open_arms.proofs.OpenLaws.{open_full, next_current, open_done}
use Rattle.open_arms.proofs.open_table.Goals as goal

pub store_normal-requires : goal.store_normal-requires
store_normal-requires c = (next_current _ _ _ _ _ _ _ c.requires.1 _ c.insert_table.ensures.is c.requires.0 0 _ (ap (stored_in c.insert_table.new.store) c.in_ok-insert_table.was) _ c.insert_table.ensures.same.limit c.requires.3, c.requires.1)

pub returns-in_err-insert_table : goal.returns-in_err-insert_table
returns-in_err-insert_table c = rw (passed _ _ c.from_residual.ensures.1) (record { same = c.insert_table.ensures.same; kept = λ e was. c.insert_table.ensures.kept _ c.in_err-insert_table.was; is = open_full _ _ _ _ _ _ _ c.requires.1 _ c.insert_table.ensures.is c.requires.0 _ _ (ap (stored_in c.insert_table.new.store) c.in_err-insert_table.was) })

pub returns-in-Err : goal.returns-in-Err
returns-in-Err c =
    let then = rw c.in-Err.is at c.store_normal.ensures.is in
    record { same = same_at _ (same_then c.insert_table.ensures.same c.store_normal.ensures.same); kept = λ e was. refl; is = open_done _ _ _ _ _ _ _ c.requires.1 _ c.insert_table.ensures.is c.requires.0 _ _ (ap (stored_in c.insert_table.new.store) c.in_ok-insert_table.was) _ c.insert_table.ensures.same.limit _ _ then }

pub returns : goal.returns
returns c =
    let then = rw c.in_default.is at c.store_normal.ensures.is in
    record { same = same_then c.insert_table.ensures.same c.store_normal.ensures.same; kept = no_refusal; is = open_done _ _ _ _ _ _ _ c.requires.1 _ c.insert_table.ensures.is c.requires.0 _ _ (ap (stored_in c.insert_table.new.store) c.in_ok-insert_table.was) _ c.insert_table.ensures.same.limit _ _ then }
