-- `rewind_arm::rewind_table` goes by whether the table is empty. Assumes nothing.
use Rattle.std.specs.Prelude.{Some}
use Rattle.std.proofs.Common.{rules}
use mathlib.Core.Path.{refl, ap, ◌∙◌}
use Rattle.model.specs.Walk.{done}
use Rattle.model.proofs.Tried.{value}
use Rattle.state.proofs.Stores.{stays}
use Rattle.jump_arms.proofs.BothLaws.{both_arm}
use Rattle.rewind_arm.proofs.RewindLaws.{emptied, emptied-row, makes_empty, makes_nothing, table_full, table_empty, table_unknown}
use Rattle.rewind_arm.proofs.rewind_table.Goals as goal

pub returns-in-Some-false : goal.returns-in-Some-false
returns-in-Some-false c = (stays, rw c.go_on.ensures (table_full _ _ _ _ _ c.requires.0.current c.requires.1 _ c.is_empty.ensures (c.in-Some-false.is ∙ ap Some c.in-Some-false.field-0-test)))

pub returns-in-Some-true : goal.returns-in-Some-true
returns-in-Some-true c = (stays, rw c.branch_at.ensures (table_empty _ _ _ _ _ c.requires.0.current c.requires.1 _ c.is_empty.ensures (c.in-Some-true.is ∙ ap Some c.in-Some-true.field-0-test)))

pub returns-in-None : goal.returns-in-None
returns-in-None c =
    let w = both_arm c.requires.0.current (λ n m. done (emptied c.args.opened m)) (λ n m. done m) (λ a q b has e. makes_empty has.0 (search rules) c.args.opened c.requires.1 (search rules)) (λ a q b has e. makes_nothing has.0 (search rules) (search rules)) (λ n. emptied-row _) (λ n m. value refl) c.both_ways.ensures in
    (w.0, table_unknown _ _ _ _ _ c.requires.0.current c.requires.1 _ c.is_empty.ensures c.in-None.is _ _ w.1)
