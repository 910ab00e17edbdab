-- `jump_arms::change_both` changes a register behind the map and in it. Assumes nothing.
use Rattle.std.proofs.Common.{rules}
use mathlib.Core.Bool.{not}
use Rattle.model.specs.Access.{update_register}
use Rattle.intmap.specs.Signed.{int_of}
use Rattle.jump_arms.specs.Arms.{changed}
use Rattle.jump_arms.proofs.BothLaws.{both_arm}
use Rattle.jump_arms.proofs.NullLaws.{update-row}
use Rattle.jump_arms.proofs.change_both.Goals as goal

pub returns : goal.returns
returns c =
    let i = int_of c.args.x.p1 in
    both_arm c.requires.current (λ n. update_register i (changed c.args.null)) (λ n. update_register i (changed (not c.args.null))) (λ a q b has e. search rules) (λ a q b has e. search rules) (λ n. update-row _ _) (λ n. update-row _ _) c.both_ways.ensures
