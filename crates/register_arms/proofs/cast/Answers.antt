-- `register_arms::cast` copies P1 to itself, with the kind of P2's low byte. Assumes nothing.
use Rattle.std.specs.Prelude.{◌%◌}
use Rattle.model.specs.RegisterArms.{affinity_to_type, cast_to}
use Rattle.state.proofs.ArmLaws.{register_arm_where}
use Rattle.register_arms.proofs.ChangeLaws.{cast_is}
use Rattle.std.proofs.Common.{rules}
use Rattle.register_arms.proofs.cast.Goals as goal

pub returns : goal.returns
returns c =
    let led = c.copy_to.ensures (cast_to (affinity_to_type (c.args.x.p2 % 256))) (λ bound cs a q v told d made. search rules) in
    record { same = led.same; kept = led.kept; is = register_arm_where led.is (λ meaning l s j bound m h. cast_is _ meaning l c.args.x j m h.good) }
