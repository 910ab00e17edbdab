-- `opcode::opcode`: a name without an arm has the operation that stands for none. Assumes nothing.
use mathlib.Core.Path.{◌≡◌, refl, ap, ◌∙◌}
use Rattle.std.specs.Prelude.{Option, None, Some}
use Rattle.std.specs.Option.{unwrap_or}
use Rattle.model.specs.TextTable.{or_else}
use Rattle.model.specs.Operation.{no_arm, operation_of}
use Rattle.opcode.specs.Opcode.{arm_of, arms_of}
use Rattle.opcode.specs.declared.Operation.{Operation}
use Rattle.opcode.specs.declared.Operation.TheVariants.{Other}
use Rattle.opcode.proofs.opcode.Goals as goal

arm_or : (o : Option Operation) → arm_of (unwrap_or o Other) ≡ or_else no_arm (arms_of o)
arm_or None = refl
arm_or (Some o) = refl

pub returns : goal.returns
unfolding operation_of
returns c = ap arm_of c.unwrap_or.ensures ∙ arm_or c.find_named.result ∙ ap (or_else no_arm) c.find_named.ensures
