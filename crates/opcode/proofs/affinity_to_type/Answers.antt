-- `opcode::affinity_to_type`: the five letters, and every other byte. Assumes nothing.
use borrow.Author.Rules.{rules}
use mathlib.Core.Path.{refl, sym, ap}
use mathlib.Core.List.{[], ◌∷◌}
use Rattle.type_info.specs.declared.DataType.TheVariants.{Null}
use Rattle.model.specs.IntMap.{get}
use Rattle.model.specs.TextTable.{or_else}
use Rattle.model.specs.RegisterArms.{affinities, affinity_to_type}
use Rattle.opcode.proofs.Arms.{NoneOf, one_of, keys_in, get_other}
use Rattle.opcode.proofs.affinity_to_type.Goals as goal

pub returns-in-65 : goal.returns-in-65
unfolding affinity_to_type affinities get
returns-in-65 c = sym (ap affinity_to_type c.in-65.is)

pub returns-in-66 : goal.returns-in-66
unfolding affinity_to_type affinities get
returns-in-66 c = sym (ap affinity_to_type c.in-66.is)

pub returns-in-67 : goal.returns-in-67
unfolding affinity_to_type affinities get
returns-in-67 c = sym (ap affinity_to_type c.in-67.is)

pub returns-in-68 : goal.returns-in-68
unfolding affinity_to_type affinities get
returns-in-68 c = sym (ap affinity_to_type c.in-68.is)

pub returns-in-69 : goal.returns-in-69
unfolding affinity_to_type affinities get
returns-in-69 c = sym (ap affinity_to_type c.in-69.is)

pub returns-in_default : goal.returns-in_default
unfolding affinity_to_type affinities NoneOf one_of keys_in
returns-in_default c = sym (ap (or_else Null) (get_other c.args.affinity (0x45 ∷ 0x44 ∷ 0x43 ∷ 0x42 ∷ 0x41 ∷ []) affinities refl (search rules)))
