-- `state::single_near` writes one cell. Assumes nothing.
use mathlib.Core.Path.{ap}
use native.Mathlib.Omega.{arith}
use Rattle.intmap.specs.Pack.{tag_of}
use Rattle.encoding.proofs.Packing.{code_small}
use Rattle.state.proofs.OwnLaws.{near_leads}
use Rattle.state.proofs.StoreLeads.{single_leads}
use Rattle.state.proofs.single_near.Goals as goal

pub write_near-requires : goal.write_near-requires
write_near-requires c = (c.requires, omega (arith, ap (λ x. tag_of x) c.single-c.ensures, code_small c.args.d))

pub returns : goal.returns
returns c = near_leads c.write_near.ensures (λ a limit. single_leads _ _ _ _ _ _ _ _ _ c.single-c.ensures)
