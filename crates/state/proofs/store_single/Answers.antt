-- `state::store_single` stores one cell. Assumes nothing.
use mathlib.Core.Path.{ap}
use native.Mathlib.Omega.{arith}
use Rattle.state.proofs.LeadsLaws.{current_held}
use Rattle.state.proofs.OwnLaws.{cell_leads}
use Rattle.state.proofs.StoreLeads.{single_leads}
use Rattle.intmap.specs.Pack.{tag_of}
use Rattle.encoding.proofs.Packing.{code_small}
use Rattle.state.proofs.store_single.Goals as goal

pub store_register-requires : goal.store_register-requires
store_register-requires c = (c.requires.room, current_held c.requires, omega (arith, ap (λ x. tag_of x) c.single.ensures, code_small c.args.d))

pub returns : goal.returns
returns c = cell_leads c.store_register.ensures (single_leads _ _ _ _ _ _ _ _ _ c.single.ensures)
