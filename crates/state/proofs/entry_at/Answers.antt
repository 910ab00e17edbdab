-- `state::entry_at` takes what was located. Assumes nothing.
use mathlib.Core.Path.{◌∙◌}
use native.Mathlib.Omega.{arith}
use Rattle.state.proofs.OwnLaws.{located_entry}
use Rattle.state.proofs.entry_at.Goals as goal

pub returns : goal.returns
returns c = c.ok.ensures.value ∙ located_entry _ _ c.class_key-key.ensures c.requires.0 (omega (arith, c.class_key-key.ensures)) c.locate.ensures
