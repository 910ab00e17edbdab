-- `copy_arms::store_from` puts a record over another, or stores from behind the map. Assumes nothing.
use Rattle.state.proofs.Stores.{no_refusal}
use Rattle.copy_arms.proofs.RunLaws.{stores-over}
use Rattle.copy_arms.proofs.store_from.Goals as goal

pub returns-then-over_register : goal.returns-then-over_register
returns-then-over_register c = record { same = c.over_register.ensures.same; kept = no_refusal; is = rw c.over_register.ensures.map (stores-over _ _ _ _ _ _ _ _ c.requires.0.room c.over_register.ensures.is c.if-over_register.true) }
