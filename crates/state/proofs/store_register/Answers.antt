-- `state::store_register` writes over the cell that is found at once, or stores. Assumes nothing.
use mathlib.Core.Path.{refl}
use Rattle.state.proofs.store_register.Goals as goal

pub returns-then-write_near : goal.returns-then-write_near
returns-then-write_near c = c.write_near.ensures.yes c.if-write_near.true c.args.map refl refl _ c.requires.0
