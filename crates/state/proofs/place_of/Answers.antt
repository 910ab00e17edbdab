-- `state::place_of` takes the end, where the key belongs there, or searches the map. Assumes nothing.
use native.Mathlib.Omega.{arith}
use Rattle.state.proofs.OwnLaws.{belongs_last, key_as}
use Rattle.state.proofs.place_of.Goals as goal

pub returns-then-place-end : goal.returns-then-place-end
returns-then-place-end c = key_as _ c.args.map _ _ _ c.class_key-key.ensures (belongs_last c.requires.0 (omega (arith, c.class_key-key.ensures)) c.place.ensures c.if-place-end.true)
