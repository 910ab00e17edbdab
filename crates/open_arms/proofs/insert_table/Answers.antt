-- `open_arms::insert_table` stores the run where a search leads, with nothing to move if that is behind all entries. Assumes nothing.
use mathlib.Core.Path.{◌≡◌, sym, ap, ◌∙◌}
use native.Mathlib.Omega.{arith}
use Rattle.intmap.specs.Find.{seek_place}
use Rattle.intmap.specs.Map.{levels}
use Rattle.intmap.specs.declared.Place.{Place}
use Rattle.intmap.proofs.FindLaws.{led_to}
use Rattle.intmap.proofs.StoreLaws.{room_map, behind_new}
use Rattle.state.specs.Stores.{cells_in}
use Rattle.state.proofs.OwnLaws.{key_as}
use Rattle.open_arms.proofs.insert_table.Goals as goal
use Rattle.open_arms.proofs.insert_table.Goals.{in-Ok, in-Ok-2}

pub append_run-requires : goal.append_run-requires
append_run-requires c = let key = c.class_key-key.ensures in
    let found = key_as _ c.args.store.now.map _ _ _ (sym key) c.place_of-found.ensures in
    let led : c.match-found.place ≡ seek_place (cells_in c.args.store.now) levels c.class_key-key.result c.args.store.now.map.len c.args.store.now.map.base = elim c.match-found.branch [ in-Ok w ↦ w.place-is ∙ led_to _ _ _ _ _ _ _ w.in-Ok.is found | in-Ok-2 w ↦ w.place-is ∙ led_to _ _ _ _ _ _ _ w.in-Ok.is found ] in
    (c.requires.0.room, c.requires.2, omega (arith, key, c.requires.1), behind_new (room_map c.requires.0.room) (ap (λ (w : Place). w.left) (sym led) ∙ c.if-place-eq0.true))
