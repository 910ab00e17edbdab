-- `copy_arms::next_register` is where a search for the register leads, if that is a register. Assumes nothing.
use mathlib.Core.Path.{◌≡◌, ◌∙◌}
use native.Mathlib.Omega.{arith}
use Rattle.intmap.specs.Find.{seek_place}
use Rattle.intmap.specs.Map.{levels}
use Rattle.intmap.proofs.FindLaws.{led_to}
use Rattle.state.specs.Stores.{cells_in}
use Rattle.copy_arms.proofs.GapLaws.{next_end, next_within, next_other, next_above, next_here}
use Rattle.copy_arms.proofs.next_register.Goals as goal
use Rattle.copy_arms.proofs.next_register.Goals.{in-Ok, in-Ok-2}

pub returns-then-place-eq0 : goal.returns-then-place-eq0
returns-then-place-eq0 c = let led : c.match-find.place ≡ seek_place (cells_in c.args.store.now) levels c.class_key.result c.args.store.now.map.len c.args.store.now.map.base = elim c.match-find.branch [ in-Ok w ↦ w.place-is ∙ led_to _ _ _ _ _ _ _ w.in-Ok.is c.find.ensures | in-Ok-2 w ↦ w.place-is ∙ led_to _ _ _ _ _ _ _ w.in-Ok.is c.find.ensures ] in
    next_end _ _ _ c.requires.1 _ c.class_key.ensures _ led c.if-place-eq0.true

pub cell_at-requires : goal.cell_at-requires
cell_at-requires c = let led : c.match-find.place ≡ seek_place (cells_in c.args.store.now) levels c.class_key.result c.args.store.now.map.len c.args.store.now.map.base = elim c.match-find.branch [ in-Ok w ↦ w.place-is ∙ led_to _ _ _ _ _ _ _ w.in-Ok.is c.find.ensures | in-Ok-2 w ↦ w.place-is ∙ led_to _ _ _ _ _ _ _ w.in-Ok.is c.find.ensures ] in
    omega (arith, next_within _ _ _ c.requires.1 _ c.class_key.ensures _ led c.if-place-eq0.false c.requires.0, c.requires.0.small)

pub returns-then-key-gt131071 : goal.returns-then-key-gt131071
returns-then-key-gt131071 c = let led : c.match-find.place ≡ seek_place (cells_in c.args.store.now) levels c.class_key.result c.args.store.now.map.len c.args.store.now.map.base = elim c.match-find.branch [ in-Ok w ↦ w.place-is ∙ led_to _ _ _ _ _ _ _ w.in-Ok.is c.find.ensures | in-Ok-2 w ↦ w.place-is ∙ led_to _ _ _ _ _ _ _ w.in-Ok.is c.find.ensures ] in
    next_other _ _ _ c.requires.1 _ c.class_key.ensures _ led c.if-place-eq0.false _ c.cell_at.ensures _ c.key_of-key.ensures c.if-key-gt131071.true

pub overflow_sub-result : goal.overflow_sub-result
overflow_sub-result c = let led : c.match-find.place ≡ seek_place (cells_in c.args.store.now) levels c.class_key.result c.args.store.now.map.len c.args.store.now.map.base = elim c.match-find.branch [ in-Ok w ↦ w.place-is ∙ led_to _ _ _ _ _ _ _ w.in-Ok.is c.find.ensures | in-Ok-2 w ↦ w.place-is ∙ led_to _ _ _ _ _ _ _ w.in-Ok.is c.find.ensures ] in
    omega (arith, next_above _ c.args.store.now.map _ c.requires.1 _ c.class_key.ensures _ led c.if-place-eq0.false _ c.cell_at.ensures _ c.key_of-key.ensures, c.class_key.ensures)

pub returns : goal.returns
returns c = let led : c.match-find.place ≡ seek_place (cells_in c.args.store.now) levels c.class_key.result c.args.store.now.map.len c.args.store.now.map.base = elim c.match-find.branch [ in-Ok w ↦ w.place-is ∙ led_to _ _ _ _ _ _ _ w.in-Ok.is c.find.ensures | in-Ok-2 w ↦ w.place-is ∙ led_to _ _ _ _ _ _ _ w.in-Ok.is c.find.ensures ] in
    next_here _ _ _ c.requires.1 _ c.class_key.ensures _ led c.if-place-eq0.false _ c.cell_at.ensures _ c.key_of-key.ensures c.if-key-gt131071.false
