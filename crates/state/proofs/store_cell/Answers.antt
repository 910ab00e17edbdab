-- `state::store_cell` writes over the own cell, puts a new one, or stores by the map. Assumes nothing.
use mathlib.Core.Path.{refl, ap, subst}
use mathlib.Core.List.{[], ◌∷◌}
use native.Mathlib.Omega.{arith}
use Rattle.refusal.proofs.Passed.{passed}
use Rattle.area.specs.declared.Cell.{Cell}
use Rattle.intmap.specs.Get.{Within}
use Rattle.intmap.proofs.JudgedLaws.{store_bad, store_tried}
use Rattle.intmap.proofs.PackLaws.{class_small}
use Rattle.state.proofs.OwnLaws.{located_key, located_nowhere, put_stored, keyed_new, map_stored}
use Rattle.state.proofs.store_cell.Goals as goal

pub returns-in_err-k : goal.returns-in_err-k
returns-in_err-k c = rw (passed _ _ c.from_residual.ensures.1) (map_stored _ _ _ _ _ _ _ _ (store_bad _ _ _ _ _ _ _ _ _ c.judge_index.ensures.answer _ c.in_err-k.was refl))

pub insert_new-requires : goal.insert_new-requires
insert_new-requires c = let new = located_nowhere c.requires.1 (omega (arith, c.class_key-key.ensures)) c.locate.ensures c.in-Err.is in
    let it = keyed_new new c.args.c _ c.with_key.ensures c.requires.2 in
    (c.requires.0, it.0, it.1)

pub returns-in-Err : goal.returns-in-Err
returns-in-Err c = map_stored _ _ _ _ _ _ _ _ (store_tried _ _ _ _ _ _ _ _ _ c.judge_index.ensures.answer _ c.in_ok-k.was _ _ _ (omega arith) c.class_key-key.ensures (ap (λ (h : Cell). h ∷ []) c.with_key.ensures) c.insert_new.ensures)

pub put_plain-requires : goal.put_plain-requires
put_plain-requires c = let w = subst Within c.in_ok-k.was c.judge_index.ensures.small in (let h = located_key {a = c.args.map} c.locate.ensures c.in-Ok.is in omega (arith, h.inside, c.requires.0.most, c.requires.0.room, c.requires.0.small), omega (arith, c.class_key-key.ensures, class_small c.args.class, w))

pub returns-then-put_plain : goal.returns-then-put_plain
returns-then-put_plain c = put_stored c.judge_index.ensures c.in_ok-k.was c.class_key-key.ensures (located_key c.locate.ensures c.in-Ok.is) c.requires.2 c.put_plain.ensures c.if-put_plain.true _ c.requires.0
