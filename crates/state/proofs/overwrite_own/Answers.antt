-- `state::overwrite_own` judges the index, and tests the cell that was located. Assumes nothing.
use mathlib.Core.Path.{subst}
use native.Mathlib.Omega.{arith}
use Rattle.intmap.specs.Get.{Within}
use Rattle.intmap.proofs.PackLaws.{class_small}
use Rattle.state.proofs.OwnLaws.{located_key, located_nowhere, new_own, overwrites_none, overwrites_own}
use Rattle.state.proofs.overwrite_own.Goals as goal

pub returns-in_default-locate : goal.returns-in_default-locate
returns-in_default-locate c = overwrites_none _ (new_own c.judge_index.ensures c.in-Ok.is c.class_key-key.ensures c.requires.0 (located_nowhere c.requires.0 (omega (arith, c.class_key-key.ensures)) c.locate.ensures c.in_default-locate.is))

pub put_plain-requires : goal.put_plain-requires
put_plain-requires c = let w = subst Within c.in-Ok.is c.judge_index.ensures.small in (let h = located_key {a = c.args.map} c.locate.ensures c.in-Ok-locate.is in omega (arith, h.inside, c.requires.0.map.inside, c.requires.0.map.small), omega (arith, c.class_key-key.ensures, class_small c.args.class, w))

pub returns : goal.returns
returns c = overwrites_own c.judge_index.ensures c.in-Ok.is c.class_key-key.ensures (located_key c.locate.ensures c.in-Ok-locate.is) c.requires.1 c.put_plain.ensures c.requires.0
