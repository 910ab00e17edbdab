-- `state::write_moved` judges the index, and tests the cell that was found. Assumes nothing.
use mathlib.Core.Path.{subst}
use native.Mathlib.Omega.{arith}
use Rattle.intmap.specs.Get.{Within}
use Rattle.state.proofs.OwnLaws.{among_inside, near_written}
use Rattle.state.proofs.write_moved.Goals as goal

pub put_plain-requires : goal.put_plain-requires
put_plain-requires c = let w = subst Within c.in-Ok.is c.judge_index.ensures.small in let i = among_inside c.requires.0 in (let h = c.near_moved.ensures.is _ c.in-Some.is in omega (arith, i.0, i.1, h.inside), omega (arith, c.class_key-key.ensures, w))

pub returns : goal.returns
returns c = near_written c.judge_index.ensures c.in-Ok.is c.class_key-key.ensures c.near_moved.ensures c.in-Some.is c.requires.1 c.put_plain.ensures
