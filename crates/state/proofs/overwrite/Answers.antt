-- `state::overwrite` tests the cell where it stands. Assumes nothing.
use mathlib.Core.Path.{sym, subst, ◌∙◌}
use native.Mathlib.Omega.{arith}
use Rattle.intmap.specs.Get.{Within}
use Rattle.state.proofs.OwnLaws.{other_own, has_key, overwrites_bad, overwrites_at}
use Rattle.state.proofs.overwrite.Goals as goal

pub returns-then-not-is_at : goal.returns-then-not-is_at
returns-then-not-is_at c = overwrites_bad _ (other_own c.judge_index.ensures c.in-Ok.is c.class_key-key.ensures c.is_at.ensures c.if-not-is_at.true)

pub put_plain-requires : goal.put_plain-requires
put_plain-requires c = let has = has_key _ c.args.map _ _ c.requires.1 (sym c.is_at.ensures ∙ c.if-not-is_at.false) in let w = subst Within c.in-Ok.is c.judge_index.ensures.small in (omega (arith, has.inside, c.requires.0.map.inside, c.requires.0.map.small), omega (arith, c.class_key-key.ensures, w))

pub returns : goal.returns
returns c = overwrites_at c.judge_index.ensures c.in-Ok.is c.class_key-key.ensures (has_key _ c.args.map _ _ c.requires.1 (sym c.is_at.ensures ∙ c.if-not-is_at.false)) c.requires.2 c.put_plain.ensures
