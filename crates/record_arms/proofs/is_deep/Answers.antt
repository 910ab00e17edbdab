-- `record_arms::is_deep` asks for the tag, for the key, then for the depth. Assumes nothing.
use mathlib.Core.Path.{◌∙◌}
use Rattle.record_arms.proofs.DeepLaws.{single_flat, under_key, within_keys}
use Rattle.record_arms.proofs.is_deep.Goals as goal

pub returns-then-tag_of-ne-RECORD : goal.returns-then-tag_of-ne-RECORD
returns-then-tag_of-ne-RECORD c = single_flat _ _ _ _ c.requires.1 (λ e. c.if-tag_of-ne-RECORD.true (c.tag_of.ensures ∙ e))

pub returns-then-k-first : goal.returns-then-k-first
returns-then-k-first c = under_key _ _ _ _ _ c.requires.1 c.key_of-k.ensures c.if-k-first.true

pub returns : goal.returns
returns c = within_keys _ _ _ _ _ c.requires.1 c.key_of-k.ensures c.if-k-first.false _ c.depth_of.ensures
