-- `area::put_from` copies the eight bytes of v. Assumes nothing.
use mathlib.Core.Path.{◌∙◌}
use Rattle.area.proofs.WordLaws.{put-bytes}
use Rattle.area.proofs.put_from.Goals as goal

pub returns : goal.returns
returns c = put-bytes _ _ _ _ c.requires (c.copy_from_slice.ensures.after ∙ c.to_le_bytes.ensures)
