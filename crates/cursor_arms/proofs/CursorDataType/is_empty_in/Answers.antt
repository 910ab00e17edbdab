-- `cursor_arms::CursorDataType::is_empty_in` goes by the kind of cursor. Assumes nothing.
use mathlib.Core.Path.{sym, ap, ◌∙◌}
use Rattle.cursor_arms.specs.StandsFor.{empty_in, emptiness_in}
use Rattle.cursor_arms.proofs.StandsLaws.{entry-within, tells_empty}
use Rattle.cursor_arms.proofs.CursorDataType.is_empty_in.Goals as goal

pub empty_at-requires : goal.empty_at-requires
empty_at-requires c = (entry-within _ _ _ _ c.requires.0.map _ c.entry_at.ensures, c.requires.0.map.small)

pub returns-in-Normal : goal.returns-in-Normal
returns-in-Normal c = tells_empty _ _ _ _ (c.empty_at.ensures ∙ ap (empty_in _) c.entry_at.ensures ∙ ap (emptiness_in _ _) (sym c.in-Normal.is))

pub returns-in-Pseudo : goal.returns-in-Pseudo
returns-in-Pseudo c = tells_empty _ _ _ _ (ap (emptiness_in _ _) (sym c.in-Pseudo.is))
