-- `cursor_arms::CursorDataType::table_in` goes by the kind of cursor. Assumes nothing.
use mathlib.Core.Path.{sym, ap, ◌∙◌}
use Rattle.cursor_arms.specs.StandsFor.{table_slot}
use Rattle.cursor_arms.proofs.StandsLaws.{finds_table}
use Rattle.cursor_arms.proofs.CursorDataType.table_in.Goals as goal

pub returns-in-Normal : goal.returns-in-Normal
returns-in-Normal c = finds_table _ _ _ _ (c.entry_at.ensures ∙ ap (table_slot _ _) (sym c.in-Normal.is))
