-- `cursor_arms::cursor_in` asks for the tag. Assumes nothing.
use mathlib.Core.Path.{sym, ◌∙◌}
use Rattle.cursor_arms.proofs.CursorLaws.{in_normal, in_pseudo}
use Rattle.cursor_arms.proofs.cursor_in.Goals as goal

pub returns-then-tag_of-eq-NORMAL : goal.returns-then-tag_of-eq-NORMAL
returns-then-tag_of-eq-NORMAL c = in_normal _ (sym c.tag_of.ensures ∙ c.if-tag_of-eq-NORMAL.true)

pub returns : goal.returns
returns c = in_pseudo _ (λ e. c.if-tag_of-eq-NORMAL.false (c.tag_of.ensures ∙ e))
