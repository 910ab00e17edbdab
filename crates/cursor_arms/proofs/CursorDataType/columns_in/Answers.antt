-- `cursor_arms::CursorDataType::columns_in` goes by the kind of cursor. Assumes nothing.
use mathlib.Core.Path.{sym, ap, ◌∙◌}
use Rattle.refusal.proofs.Passed.{passed}
use Rattle.model.specs.Walk.{done}
use Rattle.model.specs.Access.{◌>>=◌}
use Rattle.cursor_arms.specs.StandsFor.{head_slot, columns_slot}
use Rattle.state.specs.Own.{place_of}
use Rattle.area.specs.Cells.{cells}
use Rattle.cursor_arms.proofs.StandsLaws.{entry-within, register_within, finds_columns}
use Rattle.cursor_arms.proofs.CursorDataType.columns_in.Goals as goal

pub head_at-requires : goal.head_at-requires
head_at-requires c = (entry-within _ _ _ _ c.requires.0.map _ c.entry_at.ensures, c.requires.0.map.small)

pub head_at-requires-in-Pseudo : goal.head_at-requires-in-Pseudo
head_at-requires-in-Pseudo c = (register_within _ _ c.requires.0.map _ _ (ap place_of (sym c.in_ok-at-in-Pseudo.was) ∙ c.get.ensures.place), c.requires.0.map.small)

pub returns-in-Normal : goal.returns-in-Normal
returns-in-Normal c = finds_columns _ _ _ _ (ap done (c.head_at.ensures ∙ ap (head_slot _) c.entry_at.ensures) ∙ ap (columns_slot _ _) (sym c.in-Normal.is))

pub returns-in_ok-at-in-Pseudo : goal.returns-in_ok-at-in-Pseudo
returns-in_ok-at-in-Pseudo c =
    finds_columns _ _ _ _ (ap done c.head_at-in-Pseudo.ensures ∙ ap (λ t. t >>= λ o. done (head_slot (cells c.args.area.now) o)) (ap place_of (sym c.in_ok-at-in-Pseudo.was) ∙ c.get.ensures.place) ∙ ap (columns_slot _ _) (sym c.in-Pseudo.is))

pub returns-in_err-at-in-Pseudo : goal.returns-in_err-at-in-Pseudo
returns-in_err-at-in-Pseudo c =
    rw (passed _ _ c.from_residual.ensures.1) (finds_columns _ _ _ _ (ap (λ t. t >>= λ o. done (head_slot (cells c.args.area.now) o)) (ap place_of (sym c.in_err-at-in-Pseudo.was) ∙ c.get.ensures.place) ∙ ap (columns_slot _ _) (sym c.in-Pseudo.is)))
