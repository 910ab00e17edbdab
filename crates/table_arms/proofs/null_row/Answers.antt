-- `table_arms::null_row` reads the cursor and changes its columns. Assumes nothing.
use Rattle.std.specs.Prelude.{Ok}
use mathlib.Core.Path.{refl, sym, ap, ◌∙◌}
use native.Mathlib.Omega.{arith}
use Rattle.refusal.proofs.Passed.{passed}
use Rattle.intmap.proofs.StoreLaws.{room_map}
use Rattle.state.proofs.LeadsLaws.{current_held}
use Rattle.state.proofs.Stores.{untouched}
use Rattle.cursor_arms.proofs.StandsLaws.{cursor_led, flat_there}
use Rattle.table_arms.proofs.NullLaws.{null_bad, null_absent, columns_within, null_there}
use Rattle.table_arms.proofs.null_row.Goals as goal

pub is_flat-requires : goal.is_flat-requires
is_flat-requires c = let is = room_map c.requires.current.room in let led = cursor_led _ _ is _ _ _ c.columns_of.ensures (c.in_ok-at.was ∙ ap Ok c.in-Some.is) in (is, (led.above, omega (arith, led.below)))

pub null_cells-requires : goal.null_cells-requires
null_cells-requires c = let is = room_map c.requires.current.room in (columns_within _ _ is _ (cursor_led _ _ is _ _ _ c.columns_of.ensures (c.in_ok-at.was ∙ ap Ok c.in-Some.is)) _ c.cell_at-c.ensures, flat_there _ _ (current_held c.requires.current) _ _ c.columns_of.ensures _ (c.in_ok-at.was ∙ ap Ok c.in-Some.is) _ c.cell_at-c.ensures (sym c.is_flat.ensures ∙ c.if-is_flat.true))

pub returns-then-is_flat : goal.returns-then-is_flat
returns-then-is_flat c = record { same = record { buffer = refl; length = c.null_cells.auto.area; limit = refl }; kept = λ e was. refl; is = λ limit row current. null_there limit _ _ current _ _ c.columns_of.ensures _ (c.in_ok-at.was ∙ ap Ok c.in-Some.is) _ _ c.cell_at-c.ensures c.null_cells.ensures row }

pub null_columns-requires : goal.null_columns-requires
null_columns-requires c = let is = room_map c.requires.current.room in columns_within _ _ is _ (cursor_led _ _ is _ _ _ c.columns_of.ensures (c.in_ok-at.was ∙ ap Ok c.in-Some.is)) _ c.cell_at-c.ensures

pub returns-in_err-at : goal.returns-in_err-at
returns-in_err-at c = rw (passed _ _ c.from_residual.ensures.1) (record { same = untouched; kept = λ e was. refl; is = λ limit row current. null_bad limit _ _ current _ _ c.columns_of.ensures _ c.in_err-at.was row })

pub returns-in_default : goal.returns-in_default
returns-in_default c = record { same = untouched; kept = λ e was. refl; is = λ limit row current. null_absent limit _ _ current _ _ c.columns_of.ensures (c.in_ok-at.was ∙ ap Ok c.in_default.is) row }

pub returns : goal.returns
returns c = record { same = record { buffer = refl; length = c.null_columns.auto.area; limit = refl }; kept = λ e was. refl; is = λ limit row current. null_there limit _ _ current _ _ c.columns_of.ensures _ (c.in_ok-at.was ∙ ap Ok c.in-Some.is) _ _ c.cell_at-c.ensures c.null_columns.ensures row }
