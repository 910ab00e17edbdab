-- `column_arms::is_direct` tests the number, what is behind the columns, and the cell. Assumes nothing.
use native.Mathlib.Omega.{arith}
use mathlib.Core.Path.{sym, ◌∙◌}
use Rattle.column_arms.proofs.ColumnLaws.{direct_place}
use Rattle.column_arms.proofs.is_direct.Goals as goal

pub overflow_add-at-2 : goal.overflow_add-at-2
overflow_add-at-2 c = let flat = c.if-not-is_flat.false in let h = direct_place _ _ _ _ _ (sym c.is_flat.ensures ∙ flat) c.if-n-key.false in omega (arith, h, c.requires.0.inside, c.requires.0.small)

pub cell_at-c-requires : goal.cell_at-c-requires
cell_at-c-requires c = let flat = c.if-not-is_flat.false in let h = direct_place _ _ _ _ _ (sym c.is_flat.ensures ∙ flat) c.if-n-key.false in omega (arith, h, c.requires.0.inside, c.requires.0.small)

pub has_key-requires : goal.has_key-requires
has_key-requires c = let flat = c.if-not-is_flat.false in let h = direct_place _ _ _ _ _ (sym c.is_flat.ensures ∙ flat) c.if-n-key.false in omega (arith, h, c.requires.0.inside, c.requires.0.small)
