-- `cursor_arms::CursorDataType::delete` changes the head of its table. Assumes nothing.
use Rattle.model.specs.CursorArms.{empty_after_delete}
use mathlib.Core.Path.{refl}
use Rattle.state.proofs.Stores.{untouched}
use Rattle.cursor_arms.proofs.TableLaws.{table_none, table-within, table_there}
use native.Mathlib.Omega.{arith}
use Rattle.cursor_arms.proofs.CursorDataType.delete.Goals as goal

pub cell_at-requires : goal.cell_at-requires
cell_at-requires c = record { within = omega (arith, table-within _ _ _ _ c.table.ensures (λ x. x) _ c.in-Some.is c.requires.0.map, c.requires.0.map.inside); small = c.requires.0.map.small }

pub put_cell-requires : goal.put_cell-requires
put_cell-requires c = record { within = omega (arith, table-within _ _ _ _ c.table.ensures (λ x. x) _ c.in-Some.is c.requires.0.map, c.requires.0.map.inside); small = c.requires.0.map.small }

pub returns-in_default : goal.returns-in_default
returns-in_default c = record { same = untouched; map = refl; is = table_none _ _ _ _ c.table.ensures empty_after_delete c.in_default.is }

pub returns : goal.returns
returns c = record { same = c.put_cell.ensures.same; map = c.put_cell.ensures.map; is = table_there _ _ _ _ c.table.ensures empty_after_delete _ c.in-Some.is c.requires.0.map _ _ _ c.cell_at.ensures c.after_delete-c.ensures c.put_cell.ensures.is }
