-- `table_arms::store_table` puts a record over the table, or stores from behind the map. Assumes nothing.
use native.Mathlib.Omega.{arith}
use Rattle.state.proofs.LeadsLaws.{value-within}
use Rattle.state.proofs.Stores.{no_refusal}
use Rattle.table_arms.proofs.InsertLaws.{stores-over}
use Rattle.table_arms.proofs.store_table.Goals as goal

pub cell_at-requires : goal.cell_at-requires
cell_at-requires c = omega (arith, value-within c.requires.0 c.requires.1.1, c.requires.0.room.small)

pub returns-then-over_entry : goal.returns-then-over_entry
returns-then-over_entry c = record { same = c.over_entry.ensures.same; kept = no_refusal; is = stores-over _ _ _ _ _ _ c.requires.2 c.requires.0.room _ _ c.cell_at.ensures c.with_nullable-c.ensures _ c.over_entry.ensures.is c.if-over_entry.true _ c.over_entry.ensures.map }
