-- `in_place::table` reads the cursor, and finds its table. Assumes nothing.
use mathlib.Core.Path.{sym, ◌∙◌}
use Rattle.state.proofs.OwnLaws.{was_ok}
use Rattle.in_place.proofs.ColumnLaws.{on_table}
use Rattle.in_place.proofs.table.Goals as goal

pub returns : goal.returns
returns c = on_table c.judge_index.ensures (was_ok (sym c.ok.ensures.value ∙ c.in_ok-k.was)) c.last_near.ensures c.in_ok-p.was c.cell_at-c.ensures (sym c.tag_of.ensures ∙ c.if-tag_of-ne-NORMAL.false) c.last_near-2.ensures c.in_ok-q.was c.cell_at.ensures (sym c.tag_of-2.ensures ∙ c.if-tag_of-ne-RECORD.false)
