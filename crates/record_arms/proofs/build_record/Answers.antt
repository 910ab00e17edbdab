-- `record_arms::build_record` puts the columns, then the head before them. Assumes nothing.
use mathlib.Core.Path.{◌∙◌}
use Rattle.record_arms.proofs.BuildLaws.{columns_built}
use Rattle.record_arms.proofs.build_record.Goals as goal

pub returns : goal.returns
returns c = record { same = record { buffer = c.put_cell.ensures.same.buffer; length = c.put_cell.ensures.same.length ∙ c.put_columns.auto.area; limit = c.put_cell.ensures.same.limit }; map = c.put_cell.ensures.map; is = columns_built _ _ _ _ _ _ c.requires.0 c.requires.1 _ c.put_columns.ensures _ c.in_ok-put_columns.was _ (rw c.columns_head.ensures at c.put_cell.ensures.is) }
