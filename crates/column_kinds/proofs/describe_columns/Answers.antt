-- `column_kinds::describe_columns`: the call, and the area cleared. Assumes nothing.
use Rattle.column_kinds.proofs.CallLaws.{describes}
use Rattle.column_kinds.proofs.describe_columns.Goals as goal

pub returns : goal.returns
returns c = describes _ _ _ _ _ _ _ c.call-answered.ensures _ c.clear.ensures
