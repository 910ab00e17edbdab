-- `area::cell_at` reads both words of the cell. Assumes nothing.
use mathlib.Core.Path.{sym, ap₂, ◌∙◌}
use native.Mathlib.Omega.{arith}
use Rattle.area.specs.Cells.{cell}
use Rattle.area.proofs.CellLaws.{cell-head, cell_payload, cells_at}
use Rattle.area.proofs.cell_at.Goals as goal

pub word_at-requires : goal.word_at-requires
word_at-requires c = cell-head _ _ c.requires

pub word_at-requires-2 : goal.word_at-requires-2
word_at-requires-2 c = cell_payload _ _ c.requires

pub returns : goal.returns
returns c = ap₂ cell c.word_at.ensures c.word_at-2.ensures ∙ sym (cells_at _ _ (omega arith))
