-- `root_block::link_records` links a record a turn. The invariant: the records still to link, linked, give what all give at the entry.
-- Assumes nothing.
use mathlib.Core.Path.{◌≡◌}
use Prim.Native.Nat.{◌≤◌}
use Rattle.area.specs.Cells.{cells, CellsNow}
use Rattle.root_block.specs.Build.{linked_all}
use Rattle.root_block.proofs.link_records.Given as goal

abbrev pub invariant-loop-i : goal.invariant-loop-i
invariant-loop-i l = (l.i ≤ l.n) × CellsNow l.initial.blocks l.blocks (cells l.blocks) × (linked_all (cells l.blocks) l.i ≡ linked_all (cells l.initial.blocks) l.n)
