-- `column_kinds::answer_rows`: the counts cleared, the blocks, the walk, the answer. Assumes nothing.
use Rattle.root_block.proofs.LinkLaws.{made_blocks}
use Rattle.column_kinds.proofs.CallLaws.{blocks_short, is_prepared, can_write, answers_walk}
use Rattle.column_kinds.proofs.answer_rows.Goals as goal

pub walk_rows-x-requires : goal.walk_rows-x-requires
walk_rows-x-requires g c = is_prepared c.requires.0 c.requires.1 _ _ c.clear_counts.ensures c.root_block_columns.ensures _ c.new-columns.ensures.width c.new-columns.ensures.bytes

pub write_walk-requires : goal.write_walk-requires
write_walk-requires g c = can_write c.requires.0 c.requires.1 _ _ c.clear_counts.ensures c.root_block_columns.ensures _ _ _ c.walk_rows-x.ensures

pub returns : goal.returns
returns g c = answers_walk c.requires.0 c.requires.1 _ _ c.clear_counts.ensures c.root_block_columns.ensures _ _ _ c.walk_rows-x.ensures _ _ _ c.write_walk.ensures

pub invariant_of-blocks : goal.invariant_of-blocks
invariant_of-blocks g c = record { indexed = made_blocks _ _ _ c.requires.1 c.root_block_columns.ensures }

pub whole_as_slice-root_block_columns : goal.whole_as_slice-root_block_columns
whole_as_slice-root_block_columns g c = blocks_short _ _ c.requires.1

pub shared_whole_as_slice-blocks : goal.shared_whole_as_slice-blocks
shared_whole_as_slice-blocks g c = blocks_short _ _ c.requires.1
