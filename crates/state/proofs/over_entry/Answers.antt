-- `state::over_entry` finds the entry and copies over it. Assumes nothing.
use Rattle.state.proofs.OverLaws.{entry_column, entry_over}
use Rattle.state.proofs.over_entry.Goals as goal

pub copy_over-requires : goal.copy_over-requires
copy_over-requires c = (c.requires.1.column, entry_column _ _ _ _ _ _ c.entry_at.ensures c.in-Some.is c.requires.0.map, c.requires.1.tag, c.requires.1.number)

pub returns-in-Some : goal.returns-in-Some
returns-in-Some c = entry_over _ _ _ _ _ _ c.entry_at.ensures c.in-Some.is c.copy_over.ensures
