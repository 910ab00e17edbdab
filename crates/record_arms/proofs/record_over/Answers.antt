-- `record_arms::record_over` finds both places. Assumes nothing.
use mathlib.Core.Path.{refl, sym, ◌∙◌}
use Rattle.state.proofs.OverLaws.{entry_column}
use Rattle.record_arms.proofs.OverLaws.{entry-within, record_over}
use Rattle.record_arms.proofs.record_over.Goals as goal

pub put_record-requires : goal.put_record-requires
put_record-requires c = let s = entry-within _ _ _ _ _ c.requires.map (sym c.entry_at-2.ensures ∙ c.in-Some-entry_at.is) in (s.1, c.requires.map.inside, entry_column _ _ _ _ _ _ c.entry_at.ensures c.in-Some.is c.requires.map)

pub returns : goal.returns
returns c = record { same = record { buffer = refl; length = c.put_record.auto.area; limit = refl }; map = refl; is = record_over c.requires c.args.registers.within c.judge_index.ensures c.in-Ok.is c.entry_at.ensures c.in-Some.is c.entry_at-2.ensures c.in-Some-entry_at.is c.put_record.ensures }
