-- `copy_arms::carry_run` looks for both registers, and carries from there. Assumes nothing.
use mathlib.Core.Path.{refl, subst}
use Rattle.intmap.specs.Get.{Within}
use Rattle.state.proofs.Stores.{untouched}
use Rattle.copy_arms.proofs.PlaceLaws.{leading_entry}
use Rattle.copy_arms.proofs.TurnLaws.{run_none, run_of}
use Rattle.copy_arms.proofs.carry_run.Goals as goal

pub returns-in_default : goal.returns-in_default
returns-in_default c = record { same = untouched; map = refl; is = run_none _ _ _ _ _ _ }

pub returns-in_default-judge_index : goal.returns-in_default-judge_index
returns-in_default-judge_index c = record { same = untouched; map = refl; is = run_none _ _ _ _ _ _ }

pub returns-in_default-entry_at : goal.returns-in_default-entry_at
returns-in_default-entry_at c = record { same = untouched; map = refl; is = run_none _ _ _ _ _ _ }

pub returns-in_default-entry_at-2 : goal.returns-in_default-entry_at-2
returns-in_default-entry_at-2 c = record { same = untouched; map = refl; is = run_none _ _ _ _ _ _ }

pub carry_cells-requires : goal.carry_cells-requires
carry_cells-requires c = (c.requires.map, leading_entry c.requires.map c.entry_at-2.ensures c.in-Some-entry_at.is, leading_entry c.requires.map c.entry_at.ensures c.in-Some.is, subst Within c.in-Ok.is c.judge_index.ensures.small, subst Within c.in-Ok-judge_index.is c.judge_index-2.ensures.small)

pub returns : goal.returns
returns c = record { same = record { buffer = refl; length = c.carry_cells.auto.area; limit = refl }; map = refl; is = run_of _ _ _ c.judge_index.ensures c.in-Ok.is _ _ _ c.judge_index-2.ensures c.in-Ok-judge_index.is c.carry_cells.ensures }
