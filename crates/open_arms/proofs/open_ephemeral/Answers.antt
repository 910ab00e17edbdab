-- `open_arms::open_ephemeral` judges the count and the cells, and opens the table that it wrote. Assumes nothing.
use mathlib.Core.Path.{refl, ◌∙◌}
use Rattle.state.proofs.Stores.{untouched}
use Rattle.open_arms.proofs.OpenLaws.{arm_negative, arm_many, put_current, put_above, put_table, arm_opened}
use Rattle.open_arms.proofs.open_ephemeral.Goals as goal

pub returns-then-x-lt-ZERO : goal.returns-then-x-lt-ZERO
returns-then-x-lt-ZERO c = record { same = untouched; kept = λ e was. refl; is = arm_negative _ _ _ _ _ c.if-x-lt-ZERO.true }

pub returns-then-store-n : goal.returns-then-store-n
returns-then-store-n c = record { same = untouched; kept = λ e was. refl; is = arm_many _ _ _ _ _ c.if-x-lt-ZERO.false _ refl c.if-store-n.true }

pub open_table-requires : goal.open_table-requires
open_table-requires c = (put_current _ _ _ 0 c.args.x c.if-x-lt-ZERO.false _ refl _ c.put_table.ensures c.requires.0 c.if-store-n.false c.requires.2, c.requires.1, put_above _ _ _ 0 c.args.x c.if-x-lt-ZERO.false _ refl _ c.put_table.ensures c.requires.0 c.if-store-n.false c.requires.2, put_table _ _ _ 0 c.args.x c.if-x-lt-ZERO.false _ refl _ c.put_table.ensures c.requires.0 c.if-store-n.false c.requires.2)

pub returns : goal.returns
returns c = record { same = record { buffer = c.open_table.ensures.same.buffer; length = c.open_table.ensures.same.length ∙ c.put_table.auto.area; limit = c.open_table.ensures.same.limit }; kept = c.open_table.ensures.kept; is = arm_opened _ _ _ _ _ c.if-x-lt-ZERO.false _ refl _ c.put_table.ensures c.requires.0 c.if-store-n.false c.requires.2 _ _ c.open_table.ensures.is }
