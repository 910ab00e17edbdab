-- `read_arm::open_read` gathers the columns behind the place of the table's head, writes the head, and opens the table. Assumes nothing.
use mathlib.Core.Path.{refl, ◌∙◌}
use Rattle.refusal.proofs.Passed.{passed}
use Rattle.state.proofs.Stores.{untouched, same_then}
use Rattle.read_arm.proofs.TableLaws.{arm_none, arm_full, read_current, read_above, read_table, arm_opened}
use Rattle.read_arm.proofs.open_read.Goals as goal

pub returns-then-limit-eq0 : goal.returns-then-limit-eq0
returns-then-limit-eq0 c = record { same = untouched; kept = λ e was. refl; is = arm_none _ _ _ _ _ _ c.if-limit-eq0.true }

pub open_table-requires : goal.open_table-requires
open_table-requires c = let put = c.put_cell.ensures in let is = rw c.columns_head.ensures at put.is in
    rw (put.same.limit, put.map) (read_current _ _ c.args.store.now.map _ c.args.x c.if-limit-eq0.false _ _ c.opened_columns.ensures _ c.in_ok-m.was _ is c.requires.0, c.requires.1, read_above _ _ c.args.store.now.map _ c.args.x c.if-limit-eq0.false _ _ c.opened_columns.ensures _ c.in_ok-m.was _ is c.requires.0 c.args.blocks.indexed, read_table _ _ c.args.store.now.map _ c.args.x c.if-limit-eq0.false _ _ c.opened_columns.ensures _ c.in_ok-m.was _ is c.requires.0 c.args.blocks.indexed)

pub returns-in_err-m : goal.returns-in_err-m
returns-in_err-m c = rw (passed _ _ c.from_residual.ensures.1) (record { same = record { buffer = refl; length = c.opened_columns.auto.area; limit = refl }; kept = λ e was. refl; is = arm_full _ _ c.args.store.now.map _ c.args.x c.if-limit-eq0.false _ _ c.opened_columns.ensures _ _ c.in_err-m.was })

pub returns : goal.returns
returns c = let put = c.put_cell.ensures in let is = rw c.columns_head.ensures at put.is in let opened = rw (put.same.limit, put.map) at c.open_table.ensures.is in
    record { same = same_then (record { buffer = put.same.buffer; length = put.same.length ∙ c.opened_columns.auto.area; limit = put.same.limit }) c.open_table.ensures.same; kept = λ e was. c.open_table.ensures.kept e was ∙ put.map; is = arm_opened _ _ c.args.store.now.map _ c.args.x c.if-limit-eq0.false _ _ c.opened_columns.ensures _ c.in_ok-m.was _ is c.requires.0 _ _ _ opened }
