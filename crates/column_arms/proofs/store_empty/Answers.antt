-- `column_arms::store_empty` judges the index and the cells, writes the record behind the map, and stores it. Assumes nothing.
use mathlib.Core.Path.{refl, ◌∙◌}
use Rattle.refusal.proofs.Passed.{passed}
use Rattle.state.proofs.Stores.{untouched, same_then}
use Rattle.column_arms.proofs.EmptyLaws.{empty_bad, empty_full, empty_room, empty_above, empty_stored}
use Rattle.column_arms.proofs.store_empty.Goals as goal

pub returns-in_err-judge_index : goal.returns-in_err-judge_index
returns-in_err-judge_index c = rw (passed _ _ c.from_residual.ensures.1) (record { same = untouched; kept = λ e was. refl; is = empty_bad _ _ _ _ _ c.judge_index.ensures _ c.in_err-judge_index.was })

pub returns-then-store-eq0 : goal.returns-then-store-eq0
returns-then-store-eq0 c = record { same = untouched; kept = λ e was. refl; is = empty_full _ _ _ _ _ c.judge_index.ensures _ c.in_ok-judge_index.was c.if-store-eq0.true }

pub store_run-requires : goal.store_run-requires
store_run-requires c = let put = c.put_cell.ensures in let is = rw c.columns_head.ensures at put.is in
    rw (put.same.limit, put.map) (empty_room _ _ _ _ c.requires c.if-store-eq0.false is, empty_above _ _ _ _ c.requires c.if-store-eq0.false is)

pub returns : goal.returns
returns c = let put = c.put_cell.ensures in let is = rw c.columns_head.ensures at put.is in let st = rw (put.same.limit, put.map) at c.store_run.ensures.is in
    record { same = same_then put.same c.store_run.ensures.same; kept = λ e was. c.store_run.ensures.kept e was ∙ put.map; is = empty_stored _ _ _ _ c.requires c.if-store-eq0.false is _ _ _ st }
