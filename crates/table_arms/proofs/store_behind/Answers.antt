-- `table_arms::store_behind` makes a table of the record behind the map, and stores it. Assumes nothing.
use mathlib.Core.Path.{◌∙◌}
use Rattle.refusal.proofs.Passed.{passed}
use Rattle.state.proofs.Stores.{no_refusal}
use Rattle.table_arms.proofs.InsertLaws.{stores}
use Rattle.table_arms.proofs.store_behind.Goals as goal

pub returns-in_err-store : goal.returns-in_err-store
returns-in_err-store c =
    rw (passed _ _ c.from_residual.ensures.1) (record {
      same = record { buffer = c.run_behind-n.ensures.same.buffer; length = c.insert_run.auto.area ∙ c.run_behind-n.ensures.same.length; limit = c.run_behind-n.ensures.same.limit };
      kept = λ e was. c.run_behind-n.ensures.map;
      is = stores _ _ _ _ _ _ _ _ _ c.requires.2 c.class_key-key.ensures c.run_behind-n.ensures.is _ c.insert_run.ensures _ c.in_err-store.was;
    })

pub returns : goal.returns
returns c =
    record {
      same = record { buffer = c.run_behind-n.ensures.same.buffer; length = c.insert_run.auto.area ∙ c.run_behind-n.ensures.same.length; limit = c.run_behind-n.ensures.same.limit };
      kept = no_refusal;
      is = stores _ _ _ _ _ _ _ _ _ c.requires.2 c.class_key-key.ensures c.run_behind-n.ensures.is _ c.insert_run.ensures _ c.in_ok-store.was;
    }
