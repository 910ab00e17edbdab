-- `record_arms::store_record` puts the record over another, or stores it from behind the map. Assumes nothing.
use Rattle.state.proofs.Stores.{no_refusal}
use Rattle.record_arms.proofs.store_record.Goals as goal

pub returns-then-record_over : goal.returns-then-record_over
returns-then-record_over c = record { same = c.record_over.ensures.same; kept = no_refusal; is = rw c.record_over.ensures.map (c.record_over.ensures.is.yes c.if-record_over.true _ c.requires) }
