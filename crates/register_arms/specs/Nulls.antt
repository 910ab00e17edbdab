-- Registers that are one cell each, one after the other: they are made null where they stand. Assumes nothing.
use Rattle.std.specs.Prelude.{List, ℕ, ◌≤◌, Ok}
use Rattle.model.specs.RegisterArms.{null_many}
use Rattle.area.specs.declared.Cell.{Cell}
use Rattle.intmap.specs.Signed.{int_of}
use Rattle.intmap.specs.declared.IntMap.{IntMap}
use Rattle.state.specs.Leads.{Leads}

-- the same map then holds what r turns of the definition's loop give, of n
pub record NullsRun (limit : ℕ) (cs ds : List Cell) (a : IntMap) (from n r : ℕ) : Type 0 where
  pub few : r ≤ n
  pub leads : Leads limit cs ds a (Ok a) (null_many limit r (int_of from))
