-- Registers that are one cell each, one after the other: they are carried where they stand, with no search for each. Assumes nothing.
use Rattle.std.specs.Prelude.{◌≡◌, Bool, List, ℕ, ◌+◌, ◌<◌, ◌≤◌, get_or, Ok}
use Rattle.area.specs.Cells.{blank}
use Rattle.area.specs.declared.Cell.{Cell}
use Rattle.intmap.specs.Alike.{Alike}
use Rattle.intmap.specs.Find.{place, seek}
use Rattle.intmap.specs.Map.{levels}
use Rattle.intmap.specs.Pack.{tag_of, key_of, class_key}
use Rattle.intmap.specs.Signed.{offset, int_of}
use Rattle.intmap.specs.declared.IntMap.{IntMap}
use Rattle.state.specs.Leads.{Current, Leads}
use Rattle.copy_arms.specs.Copies.{carry_one, carry_many}

-- the cell at p is of the map, has the key of register k, and is no record's
pub record Alone (cs : List Cell) (a : IntMap) (p k : ℕ) : Type 0 where
  pub inside : p < a.base + a.used
  pub small : k ≤ 65535
  pub key : key_of (get_or cs p blank) ≡ class_key 0 k
  pub plain : tag_of (get_or cs p blank) ≡ 2 → ⊥

-- a search for register k leads to p
pub record FoundAt (cs : List Cell) (a : IntMap) (p k : ℕ) : Type 0 where
  pub left : ℕ
  pub is : Ok (place p left) ≡ seek cs levels (class_key 0 k) a.len a.base

-- it does if such a cell is there, and p is of the map or its end
pub record Leading (cs : List Cell) (a : IntMap) (p k : ℕ) : Type 0 where
  pub most : p ≤ a.base + a.used
  pub found : Alone cs a p k → FoundAt cs a p k

-- the same map then holds what a turn gives, from register k to register l
pub record CarriesCell (cs ds : List Cell) (a : IntMap) (moves : Bool) (k l : ℕ) : Type 0 where
  pub leads : (limit : ℕ) → Current limit cs a → Leads limit cs ds a (Ok a) (carry_one limit moves (int_of (offset + k)) (int_of (offset + l)))
  pub alike : Alike cs ds

-- and what r turns give, of n
pub record CarriesRun (cs ds : List Cell) (a : IntMap) (moves : Bool) (i j n r : ℕ) : Type 0 where
  pub most : r ≤ n
  pub leads : (limit : ℕ) → Current limit cs a → Leads limit cs ds a (Ok a) (carry_many limit moves r (int_of i) (int_of j))
