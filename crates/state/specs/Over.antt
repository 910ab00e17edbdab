-- A record of the map put over another of as many columns, where that stands: what is in the map then is what a store leaves. Assumes nothing.
use Rattle.std.specs.Prelude.{◌≡◌, Bool, true, false, List, ◌∷◌, ℕ, ◌+◌, ◌-◌, ◌≤◌, get_or, Ok, Some}
use Rattle.model.specs.Walk.{done}
use Rattle.model.specs.Access.{index}
use Rattle.area.specs.Cells.{blank}
use Rattle.area.specs.declared.Cell.{Cell}
use Rattle.intmap.specs.Change.{rekey}
use Rattle.intmap.specs.Entries.{span}
use Rattle.intmap.specs.Map.{levels, HasRoom}
use Rattle.intmap.specs.Over.{Plain, Coverable}
use Rattle.intmap.specs.Pack.{tag_of, class_key}
use Rattle.intmap.specs.Runs.{size, IsColumn}
use Rattle.intmap.specs.Signed.{int_of}
use Rattle.intmap.specs.Store.{Inserts, Stores}
use Rattle.intmap.specs.declared.IntMap.{IntMap}
use Rattle.state.specs.Own.{entry_slot}

-- c may stand for the head of the column at `at`: it says the same of what is behind it
pub record IsHead (cs : List Cell) (at : ℕ) (c : Cell) : Type 0 where
  pub column : IsColumn cs levels at
  pub tag : tag_of c ≡ tag_of (get_or cs at blank)
  pub number : c.payload ≡ (get_or cs at blank).payload

-- the column at `at` with c for its head
abbrev pub headed : List Cell → ℕ → Cell → List Cell
headed cs at c = c ∷ span cs (at + 1) (size cs levels at - 1)

-- it was put over the entry of place k in a class, as an insertion would, and is a record of plain columns; or there is none that it can be put
-- over, and nothing has changed
pub record OverEntry (cs ds : List Cell) (a : IntMap) (at : ℕ) (c : Cell) (class k : ℕ) (r : Bool) : Type 0 where
  pub flat : r ≡ true → (tag_of c ≡ 2) × Plain cs (at + 1) (size cs levels at - 1)
  pub yes : r ≡ true → (limit : ℕ) → HasRoom cs limit a → Inserts cs ds limit a (rekey (class_key class k) (headed cs at c)) (Ok a)
  pub none : r ≡ false → (p : ℕ) → entry_slot cs a class k ≡ Some p → Coverable cs at p c → ⊥
  pub no : r ≡ false → ds ≡ cs

-- over register i, as a store of any depth that is not refused would
pub record OverRegister (cs ds : List Cell) (a : IntMap) (at : ℕ) (c : Cell) (i : ℕ) (r : Bool) : Type 0 where
  pub flat : r ≡ true → (tag_of c ≡ 2) × Plain cs (at + 1) (size cs levels at - 1)
  pub yes : r ≡ true → (limit depth : ℕ) → HasRoom cs limit a → depth ≤ 8 → Stores cs ds limit a 0 i depth (headed cs at c) (Ok a)
  pub none : r ≡ false → (k p : ℕ) → index (int_of i) ≡ done k → entry_slot cs a 0 k ≡ Some p → Coverable cs at p c → ⊥
  pub no : r ≡ false → ds ≡ cs
