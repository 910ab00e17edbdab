-- The record of registers that stand side by side, put over another record of as many columns where that stands, all of one cell each: what is
-- in the map then is what the store leaves. Assumes nothing.
use Rattle.std.specs.Prelude.{◌≡◌, Bool, true, false, List, ℕ, ◌+◌, ◌<◌, ◌≤◌, get_or, Ok}
use Rattle.area.specs.Cells.{blank, cell}
use Rattle.area.specs.declared.Cell.{Cell}
use Rattle.intmap.specs.Map.{Frame}
use Rattle.intmap.specs.Over.{Plain}
use Rattle.intmap.specs.Pack.{tag_of, key_of, with_key, class_key}
use Rattle.intmap.specs.Signed.{int_of}
use Rattle.intmap.specs.declared.IntMap.{IntMap}
use Rattle.encoding.specs.Heads.{as_column}
use Rattle.state.specs.Leads.{Current, Leads}
use Rattle.record_arms.specs.Records.{record_from}

-- the n cells from p on, before `end`, are the registers from k on, and none is a record's
pub record SideBySide (cs : List Cell) (end p k n : ℕ) : Type 0 where
  pub inside : p + n ≤ end
  pub keys : (j : ℕ) → j < n → key_of (get_or cs (p + j) blank) ≡ class_key 0 (k + j)
  pub plain : Plain cs p n

-- the answer is whether that is so
pub record TellsSideBySide (cs : List Cell) (end p k n : ℕ) (r : Bool) : Type 0 where
  pub yes : r ≡ true → SideBySide cs end p k n
  pub no : r ≡ false → SideBySide cs end p k n → ⊥

-- the n cells from p on and those from q on have none in common
pub record Apart (p q n : ℕ) : Type 0 where
  pub none : (i j : ℕ) → i < n → j < n → p + i ≡ q + j → ⊥

-- the registers from p on stand as columns from q on
pub record PutsRegisters (cs ds : List Cell) (p q n : ℕ) : Type 0 where
  pub cells : (j : ℕ) → j < n → get_or ds (q + j) blank ≡ with_key j (as_column (get_or cs (p + j) blank))
  pub frame : Frame cs ds q n

-- the record of these registers stands in the place of the one at q, of as many cells, under its key
pub record RecordAt (cs ds : List Cell) (end p q k n : ℕ) : Type 0 where
  pub tag : tag_of (get_or cs q blank) ≡ 2
  pub number : (get_or cs q blank).payload ≡ n
  pub plain : Plain cs (q + 1) n
  pub source : SideBySide cs end p k n
  pub head : get_or ds q blank ≡ with_key (key_of (get_or cs q blank)) (cell 2 n)
  pub cells : (j : ℕ) → j < n → get_or ds (q + 1 + j) blank ≡ with_key j (as_column (get_or cs (p + j) blank))
  pub frame : Frame cs ds q (1 + n)

-- it was put there, or nothing has changed
pub record PutsRecord (cs ds : List Cell) (end p q k n : ℕ) (r : Bool) : Type 0 where
  pub yes : r ≡ true → RecordAt cs ds end p q k n
  pub no : r ≡ false → ds ≡ cs

-- that was the definition's store in register i
pub record RecordOver (cs ds : List Cell) (a : IntMap) (first n i : ℕ) (r : Bool) : Type 0 where
  pub yes : r ≡ true → (limit : ℕ) → Current limit cs a → Leads limit cs ds a (Ok a) (record_from limit n first (int_of i))
  pub no : r ≡ false → ds ≡ cs
