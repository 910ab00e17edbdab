-- Where an entry is or belongs, and what tells it at once: a cell of the map with its key, which in cells that hold a state is the entry; what
-- follows a record of so many columns. And what a store over a register's or cursor's own cell gives. Assumes nothing.
use Rattle.std.specs.Prelude.{◌≡◌, Bool, true, false, ◌&&◌, List, [], ◌∷◌, ℕ, ◌+◌, ◌<◌, ◌≤◌, eqb, leb, ltb, get_or, set, Ok, Some, None, Option, Err, Result}
use Rattle.refusal.specs.Numbers.{number_of}
use Rattle.model.specs.Walk.{Tried, refused, done}
use Rattle.model.specs.State.{MemoryState}
use Rattle.model.specs.Access.{index, ◌>>=◌}
use Rattle.area.specs.Cells.{blank}
use Rattle.area.specs.declared.Cell.{Cell}
use Rattle.intmap.specs.Find.{Sought, seek}
use Rattle.intmap.specs.Get.{Gets, Slot}
use Rattle.intmap.specs.Map.{levels, HasRoom, Frame}
use Rattle.intmap.specs.Pack.{tag_of, key_of, with_key, class_key}
use Rattle.intmap.specs.Pick.{pick}
use Rattle.intmap.specs.Signed.{int_of}
use Rattle.intmap.specs.Store.{Stores, Stored}
use Rattle.intmap.specs.declared.IntMap.{IntMap}
use Rattle.state.specs.Leads.{HoldsMap, Leaves, Held, Current, Leads}

-- where a search led, if it found the key
abbrev pub found_slot : Sought → Option ℕ
found_slot (Ok w) = Some w.at
found_slot (Err w) = None

-- the entry of an index in a class
unfoldable pub entry_slot : List Cell → IntMap → ℕ → ℕ → Option ℕ
entry_slot cs a class k = found_slot (seek cs levels (class_key class k) a.len a.base)

-- why an index is refused, or where its entry is
abbrev pub place_of : Slot → Tried (Option ℕ)
place_of (Err e) = refused (number_of e)
place_of (Ok o) = done o

-- the entry of an index that is judged
unfoldable pub index_slot : List Cell → IntMap → ℕ → Tried ℕ → Tried (Option ℕ)
index_slot cs a class t = t >>= λ k. done (entry_slot cs a class k)

-- what is there, as the map says it, and where a search leads
pub record FindsIndex (cs : List Cell) (a : IntMap) (class i : ℕ) (r : Slot) : Type 0 where
  pub gets : Gets cs a class i r
  pub place : place_of r ≡ index_slot cs a class (index (int_of i))

-- whether p is before `end` and the cell there has the key
unfoldable pub is_at : List Cell → ℕ → ℕ → ℕ → Bool
is_at cs end key p = ltb p end && eqb (key_of (get_or cs p blank)) key

-- the cell at `at` is the map's
abbrev pub InMap : IntMap → ℕ → Type 0
InMap a at = (a.base ≤ at) × (at < a.base + a.used)

-- whether the n cells behind `at` are followed by an entry or by the map's end: then n columns behind a head there have one cell each
unfoldable pub is_flat : List Cell → IntMap → ℕ → ℕ → Bool
is_flat cs a at n = pick (leb (a.base + a.used) (at + n)) false (pick (eqb (at + 1 + n) (a.base + a.used)) true (leb 65536 (key_of (get_or cs (at + 1 + n) blank))))

-- the cells from `base` on and before `end` are the first of a map that holds a state
pub record HeldAmong (cs : List Cell) (base end : ℕ) : Type 0 where
  pub map : IntMap
  pub held : Held cs map
  pub first : map.base ≡ base
  pub ordered : base ≤ end
  pub last : end ≤ map.base + map.used

-- one of them that has the key
pub record KeyAt (cs : List Cell) (base end key p : ℕ) : Type 0 where
  pub low : base ≤ p
  pub inside : p < end
  pub is : key_of (get_or cs p blank) ≡ key

-- such a one, or none
pub record Guesses (cs : List Cell) (base end key : ℕ) (r : Option ℕ) : Type 0 where
  pub is : (p : ℕ) → r ≡ Some p → KeyAt cs base end key p

-- how many cells the entry that begins with c has, if each column of a record has one: never more than it has
pub record FlatSize (c : Cell) (r : ℕ) : Type 0 where
  pub some : 1 ≤ r
  pub few : r ≤ 65536
  pub most : (tag_of c ≡ 2 → r ≤ 1 + c.payload) × ((tag_of c ≡ 2 → ⊥) → r ≡ 1)

-- c begins an entry that has more than n cells
pub record Reaches (c : Cell) (n : ℕ) : Type 0 where
  pub begins : 65536 ≤ key_of c
  pub size : ℕ
  pub flat : FlatSize c size
  pub more : n < size

-- the last cell from `from` to `at` that begins an entry, or `from` if none does
pub record EntryBelow (cs : List Cell) (from at r : ℕ) : Type 0 where
  pub low : from ≤ r
  pub high : r ≤ at
  pub begins : from < r → 65536 ≤ key_of (get_or cs r blank)
  pub last : (q : ℕ) → r < q → q ≤ at → key_of (get_or cs q blank) < 65536

-- where a key is or belongs among entries in the order of their keys: those before p are lower, and at p is `end` or one that is not
pub record Belongs (cs : List Cell) (base end key p : ℕ) : Type 0 where
  pub low : base ≤ p
  pub high : p ≤ end
  pub before : (q : ℕ) → base ≤ q → q < p → 65536 ≤ key_of (get_or cs q blank) → key_of (get_or cs q blank) < key
  pub after : p < end → key ≤ key_of (get_or cs p blank)

-- where a key is; or it is nowhere, and where it belongs
pub record Locates (cs : List Cell) (base end key : ℕ) (r : Result ℕ ℕ) : Type 0 where
  pub is : (p : ℕ) → r ≡ Ok p → KeyAt cs base end key p
  pub new : (p : ℕ) → r ≡ Err p → Belongs cs base end key p × (is_at cs end key p ≡ false)

-- a cell of the map has the key
pub record HasKey (cs : List Cell) (a : IntMap) (key p : ℕ) : Type 0 where
  pub low : a.base ≤ p
  pub inside : p < a.base + a.used
  pub is : key_of (get_or cs p blank) ≡ key

-- it is the one of index i in a class, and no record's
pub record Own (cs : List Cell) (a : IntMap) (class i p : ℕ) : Type 0 where
  pub place : ℕ
  pub judged : index (int_of i) ≡ done place
  pub has : HasKey cs a (class_key class place) p
  pub plain : tag_of (get_or cs p blank) ≡ 2 → ⊥

-- of cells that hold a state, the answer is that of a store of the cell under index i of a class
pub record StoresCell (limit : ℕ) (cs ds : List Cell) (a : IntMap) (class i : ℕ) (c : Cell) (r : Stored) : Type 0 where
  pub says : (bound : ℕ) (m : MemoryState) → HoldsMap limit bound cs a m → Stores cs ds limit a class i 0 (c ∷ []) r
  pub leaves : Leaves limit ds a r
  pub frame : Frame cs ds a.base limit

-- c was written under a key over the cell at p, which is no record's; or it is one's, and nothing has changed
pub record PutsPlain (cs ds : List Cell) (p key : ℕ) (c : Cell) (r : Bool) : Type 0 where
  pub yes : r ≡ true → (tag_of (get_or cs p blank) ≡ 2 → ⊥) × (ds ≡ set cs p (with_key key c))
  pub no : r ≡ false → (tag_of (get_or cs p blank) ≡ 2) × (ds ≡ cs)

-- a store of c was made over the own cell of index i; or there is none, and nothing has changed
pub record OverwritesOwn (cs ds : List Cell) (a : IntMap) (class i : ℕ) (c : Cell) (r : Bool) : Type 0 where
  pub yes : r ≡ true → (limit : ℕ) → HasRoom cs limit a → StoresCell limit cs ds a class i c (Ok a)
  pub none : r ≡ false → (p : ℕ) → Own cs a class i p → ⊥
  pub no : r ≡ false → ds ≡ cs

-- the cell at p was register i's own, and a store of c was made there; or nothing has changed
pub record Overwrites (cs ds : List Cell) (a : IntMap) (p i : ℕ) (c : Cell) (r : Bool) : Type 0 where
  pub own : Own cs a 0 i p → r ≡ true
  pub inside : r ≡ true → p < a.base + a.used
  pub yes : r ≡ true → (limit : ℕ) → HasRoom cs limit a → StoresCell limit cs ds a 0 i c (Ok a)
  pub no : r ≡ false → ds ≡ cs

-- a store of c was made over register i's own cell, in any map whose cells are from `base` on and before `end`; or nothing has changed
pub record WritesNear (cs ds : List Cell) (base end i : ℕ) (c : Cell) (r : Bool) : Type 0 where
  pub yes : r ≡ true → (a : IntMap) → a.base ≡ base → a.base + a.used ≡ end → (limit : ℕ) → HasRoom cs limit a → StoresCell limit cs ds a 0 i c (Ok a)
  pub no : r ≡ false → ds ≡ cs

-- an access was made there, and leads to what f gives; or nothing has changed
pub record LeadsNear (cs ds : List Cell) (base end : ℕ) (f : ℕ → MemoryState → Tried MemoryState) (r : Bool) : Type 0 where
  pub yes : r ≡ true → (a : IntMap) → a.base ≡ base → a.base + a.used ≡ end → (limit : ℕ) → Current limit cs a → Leads limit cs ds a (Ok a) (f limit)
  pub no : r ≡ false → ds ≡ cs

-- where register i's entry is, in any such map, or nothing
pub record GetsNear (cs : List Cell) (base end i : ℕ) (r : Option ℕ) : Type 0 where
  pub inside : (p : ℕ) → r ≡ Some p → p < end
  pub is : (p : ℕ) → r ≡ Some p → (a : IntMap) → a.base ≡ base → a.base + a.used ≡ end → Held cs a → Gets cs a 0 i (Ok (Some p))

-- where the entry of place k in a class is, or nothing
pub record EntryNear (cs : List Cell) (base end class k : ℕ) (r : Option ℕ) : Type 0 where
  pub low : (p : ℕ) → r ≡ Some p → base ≤ p
  pub inside : (p : ℕ) → r ≡ Some p → p < end
  pub is : (p : ℕ) → r ≡ Some p → (a : IntMap) → a.base ≡ base → a.base + a.used ≡ end → Held cs a → Some p ≡ entry_slot cs a class k

-- the answer is what `is_flat` gives, in any map whose cells are before `end`
pub record FlatBefore (cs : List Cell) (end at n : ℕ) (r : Bool) : Type 0 where
  pub is : (a : IntMap) → a.base + a.used ≡ end → r ≡ is_flat cs a at n
