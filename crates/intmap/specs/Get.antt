-- What `get` answers: the entry of an index in one of the three classes. 01, "Order of port and sizes": "answers none for an absent entry,
-- 6 or 7 for a bad index"; the index is a signed number, held as a word (`Signed`). Assumes nothing.
use Rattle.std.specs.Prelude.{◌≡◌, List, ℕ, ◌+◌, ◌≤◌, ℤ, Option, None, Some, Result, Ok, Err}
use Rattle.refusal.specs.Numbers.{number_of}
use Rattle.refusal.specs.declared.Refusal.{Refusal}
use Rattle.model.specs.Walk.{Tried, refused, done}
use Rattle.model.specs.Access.{index, ◌>>=◌}
use Rattle.area.specs.declared.Cell.{Cell}
use Rattle.intmap.specs.Pack.{class_key}
use Rattle.intmap.specs.Runs.{size}
use Rattle.intmap.specs.Entries.{Runs, span}
use Rattle.intmap.specs.Swap.{lookup}
use Rattle.intmap.specs.Map.{levels, runs_at}
use Rattle.intmap.specs.Signed.{int_of}
use Rattle.intmap.specs.declared.IntMap.{IntMap}

-- an index, judged: why it is refused, or the place in its class
abbrev pub Index : Type 0
Index = Result ℕ Refusal

abbrev pub index_of : Index → Tried ℕ
index_of (Err e) = refused (number_of e)
index_of (Ok k) = done k

abbrev pub Within : Index → Type 0
Within (Err e) = Unit {0}
Within (Ok k) = k ≤ 65535

pub record Judges (i : ℕ) (r : Index) : Type 0 where
  pub answer : index_of r ≡ index (int_of i)
  pub small : Within r

-- the entry of an index in a class, which is judged first
unfoldable pub read_runs : ℕ → ℤ → Runs → Tried (Option (List Cell))
read_runs class i es = index i >>= λ k. done (lookup (class_key class k) es)

-- where an entry is, if it is there, or why its index is refused
abbrev pub Slot : Type 0
Slot = Result (Option ℕ) Refusal

-- the answer as 01 has it: a number, no entry, or the entry
abbrev pub slot_of : List Cell → Slot → Tried (Option (List Cell))
slot_of cs (Err e) = refused (number_of e)
slot_of cs (Ok None) = done None
slot_of cs (Ok (Some p)) = done (Some (span cs p (size cs levels p)))

-- an entry that is there lies within the map
abbrev pub Inside : List Cell → IntMap → Slot → Type 0
Inside cs m (Err e) = Unit {0}
Inside cs m (Ok None) = Unit {0}
Inside cs m (Ok (Some p)) = (m.base ≤ p) × (p + size cs levels p ≤ m.base + m.used)

pub record Gets (cs : List Cell) (m : IntMap) (class i : ℕ) (r : Slot) : Type 0 where
  pub answer : slot_of cs r ≡ read_runs class (int_of i) (runs_at cs m)
  pub place : Inside cs m r
