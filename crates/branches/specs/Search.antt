-- Where a state is looked for among the remembered ones: from the root down the way of its hashes, until it is met or a link leads nowhere.
-- Assumes nothing.
use Rattle.std.specs.Prelude.{◌≡◌, ℕ, ◌+◌, ◌≤◌, Bool, true, List, [], length, Option, None, Some}
use Rattle.model.specs.Walk.{◌∈◌}
use Rattle.area.specs.Cells.{cells}
use Rattle.area.specs.declared.Cell.{Cell}
use Rattle.intmap.specs.Map.{runs_at, IsMap}
use Rattle.state.specs.declared.MemoryState.{MemoryState}
use Rattle.branches.specs.Header.{hash_at, row_at, child, state_at}
use Rattle.branches.specs.Hash.{hash_from, hash_of}
use Rattle.branches.specs.Entries.{Kept, Stands, Path, Remembers, Remembering}
use Rattle.branches.specs.declared.BranchList.{BranchList}
use Rattle.branches.specs.declared.FreeLink.{FreeLink}

-- the header at p, and the map that it tells of, lie inside
pub record HasMap (xs : List ℕ) (p : ℕ) : Type 0 where
  pub header : p + 2 ≤ length (cells xs)
  pub map : IsMap (cells xs) (state_at (cells xs) p).map

-- the state at p is s
pub record IsAt (cs : List Cell) (s : MemoryState) (p : ℕ) : Type 0 where
  pub hash : hash_at cs p ≡ hash_of cs s
  pub row : row_at cs p ≡ s.row
  pub runs : runs_at cs s.map ≡ runs_at cs (state_at cs p).map

-- the answer is whether it is
pub record Tests (cs : List Cell) (s : MemoryState) (p : ℕ) (r : Bool) : Type 0 where
  pub sound : r ≡ true → IsAt cs s p
  pub complete : IsAt cs s p → r ≡ true

-- the way of hashes f leads to the one at p
pub record Reaches (cs : List Cell) (b : BranchList) (ks : List Kept) (f : ℕ → ℕ) (p bits : ℕ) : Type 0 where
  pub stands : Stands ks p
  pub path : Path cs ks f b.first (f 0) p bits

-- one of them is s
pub record Known (cs : List Cell) (ks : List Kept) (s : MemoryState) : Type 0 where
  pub kept : Kept
  pub among : kept ∈ ks
  pub there : IsAt cs s kept.at

-- none is, and the way ends here
pub record Ends (cs : List Cell) (b : BranchList) (ks : List Kept) (f : ℕ → ℕ) (p bits : ℕ) : Type 0 where
  pub reaches : Reaches cs b ks f p bits
  pub free : child cs p bits ≡ 0

-- of the one at a place, or of none where none is remembered
abbrev pub EndsAt : List Cell → BranchList → List Kept → MemoryState → Option ℕ → ℕ → Type 0
EndsAt cs b ks s None bits = ks ≡ []
EndsAt cs b ks s (Some p) bits = Ends cs b ks (hash_from cs s) p bits

pub record Unknown (cs : List Cell) (b : BranchList) (ks : List Kept) (s : MemoryState) (free : FreeLink) : Type 0 where
  pub none : (k : Kept) → k ∈ ks → IsAt cs s k.at → ⊥
  pub place : EndsAt cs b ks s free.at free.bits

abbrev pub TellsSearch : List Cell → BranchList → List Kept → MemoryState → Option FreeLink → Type 0
TellsSearch cs b ks s None = Known cs ks s
TellsSearch cs b ks s (Some free) = Unknown cs b ks s free

pub record Searches (xs : List ℕ) (b : BranchList) (s : MemoryState) (r : Option FreeLink) : Type 0 where
  pub says : (limit bound n : ℕ) (ks ws : List Kept) → Remembers limit bound n xs b ks ws → TellsSearch (cells xs) b ks s r

-- there are such, whatever the limit and the number of rows
pub record SomeRemembering (xs : List ℕ) (b : BranchList) : Type 0 where
  pub limit : ℕ
  pub rows : ℕ
  pub remembering : Remembering limit rows xs b
