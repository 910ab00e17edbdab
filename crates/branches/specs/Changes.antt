-- What the parts of `push` write: a state with its header and its counts at a place, and a link to it. What they and `load` and `pop` ask for.
-- Assumes nothing.
use Rattle.std.specs.Prelude.{◌≡◌, ℕ, ◌+◌, ◌%◌, ◌<◌, ◌≤◌, List, length, get_or, ◌≢◌, Option, None, Some}
use Rattle.model.specs.State.{MemoryState as Defined}
use Rattle.area.specs.Cells.{cell, blank, cells}
use Rattle.area.specs.Counts.{count as count_at}
use Rattle.area.specs.declared.Cell.{Cell}
use Rattle.intmap.specs.Map.{runs_at, IsMap}
use Rattle.state.specs.Steps.{HoldsState}
use Rattle.state.specs.declared.MemoryState.{MemoryState}
use Rattle.branches.specs.Header.{half, third, sizes_word, sizes_at, child, used_at, next_at, state_at, link_of, place_of}
use Rattle.branches.specs.Entries.{count_cells, Remembering}
use Rattle.branches.specs.Lists.{Offers, Below, Above, Pops}
use Rattle.branches.specs.declared.BranchList.{BranchList}
use Rattle.branches.specs.declared.FreeLink.{FreeLink}

-- a state can be pushed, with the counts of n rows below the remembered states: cells that hold none are never offered, and each list of counts
-- is that of some past
pub record Pushable (limit n counts : ℕ) (xs : List ℕ) (b : BranchList) (s : MemoryState) : Type 0 where
  pub remembering : Remembering limit n xs b
  pub offers : Offers limit (cells xs) b s
  pub state : Defined
  pub holds : HoldsState limit remembering.bound (cells xs) s state
  pub rows : n ≤ 2048
  pub below : counts + count_cells n ≤ b.first

-- there is room at p for the state s with the counts of n rows, which lie below p
pub record Savable (n : ℕ) (cs : List Cell) (p : ℕ) (s : MemoryState) (next : Option ℕ) (counts : ℕ) : Type 0 where
  pub map : IsMap cs s.map
  pub few : s.map.used ≤ 65535
  pub rows : n ≤ 2048
  pub later : link_of next < half
  pub below : counts + count_cells n ≤ p
  pub room : p + 2 + s.map.used + count_cells n ≤ length cs

-- it is there, under the hash h, with no links and `next` behind it
pub record Saves (n : ℕ) (xs ys : List ℕ) (p : ℕ) (s : MemoryState) (h : ℕ) (next : Option ℕ) (counts : ℕ) : Type 0 where
  pub first : get_or (cells ys) p blank ≡ cell h s.row
  pub second : get_or (cells ys) (p + 1) blank ≡ cell 0 (sizes_word s.map.len s.map.used (link_of next))
  pub map : IsMap (cells ys) (record { base = p + 2; len = s.map.len; used = s.map.used })
  pub runs : runs_at (cells ys) (record { base = p + 2; len = s.map.len; used = s.map.used }) ≡ runs_at (cells xs) s.map
  pub counted : (i : ℕ) → i < n → count_at ys (p + 2 + s.map.used) i ≡ count_at xs counts i
  pub below : Below (cells xs) (cells ys) p
  pub above : Above (cells xs) (cells ys) (p + 2 + s.map.used + count_cells n)
  pub bytes : length ys ≡ length xs

-- a link, if a state is remembered that has it, is free and can lead to q
pub record Linkable (xs : List ℕ) (to : FreeLink) (q : ℕ) : Type 0 where
  pub header : (p : ℕ) → to.at ≡ Some p → p + 2 ≤ length (cells xs)
  pub small : length (cells xs) ≤ 1048576
  pub free : (p : ℕ) → to.at ≡ Some p → child (cells xs) p to.bits ≡ 0
  pub place : q < third

-- it does, and the other links, the sizes and all other cells are as they were
pub record Linked (cs ds : List Cell) (p bits q : ℕ) : Type 0 where
  pub other : (b : ℕ) → (b % 3 ≢ bits % 3) → child ds p b ≡ child cs p b
  pub alike : (b : ℕ) → b % 3 ≡ bits % 3 → child ds p b ≡ q
  pub sizes : sizes_at ds p ≡ sizes_at cs p
  pub elsewhere : (j : ℕ) → (j ≢ p + 1) → get_or ds j blank ≡ get_or cs j blank
  pub long : length ds ≡ length cs

-- where none is remembered, nothing is changed
pub record Connects (xs ys : List ℕ) (to : FreeLink) (q : ℕ) : Type 0 where
  pub none : to.at ≡ None → cells ys ≡ cells xs
  pub linked : (p : ℕ) → to.at ≡ Some p → Linked (cells xs) (cells ys) p to.bits q
  pub bytes : length ys ≡ length xs

-- the latest that waits, if one does, lies inside
pub record Latest (xs : List ℕ) (b : BranchList) : Type 0 where
  pub header : (p : ℕ) → b.last ≡ Some p → p + 2 ≤ length (cells xs)
  pub small : length (cells xs) ≤ 1048576

-- what is popped, and the list then, is told by the link and the header of the latest alone; where states are remembered it is told of them,
-- whatever the limit and the number of rows
pub record PopsAny (xs : List ℕ) (b c : BranchList) (r : Option ℕ) : Type 0 where
  pub none : b.last ≡ None → (r ≡ None) × (c ≡ b)
  pub latest : (p : ℕ) → b.last ≡ Some p → (r ≡ Some p) × (c ≡ record { first = b.first; top = b.top; last = place_of (next_at (cells xs) p) })
  pub pops : (limit n : ℕ) → Pops limit n xs b c r

-- the state at p and its counts can be copied below it, to `base` and to `counts`
pub record Loadable (limit n : ℕ) (cs : List Cell) (p base counts : ℕ) : Type 0 where
  pub map : IsMap cs (state_at cs p).map
  pub most : used_at cs p ≤ limit
  pub rows : n ≤ 2048
  pub whole : p + 2 + used_at cs p + count_cells n ≤ length cs
  pub apart : base + limit ≤ counts
  pub below : counts + count_cells n ≤ p
