-- What the functions of `BranchList` say: a branch that is pushed is dropped, kept or has no space, as the definition judges it; the latest that
-- waits is taken; and a state is loaded with its lineage's counts. Assumes nothing.
use Rattle.std.specs.Prelude.{◌≡◌, ℕ, ◌+◌, ◌-◌, ◌<◌, ◌≤◌, ◌⊎◌, List, [], ◌∷◌, length, get_or, Option, None, Some, Result, Ok, Err}
use Rattle.model.specs.Walk.{judge, dropped, kept, no_space}
use Rattle.model.specs.State.{MemoryState as Defined}
use Rattle.model.specs.Cells.{cells as cells_of}
use Rattle.model.specs.Equality.{eq_state}
use Rattle.refusal.specs.declared.Refusal.{Refusal}
use Rattle.refusal.specs.declared.Refusal.TheVariants.{NoSpace}
use Rattle.area.specs.Cells.{blank, cells}
use Rattle.area.specs.declared.Cell.{Cell}
use Rattle.intmap.specs.Runs.{Agree}
use Rattle.intmap.specs.Map.{runs_at, IsMap, HasRoom}
use Rattle.state.specs.Steps.{HoldsState}
use Rattle.state.specs.declared.MemoryState.{MemoryState}
use Rattle.branches.specs.Header.{row_at, len_at, used_at, state_at, link_of}
use Rattle.branches.specs.Entries.{Kept, states, Counted, count_cells, Remembers, IsKept}
use Rattle.branches.specs.declared.BranchList.{BranchList}

-- cells outside two places are as they were
pub record Outside (cs ds : List Cell) (a m b n : ℕ) : Type 0 where
  pub long : length ds ≡ length cs
  pub same : (j : ℕ) → (j < a) ⊎ (a + m ≤ j) → (j < b) ⊎ (b + n ≤ j) → get_or ds j blank ≡ get_or cs j blank

-- and all below a place
pub record Below (cs ds : List Cell) (first : ℕ) : Type 0 where
  pub long : length ds ≡ length cs
  pub same : (j : ℕ) → j < first → get_or ds j blank ≡ get_or cs j blank

-- and all from a place on
abbrev pub Above : List Cell → List Cell → ℕ → Type 0
Above cs ds top = (j : ℕ) → top ≤ j → get_or ds j blank ≡ get_or cs j blank

-- the units that remembering a state takes, in a walk over n rows
abbrev pub units_for : ℕ → Defined → ℕ
units_for n m = 2 + cells_of m + count_cells n

-- a state below the remembered ones
pub record Offers (limit : ℕ) (cs : List Cell) (b : BranchList) (s : MemoryState) : Type 0 where
  pub map : IsMap cs s.map
  pub most : s.map.used ≤ limit
  pub below : s.map.base + s.map.used ≤ b.first

-- a branch that is known
pub record Dropped (limit bound n : ℕ) (ys : List ℕ) (b c : BranchList) (ks ws : List Kept) : Type 0 where
  pub same : c ≡ b
  pub remembers : Remembers limit bound n ys c ks ws

-- a branch that is kept, and waits
pub record Added (limit bound n : ℕ) (ys : List ℕ) (b c : BranchList) (ks ws : List Kept) (m : Defined) (past : List ℕ) : Type 0 where
  pub first : c.first ≡ b.first
  pub top : c.top ≡ b.top + units_for n m
  pub remembers : Remembers limit bound n ys c (record { at = b.top; mem = m; past = past } ∷ ks) (record { at = b.top; mem = m; past = past } ∷ ws)

module _ (limit bound n : ℕ) (xs ys : List ℕ) (b c : BranchList) (ks ws : List Kept) (m : Defined) (past : List ℕ) where
  -- by the definition's verdict, with the space that is left
  abbrev pub TellsPush : Result (Unit {0}) Refusal → Type 0
  TellsPush (Err e) = judge eq_state (units_for n) m (states ks) (length (cells xs) - b.top) ≡ no_space
  TellsPush (Ok u) =
      ((judge eq_state (units_for n) m (states ks) (length (cells xs) - b.top) ≡ dropped) × Dropped limit bound n ys b c ks ws)
      ⊎ ((judge eq_state (units_for n) m (states ks) (length (cells xs) - b.top) ≡ kept) × Added limit bound n ys b c ks ws m past)

-- whatever is held: a refusal is for want of space and leaves list and area as they were; no byte is written unless a state is added, and none
-- from the new top on
abbrev pub WritesPush : List ℕ → List ℕ → BranchList → BranchList → Result (Unit {0}) Refusal → Type 0
WritesPush xs ys b c (Err e) = (e ≡ NoSpace) × (c ≡ b) × (ys ≡ xs)
WritesPush xs ys b c (Ok u) = (c ≡ b → ys ≡ xs) × Above (cells xs) (cells ys) c.top

-- the current lineage's counts are at the cell `counts`; c is the list then
pub record Pushes (limit n counts : ℕ) (xs ys : List ℕ) (b c : BranchList) (s : MemoryState) (r : Result (Unit {0}) Refusal) : Type 0 where
  pub says : (bound : ℕ) (ks ws : List Kept) (m : Defined) (past : List ℕ) → Remembers limit bound n xs b ks ws → HoldsState limit bound (cells xs) s m → Counted xs n counts past → TellsPush limit bound n xs ys b c ks ws m past r
  pub below : Below (cells xs) (cells ys) b.first
  pub writes : WritesPush xs ys b c r
  pub bytes : length ys ≡ length xs

-- the latest that waits, and the list without it
pub record Taken (limit bound n : ℕ) (xs : List ℕ) (ks ws : List Kept) (b c : BranchList) (p : ℕ) : Type 0 where
  pub taken : Kept
  pub rest : List Kept
  pub is : ws ≡ taken ∷ rest
  pub at : taken.at ≡ p
  pub first : c.first ≡ b.first
  pub top : c.top ≡ b.top
  pub last : link_of c.last < link_of b.last
  pub remembers : Remembers limit bound n xs c ks rest

abbrev pub TellsPop : ℕ → ℕ → ℕ → List ℕ → List Kept → List Kept → BranchList → BranchList → Option ℕ → Type 0
TellsPop limit bound n xs ks ws b c None = ws ≡ []
TellsPop limit bound n xs ks ws b c (Some p) = Taken limit bound n xs ks ws b c p

pub record Pops (limit n : ℕ) (xs : List ℕ) (b c : BranchList) (r : Option ℕ) : Type 0 where
  pub says : (bound : ℕ) (ks ws : List Kept) → Remembers limit bound n xs b ks ws → TellsPop limit bound n xs ks ws b c r

-- the state at p is at `base` too, and its counts at `counts`; no other cell is another
pub record Loads (limit n base counts p : ℕ) (xs ys : List ℕ) (r : MemoryState) : Type 0 where
  pub says : (bound : ℕ) (k : Kept) → k.at ≡ p → IsKept limit bound n xs k → HoldsState limit bound (cells ys) r k.mem × Counted ys n counts k.past
  pub is : r ≡ record { row = row_at (cells xs) p; map = record { base = base; len = len_at (cells xs) p; used = used_at (cells xs) p } }
  pub runs : runs_at (cells ys) r.map ≡ runs_at (cells xs) (state_at (cells xs) p).map
  pub copied : Agree (cells xs) (p + 2 + used_at (cells xs) p) (cells ys) counts (count_cells n)
  pub room : HasRoom (cells ys) limit r.map
  pub outside : Outside (cells xs) (cells ys) base (used_at (cells xs) p) counts (count_cells n)
  pub bytes : length ys ≡ length xs
