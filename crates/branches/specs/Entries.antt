-- The remembered states in the area and those that wait: `BranchList` of explain.rs, `states` and `visited_branch_state`. They lie one behind the
-- other, the latest last; each lies on the way of its own hashes in a search tree whose root is the first; those that wait are linked, the
-- latest first. Assumes nothing.
use Rattle.std.specs.Prelude.{◌≡◌, ℕ, ◌+◌, ◌/◌, ◌<◌, ◌≤◌, ◌⊎◌, List, [], ◌∷◌, length, ◌==◌, ◌≢◌, Option, None, Some}
use Rattle.model.specs.Walk.{◌∈◌, count, Lineage}
use Rattle.model.specs.State.{MemoryState as Defined}
use Rattle.area.specs.Cells.{cells}
use Rattle.area.specs.Counts.{count as count_at}
use Rattle.area.specs.declared.Cell.{Cell}
use Rattle.intmap.specs.Map.{IsMap}
use Rattle.intmap.specs.Pick.{pick}
use Rattle.state.specs.Steps.{HoldsState}
use Rattle.branches.specs.Header.{hash_at, child, used_at, next_at, state_at, place_of}
use Rattle.branches.specs.Hash.{hash_from, hash_of}
use Rattle.branches.specs.declared.BranchList.{BranchList}

-- the counts of n rows from a cell on are those of a lineage's past
abbrev pub Counted : List ℕ → ℕ → ℕ → List ℕ → Type 0
Counted xs n from past = (i : ℕ) → i < n → count_at xs from i ≡ count i past

-- the cells that the counts of n rows take
abbrev pub count_cells : ℕ → ℕ
count_cells n = (n + 15) / 16

-- a remembered state: where it lies, what it is, and the rows that its lineage had handled
pub record Kept : Type 0 where
  pub at : ℕ
  pub mem : Defined
  pub past : List ℕ

-- the states, and the lineages
abbrev pub states : List Kept → List Defined
states [] = []
states (k ∷ ks) = k.mem ∷ states ks

abbrev pub lineages : List Kept → List (Lineage Defined)
lineages [] = []
lineages (k ∷ ks) = record { mem = k.mem; past = k.past } ∷ lineages ks

-- n is the number of rows
pub record IsKept (limit bound n : ℕ) (xs : List ℕ) (k : Kept) : Type 0 where
  pub map : IsMap (cells xs) (state_at (cells xs) k.at).map
  pub holds : HoldsState limit bound (cells xs) (state_at (cells xs) k.at) k.mem
  pub hash : hash_at (cells xs) k.at ≡ hash_of (cells xs) (state_at (cells xs) k.at)
  pub counts : Counted xs n (k.at + 2 + used_at (cells xs) k.at) k.past

-- one behind the other from `first` to `top`
abbrev pub Blocks : List Cell → ℕ → ℕ → ℕ → List Kept → Type 0
Blocks cs n first top [] = top ≡ first
Blocks cs n first top (k ∷ ks) = (k.at + 2 + used_at cs k.at + count_cells n ≡ top) × Blocks cs n first k.at ks

-- one of them is at p
pub record Stands (ks : List Kept) (p : ℕ) : Type 0 where
  pub kept : Kept
  pub among : kept ∈ ks
  pub at : kept.at ≡ p

-- the search tree: the bits that lead on from p for a state that is not there and has the hashes f: those without their last digit to the
-- base 3, but where the state at p has the same hash, those of the hash that starts from p. So states of one hash, which can be made on purpose,
-- part again.
unfoldable pub next_bits : List Cell → (ℕ → ℕ) → ℕ → ℕ → ℕ
next_bits cs f p bits = pick (hash_at cs p == f 0) (f (p + 1)) (bits / 3)

-- the way from a place, by such bits, to another, with the bits that are left there
pub data Path (cs : List Cell) (ks : List Kept) (f : ℕ → ℕ) : ℕ → ℕ → ℕ → ℕ → Type 0 where
  here : {p bits : ℕ} → Path cs ks f p bits p bits
  down : {p bits to left : ℕ} → Stands ks p → (child cs p bits ≢ 0) → Path cs ks f (child cs p bits) (next_bits cs f p bits) to left → Path cs ks f p bits to left

pub record OnPath (cs : List Cell) (ks : List Kept) (f : ℕ → ℕ) (p bits to : ℕ) : Type 0 where
  pub left : ℕ
  pub path : Path cs ks f p bits to left

-- the whole way, from the root on
abbrev pub OnWay : List Cell → List Kept → ℕ → (ℕ → ℕ) → ℕ → Type 0
OnWay cs ks first f to = OnPath cs ks f first (f 0) to

-- a link leads nowhere or to a later one
pub record Later (ks : List Kept) (p q : ℕ) : Type 0 where
  pub stands : Stands ks q
  pub after : p < q

abbrev pub Links : List Cell → List Kept → ℕ → Type 0
Links cs ks p = (bits : ℕ) → (child cs p bits ≡ 0) ⊎ Later ks p (child cs p bits)

-- those that wait, from the latest on; what waits behind one lies before it, so that taking them up comes to an end
abbrev pub Waiting : List Cell → Option ℕ → List Kept → Type 0
Waiting cs last [] = last ≡ None
Waiting cs last (k ∷ ks) = (last ≡ Some k.at) × (next_at cs k.at < k.at) × Waiting cs (place_of (next_at cs k.at)) ks

pub record Remembers (limit bound n : ℕ) (xs : List ℕ) (b : BranchList) (ks ws : List Kept) : Type 0 where
  pub blocks : Blocks (cells xs) n b.first b.top ks
  pub kept : (k : Kept) → k ∈ ks → IsKept limit bound n xs k
  pub paths : (k : Kept) → k ∈ ks → OnWay (cells xs) ks b.first (hash_from (cells xs) (state_at (cells xs) k.at)) k.at
  pub links : (k : Kept) → k ∈ ks → Links (cells xs) ks k.at
  pub waiting : Waiting (cells xs) b.last ws
  pub among : (k : Kept) → k ∈ ws → k ∈ ks
  pub positive : 0 < b.first
  pub inside : b.top ≤ length (cells xs)
  pub small : length (cells xs) ≤ 1048576
  pub limited : limit ≤ 65535

-- some states are remembered
pub record Remembering (limit n : ℕ) (xs : List ℕ) (b : BranchList) : Type 0 where
  pub bound : ℕ
  pub all : List Kept
  pub wait : List Kept
  pub remembers : Remembers limit bound n xs b all wait

-- none from `first` on
abbrev pub none : ℕ → BranchList
none first = record { first = first; top = first; last = None }
