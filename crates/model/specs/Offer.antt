-- What an arm of `explain` offers: branches in the order added, and the state that goes on; a refusal comes before the first branch.
-- Assumes nothing.
use Rattle.std.specs.Prelude.{Bool, true, false, List, [], ◌∷◌, ℕ, ℤ, pos, negsuc, Option, None, Some, slice_get}
use Rattle.model.specs.Walk.{Tried, done, Ways}
use Rattle.model.specs.Row.{Row}
use Rattle.model.specs.State.{MemoryState}
use Rattle.model.specs.Results.{ResultRow}

abbrev pub Offer : Type 0
Offer = Tried (Ways MemoryState ResultRow)

-- branches, and the state that goes on
abbrev pub offers : List MemoryState → Option MemoryState → Offer
offers branches stays = done (record { branches = branches; stays = stays; result = None; repeat = false })

-- `continue`
abbrev pub goes_on : MemoryState → Offer
goes_on m = offers [] (Some m)

-- `break`
abbrev pub ends : Offer
ends = offers [] None

abbrev pub branch_if : Bool → MemoryState → List MemoryState
branch_if true m = m ∷ []
branch_if false m = []

abbrev pub stay_if : Bool → MemoryState → Option MemoryState
stay_if true m = Some m
stay_if false m = None

-- the length of a loop from 0 to a number: 0 for one below 0
abbrev pub turns : ℤ → ℕ
turns (pos k) = k
turns (negsuc k) = 0

-- the row of the listing that a number names
unfoldable pub row_at : List Row → ℤ → Option Row
row_at rows (pos k) = slice_get rows k
row_at rows (negsuc k) = None
