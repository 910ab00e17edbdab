-- The walk over a listing, as a call runs it: 100,000 units, from the fresh start, with the space that the area leaves.
-- 01, "The walk". Assumes nothing.
use Rattle.std.specs.Prelude.{List, ℕ}
use Rattle.model.specs.Walk.{Walked, walk}
use Rattle.model.specs.Row.{Row}
use Rattle.model.specs.State.{MemoryState, fresh}
use Rattle.model.specs.Equality.{eq_state}
use Rattle.model.specs.Meaning.{Meaning}
use Rattle.model.specs.Results.{ResultRow}
use Rattle.model.specs.Explain.{ways, space_of, row_of, units}

-- the Rust's MAX_TOTAL_INSTRUCTION_COUNT: "100,000 units"
abbrev pub gas_given : ℕ
gas_given = 100000

-- for an area of this many bytes
abbrev pub walk_listing : Meaning → List Row → ℕ → Walked MemoryState ResultRow
walk_listing meaning rows area = walk eq_state (row_of rows) (ways meaning rows) (units rows) gas_given fresh (space_of meaning rows area)
