-- The arm ResultRow of `explain`: the registers P1 to P1 + P2 − 1 make a result row, and the next row is a branch. 01, "Walk, refusals":
-- "12 a result row wider than 2,000", "judged before its accesses". With P2 below 0 the row's width is 0. Assumes nothing.
use Rattle.std.specs.Prelude.{Bool, true, false, [], ◌∷◌, ℕ, leb, None, Some}
use Rattle.model.specs.Walk.{refused, done}
use Rattle.model.specs.Row.{Row}
use Rattle.model.specs.State.{MemoryState}
use Rattle.model.specs.Access.{◌>>=◌, next, read_columns}
use Rattle.model.specs.Results.{result_columns}
use Rattle.model.specs.Offer.{Offer, turns}

abbrev pub result_if : Bool → ℕ → Row → MemoryState → Offer
result_if true row x m =
    read_columns (turns x.p2) x.p1 m >>= λ cs.
    done (record { branches = next m ∷ []; stays = None; result = Some (record { row = row; columns = result_columns cs }); repeat = false })
result_if false row x m = refused 12

unfoldable pub result_row_arm : ℕ → Row → MemoryState → Offer
result_row_arm row x m = result_if (leb (turns x.p2) 2000) row x m
