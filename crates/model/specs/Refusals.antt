-- The numbers with which a row can be refused: 01, "a row ... that the walk refuses there with 6 to 10 or 12". Assumes nothing.
use Rattle.std.specs.Prelude.{Bool, ◌||◌, ℕ, eqb}
use Rattle.type_info.specs.Ascii.{within}

unfoldable pub of_row : ℕ → Bool
of_row k = within 6 10 k || eqb k 12
