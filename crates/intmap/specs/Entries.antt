-- The entries of a map as a list of runs, each its cells. Assumes nothing.
use Rattle.std.specs.Prelude.{List, [], ◌∷◌, ℕ, zero, suc, ◌+◌, length, get_or}
use Rattle.area.specs.Cells.{blank}
use Rattle.area.specs.declared.Cell.{Cell}
use Rattle.intmap.specs.Pack.{key_of}
use Rattle.intmap.specs.Runs.{size}

abbrev pub Runs : Type 0
Runs = List (List Cell)

-- n cells from p on
unfoldable pub span : List Cell → ℕ → ℕ → List Cell
span cs p zero = []
span cs p (suc n) = get_or cs p blank ∷ span cs (p + 1) n

-- n entries from p on
unfoldable pub entries : List Cell → ℕ → ℕ → ℕ → Runs
entries cs d zero p = []
entries cs d (suc n) p = span cs p (size cs d p) ∷ entries cs d n (p + size cs d p)

-- the key of an entry
unfoldable pub key_run : List Cell → ℕ
key_run [] = 0
key_run (c ∷ cs) = key_of c

-- the cells of all
unfoldable pub total : Runs → ℕ
total [] = 0
total (e ∷ es) = length e + total es
