-- The hashes of a state, one for each start: its row and the cells of its map, word after word, a cell's head by `fold` and the rest by `mix`,
-- so that a hash is no sum of words times powers. Nothing is claimed of them but that they are functions of row and cells: they only decide
-- where a state is looked for. Assumes nothing.
use Rattle.std.specs.Prelude.{ℕ, ◌+◌, ◌*◌, ◌/◌, ◌%◌, List, [], ◌∷◌}
use Rattle.area.specs.declared.Cell.{Cell}
use Rattle.intmap.specs.Entries.{span}
use Rattle.state.specs.declared.MemoryState.{MemoryState}
use Rattle.branches.specs.Header.{half}

-- one step of a multiplication with carry
abbrev pub stir : ℕ → ℕ
stir s = s % half * 4294967291 + s / half

-- a word goes in
unfoldable pub mix : ℕ → ℕ → ℕ
mix h x = stir ((h + x) % 18446744073709551616)

-- the sum with the product of its halves, as a word
abbrev pub bend : ℕ → ℕ
bend s = (s + s % half * (s / half)) % 18446744073709551616

-- a word goes in, and the product of the sum's halves is added: what differs afterwards depends on the hash so far
unfoldable pub fold : ℕ → ℕ → ℕ
fold h x = bend ((h + x) % 18446744073709551616)

unfoldable pub mix_cells : ℕ → List Cell → ℕ
mix_cells h [] = h
mix_cells h (c ∷ cs) = mix_cells (mix (fold h c.head) c.payload) cs

unfoldable pub hash_from : List Cell → MemoryState → ℕ → ℕ
hash_from cs s start = mix_cells (mix start s.row) (span cs s.map.base s.map.used)

-- the one that a header has
abbrev pub hash_of : List Cell → MemoryState → ℕ
hash_of cs s = hash_from cs s 0
