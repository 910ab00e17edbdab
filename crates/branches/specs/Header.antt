-- A remembered state in the area: two header cells, the cells of its map, and the cells of its lineage's handled counts. 01, "The walk":
-- "Remembering takes 2 + cells + (rows / 16, rounded up) units of 16 bytes". The header has the state's hash and row, three links of the search
-- tree, the entries and cells of its map, and the state that waits behind this one. A link is a cell's place; 0 stands for none. Assumes nothing.
use Rattle.std.specs.Prelude.{ℕ, ◌+◌, ◌*◌, ◌/◌, ◌%◌, ◌^◌, List, get_or, zero, suc, Option, None, Some}
use Rattle.area.specs.Cells.{blank}
use Rattle.area.specs.declared.Cell.{Cell}
use Rattle.state.specs.declared.MemoryState.{MemoryState}

-- half a word: 2^32
abbrev pub half : ℕ
half = 4294967296

-- a third of a word, in whole bits: 2^21
abbrev pub third : ℕ
third = 2097152

-- a link's word, 0 for none, and where it leads
abbrev pub link_of : Option ℕ → ℕ
link_of None = 0
link_of (Some p) = p

abbrev pub place_of : ℕ → Option ℕ
place_of zero = None
place_of (suc p) = Some (suc p)

-- the first header cell: hash and row
abbrev pub hash_at : List Cell → ℕ → ℕ
hash_at cs p = (get_or cs p blank).head

abbrev pub row_at : List Cell → ℕ → ℕ
row_at cs p = (get_or cs p blank).payload

-- the second: the links, and the sizes with the one that waits behind
abbrev pub links_at : List Cell → ℕ → ℕ
links_at cs p = (get_or cs (p + 1) blank).head

abbrev pub sizes_at : List Cell → ℕ → ℕ
sizes_at cs p = (get_or cs (p + 1) blank).payload

-- one of the three links, by the last digit, to the base 3, of what is left of a hash: the bit of their word at which it begins, and where it leads
abbrev pub shift : ℕ → ℕ
shift bits = 21 * (bits % 3)

unfoldable pub child : List Cell → ℕ → ℕ → ℕ
child cs p bits = links_at cs p / 2 ^ shift bits % third

-- the sizes as a word, and its parts
abbrev pub sizes_word : ℕ → ℕ → ℕ → ℕ
sizes_word len used next = len + 65536 * used + half * next

abbrev pub len_at : List Cell → ℕ → ℕ
len_at cs p = sizes_at cs p % 65536

abbrev pub used_at : List Cell → ℕ → ℕ
used_at cs p = sizes_at cs p / 65536 % 65536

abbrev pub next_at : List Cell → ℕ → ℕ
next_at cs p = sizes_at cs p / half

-- the state that the header tells of
abbrev pub state_at : List Cell → ℕ → MemoryState
state_at cs p = record { row = row_at cs p; map = record { base = p + 2; len = len_at cs p; used = used_at cs p } }
