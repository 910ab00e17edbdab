-- What the entries of a map add to the bytes of the columns: each register's run by its first cell. Assumes nothing.
use Rattle.std.specs.Prelude.{List, [], ◌∷◌, ℕ, ◌+◌, ◌-◌, ◌*◌, ◌/◌, ◌%◌, max, eqb, ltb, get_or, set}
use Rattle.area.specs.Cells.{blank}
use Rattle.area.specs.declared.Cell.{Cell}
use Rattle.intmap.specs.Pack.{tag_of, kind_of, nullable_of, key_of}
use Rattle.intmap.specs.Pick.{pick}
use Rattle.intmap.specs.Entries.{Runs, key_run}

-- the byte of a register: a plain column's codes, an Integer that is never null for a known number, and nothing known of a record
unfoldable pub cell_byte : Cell → ℕ
cell_byte c = pick (eqb (tag_of c) 1) (kind_of c % 64 * 4 + nullable_of c % 4) (pick (eqb (tag_of c) 3) 5 0)

-- the newer kind unless it is Null, and the larger nullable: what says yes, else what says no
unfoldable pub merge_byte : ℕ → ℕ → ℕ
merge_byte new old = pick (eqb (new / 4) 0) (old / 4) (new / 4) * 4 + max (new % 4) (old % 4)

-- an entry's cell, merged into the column of its key; i is the key of the first column
unfoldable pub merge_cell : ℕ → Cell → List ℕ → List ℕ
merge_cell i c bytes = pick (ltb (key_of c) i) bytes (set bytes (key_of c - i) (merge_byte (cell_byte c) (get_or bytes (key_of c - i) 0)))

-- a run's first cell
abbrev pub head_run : List Cell → Cell
head_run [] = blank
head_run (c ∷ cs) = c

-- the entries up to the first whose key is past the n columns
unfoldable pub merge_runs : ℕ → ℕ → Runs → List ℕ → List ℕ
merge_runs i n [] bytes = bytes
merge_runs i n (e ∷ es) bytes = pick (ltb (key_run e) (i + n)) (merge_runs i n es (merge_cell i (head_run e) bytes)) bytes
