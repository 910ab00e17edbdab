-- Heads changed in place: another nullable for a head that is a single column's, a known number as a column, the heads of runs in a row,
-- by their places, and so the columns of a record or table.
-- 01, "The rows": "NullRow on a pseudo cursor changes the register's record; nested records keep theirs." Assumes nothing.
use Rattle.std.specs.Prelude.{List, ℕ, zero, suc, ◌+◌, eqb, get_or, set}
use Rattle.area.specs.Cells.{cell, blank}
use Rattle.area.specs.declared.Cell.{Cell}
use Rattle.intmap.specs.Pick.{pick}
use Rattle.intmap.specs.Pack.{head, with_nullable, tag_of}
use Rattle.intmap.specs.Runs.{size}

abbrev pub single_nullable : ℕ → Cell → Cell
single_nullable nullable c = pick (eqb (tag_of c) 1) (with_nullable nullable c) c

-- a known number's head as that of an Integer that is never null, and others as they are
abbrev pub as_column : Cell → Cell
as_column c = pick (eqb (tag_of c) 3) (cell (head 1 1 1 0) 0) c

-- n runs from `at` on, each with its head changed
unfoldable pub on_heads : (Cell → Cell) → ℕ → List Cell → ℕ → ℕ → List Cell
on_heads f d cs zero at = cs
on_heads f d cs (suc n) at = on_heads f d (set cs at (f (get_or cs at blank))) n (at + size cs d at)

-- NullRow on the record or table at p: the single columns among its columns may be null
abbrev pub null_heads : List Cell → ℕ → List Cell
null_heads cs p = on_heads (single_nullable 2) 8 cs (get_or cs p blank).payload (p + 1)
