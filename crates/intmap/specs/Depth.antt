-- How deep records nest in a column, which 01 limits: refusal 9 is for "records nested deeper than 8". Assumes nothing.
use Rattle.std.specs.Prelude.{List, Bool, true, false, ℕ, zero, suc, ◌+◌, max, get_or, eqb}
use Rattle.area.specs.Cells.{blank}
use Rattle.area.specs.declared.Cell.{Cell}
use Rattle.intmap.specs.Pack.{tag_of}
use Rattle.intmap.specs.Runs.{size}

-- the most of n columns from p on, each as deep as e says and as long as f says
unfoldable pub deepest : (ℕ → ℕ) → (ℕ → ℕ) → ℕ → ℕ → ℕ
deepest e f zero p = 0
deepest e f (suc n) p = max (e p) (deepest e f n (p + f p))

-- a record is one level more than its columns
unfoldable pub under : Bool → ℕ → ℕ
under true m = m + 1
under false m = 0

-- the levels of records in the column at p, at most d
unfoldable pub nesting : List Cell → ℕ → ℕ → ℕ
nesting cs zero p = 0
nesting cs (suc d) p = under (eqb (tag_of (get_or cs p blank)) 2) (deepest (nesting cs d) (size cs d) (get_or cs p blank).payload (p + 1))

-- and in n columns from p on
unfoldable pub nestings : List Cell → ℕ → ℕ → ℕ → ℕ
nestings cs d n p = deepest (nesting cs d) (size cs d) n p
