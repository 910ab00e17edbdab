-- Columns as runs of cells: a single cell, or a record's cell with its columns after it. How many cells they take, and when two are equal.
-- 01, "Shapes that change": a record within itself is "a run of cells with a depth". Below, d bounds how deep records nest. Assumes nothing.
use Rattle.std.specs.Prelude.{◌≡◌, List, Bool, true, false, ◌&&◌, ℕ, zero, suc, ◌+◌, ◌≤◌, ◌<◌, length, get_or, eqb}
use Rattle.area.specs.Cells.{blank}
use Rattle.area.specs.Moves.{moved}
use Rattle.area.specs.declared.Cell.{Cell}
use Rattle.intmap.specs.Pack.{tag_of}

-- n columns, each as long as f says, from `at` on
unfoldable pub sizes : (ℕ → ℕ) → ℕ → ℕ → ℕ
sizes f zero at = 0
sizes f (suc n) at = f at + sizes f n (at + f at)

-- a record's cell with its n columns, or a cell alone
unfoldable pub whole : (ℕ → ℕ) → Bool → ℕ → ℕ → ℕ
whole f true n at = 1 + sizes f n (at + 1)
whole f false n at = 1

-- the cells of the column at `at`
unfoldable pub size : List Cell → ℕ → ℕ → ℕ
size cs zero at = 1
size cs (suc d) at = whole (size cs d) (eqb (tag_of (get_or cs at blank)) 2) (get_or cs at blank).payload at

-- the column at `at`, or n columns from there on, lie within the area, which has at most 16 MiB
pub record IsColumn (cs : List Cell) (d at : ℕ) : Type 0 where
  pub fits : at + size cs d at ≤ length cs
  pub small : length cs ≤ 1048576

pub record AreColumns (cs : List Cell) (d n at : ℕ) : Type 0 where
  pub fits : at + sizes (size cs d) n at ≤ length cs
  pub small : length cs ≤ 1048576

-- two cells have the same words
abbrev pub same_cell : Cell → Cell → Bool
same_cell x y = eqb x.head y.head && eqb x.payload y.payload

-- n columns from a on and n from b on are the same by e, each as long as f says
unfoldable pub each_same : (ℕ → ℕ → Bool) → (ℕ → ℕ) → ℕ → ℕ → ℕ → Bool
each_same e f zero a b = true
each_same e f (suc n) a b = e a b && each_same e f n (a + f a) (b + f b)

-- a record's cell has columns to compare, and another none
unfoldable pub inside : Bool → Bool → Bool
inside true b = b
inside false b = true

-- the columns at a and b are the same: their cells, keys included, and of two records each column
unfoldable pub eq_column : List Cell → ℕ → ℕ → ℕ → Bool
eq_column cs zero a b = same_cell (get_or cs a blank) (get_or cs b blank)
eq_column cs (suc d) a b =
    same_cell (get_or cs a blank) (get_or cs b blank)
    && (inside (eqb (tag_of (get_or cs a blank)) 2) (each_same (eq_column cs d) (size cs d) (get_or cs a blank).payload (a + 1) (b + 1)))

-- and of n columns from each on
unfoldable pub eq_columns : List Cell → ℕ → ℕ → ℕ → ℕ → Bool
eq_columns cs d n a b = each_same (eq_column cs d) (size cs d) n a b

-- n cells at `from` can be copied to `to`, which lies above them
pub record Copyable (cs : List Cell) (from to n : ℕ) : Type 0 where
  pub apart : from + n ≤ to
  pub room : to + n ≤ length cs
  pub small : length cs ≤ 1048576

-- the n cells at `from` stand at `to` too, and nothing else has changed; r is how many they are
pub record Copied (cs ds : List Cell) (from to n r : ℕ) : Type 0 where
  pub count : r ≡ n
  pub cells : ds ≡ moved cs from to n
  pub long : length ds ≡ length cs

-- the n cells of ds from q on are those of cs from p on
abbrev pub Agree : List Cell → ℕ → List Cell → ℕ → ℕ → Type 0
Agree cs p ds q n = (j : ℕ) → j < n → get_or ds (q + j) blank ≡ get_or cs (p + j) blank
