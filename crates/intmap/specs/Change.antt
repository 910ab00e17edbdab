-- Runs under the keys 0, 1, 2, ...: n equal cells (`from_elem` of intmap.rs), and any runs (the columns of a record that is made). Assumes nothing.
use Rattle.std.specs.Prelude.{◌≡◌, List, [], ◌∷◌, ℕ, zero, suc, ◌+◌, ◌≤◌, length}
use Rattle.area.specs.declared.Cell.{Cell}
use Rattle.intmap.specs.Pack.{with_key}
use Rattle.intmap.specs.Entries.{Runs, span}
use Rattle.intmap.specs.Map.{Frame}

-- n times a cell, under the keys from k on
unfoldable pub elems : Cell → ℕ → ℕ → List Cell
elems c k zero = []
elems c k (suc n) = with_key k c ∷ elems c (suc k) n

-- a run with its head changed, and under another key
abbrev pub on_head : (Cell → Cell) → List Cell → List Cell
on_head f [] = []
on_head f (c ∷ cs) = f c ∷ cs

abbrev pub rekey : ℕ → List Cell → List Cell
rekey key run = on_head (with_key key) run

-- runs under the keys from k on
unfoldable pub rekeyed : ℕ → Runs → Runs
rekeyed k [] = []
rekeyed k (r ∷ rs) = rekey k r ∷ rekeyed (suc k) rs

-- n cells from `at` on lie within the area
pub record Writable (cs : List Cell) (at n : ℕ) : Type 0 where
  pub fits : at + n ≤ length cs
  pub small : length cs ≤ 1048576

-- n times the cell stands from `at` on
pub record FromElem (cs ds : List Cell) (at : ℕ) (c : Cell) (n : ℕ) : Type 0 where
  pub cells : span ds at n ≡ elems c 0 n
  pub frame : Frame cs ds at n
