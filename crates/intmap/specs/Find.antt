-- Where a key stands among entries that are in the order of their keys, or where it belongs. Assumes nothing.
use Rattle.std.specs.Prelude.{List, Bool, ◌&&◌, ℕ, zero, suc, ◌+◌, get_or, eqb, ltb, Result, Ok, Err}
use Rattle.area.specs.Cells.{blank}
use Rattle.area.specs.declared.Cell.{Cell}
use Rattle.intmap.specs.Pack.{key_of}
use Rattle.intmap.specs.Pick.{pick}
use Rattle.intmap.specs.Runs.{size}
use Rattle.intmap.specs.declared.Place.{Place}

abbrev pub place : ℕ → ℕ → Place
place at left = record { at = at; left = left }

-- the first of n entries from `at` on whose key is not below the one that is looked for, or their end
unfoldable pub seek_place : List Cell → ℕ → ℕ → ℕ → ℕ → Place
seek_place cs d key zero at = place at 0
seek_place cs d key (suc n) at = pick (ltb (key_of (get_or cs at blank)) key) (seek_place cs d key n (at + size cs d at)) (place at (suc n))

-- whether an entry with the key is at a place
unfoldable pub has_entry : List Cell → ℕ → Place → Bool
has_entry cs key w = ltb 0 w.left && eqb (key_of (get_or cs w.at blank)) key

abbrev pub seek_found : List Cell → ℕ → ℕ → ℕ → ℕ → Bool
seek_found cs d key n at = has_entry cs key (seek_place cs d key n at)

-- what a search answers: that place, as Ok if the entry there has the key
abbrev pub Sought : Type 0
Sought = Result Place Place

unfoldable pub seek : List Cell → ℕ → ℕ → ℕ → ℕ → Sought
seek cs d key n at = pick (seek_found cs d key n at) (Ok (seek_place cs d key n at)) (Err (seek_place cs d key n at))

-- the place, found or not
abbrev pub spot : Sought → Place
spot (Ok w) = w
spot (Err w) = w
