-- Laws of specs/Hash.antt: a turn of the loop that takes a hash, and that a state's hashes are those of its row and cells. Assumes nothing.
use Rattle.std.proofs.Common.{◌≡◌, ℕ, zero, suc, ◌+◌, ◌-◌, ◌<◌, ◌≤◌, List, get_or, sym, refl, ap, ◌∙◌, ap₂, arith}
use mathlib.Core.List.{flatten}
use Rattle.area.specs.Cells.{blank}
use Rattle.area.specs.declared.Cell.{Cell}
use Rattle.intmap.specs.Entries.{span}
use Rattle.intmap.specs.Map.{levels, runs_at, IsMap}
use Rattle.intmap.specs.declared.IntMap.{IntMap}
use Rattle.state.specs.declared.MemoryState.{MemoryState}
use Rattle.encoding.proofs.Standing.{entries_flat}
use Rattle.branches.specs.Hash.{mix, fold, mix_cells, hash_from}

-- no cells are left
pub mixed_end : (cs : List Cell) (h at left : ℕ) → left ≤ 0 → h ≡ mix_cells h (span cs at left)
unfolding mix_cells span
mixed_end cs h at zero le = refl
mixed_end cs h at (suc left) le = absurd (omega arith)

-- one cell goes in
pub mixed_turn : (cs : List Cell) (h at end : ℕ) (c : Cell) (one two : ℕ) → at < end → c ≡ get_or cs at blank → one ≡ fold h c.head → two ≡ mix one c.payload → mix_cells two (span cs (at + 1) (end - (at + 1))) ≡ mix_cells h (span cs at (end - at))
unfolding mix_cells span
mixed_turn cs h at end c one two lt e f g = let z : end - at ≡ suc (end - (at + 1)) = omega arith in rw (z, g, f, e)

pub hash_whole : (cs : List Cell) (s : MemoryState) (start h : ℕ) → h ≡ mix start s.row → mix_cells h (span cs s.map.base (s.map.base + s.map.used - s.map.base)) ≡ hash_from cs s start
unfolding hash_from
hash_whole cs s start h e = let z : s.map.base + s.map.used - s.map.base ≡ s.map.used = omega arith in rw (z, e)

-- maps with equal entries have equal cells
pub runs-span : (cs ds : List Cell) (a b : IntMap) → IsMap cs a → IsMap ds b → runs_at cs a ≡ runs_at ds b → span cs a.base a.used ≡ span ds b.base b.used
runs-span cs ds a b is on e =
    ap (span cs a.base) is.used
    ∙ sym (entries_flat cs levels a.len a.base)
    ∙ ap flatten e
    ∙ entries_flat ds levels b.len b.base
    ∙ ap (span ds b.base) (sym on.used)

-- and, with equal rows, equal hashes
pub hashes_equal : (cs ds : List Cell) (s t : MemoryState) → IsMap cs s.map → IsMap ds t.map → s.row ≡ t.row → runs_at cs s.map ≡ runs_at ds t.map → hash_from cs s ≡ hash_from ds t
unfolding hash_from
hashes_equal cs ds s t is on r e = ap₂ (λ x l start. mix_cells (mix start x) l) r (runs-span cs ds s.map t.map is on e)
