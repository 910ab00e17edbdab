-- A map that is kept: where its cells stand as they did, here or elsewhere, it is the same map. What lies outside a frame, what a copy leaves, and
-- the empty map. Assumes nothing.
use mathlib.Core.Path.{◌≡◌, refl, sym, ap, ◌∙◌}
use mathlib.Core.List.{List}
use Prim.Native.Nat.{ℕ, ◌+◌, ◌≤◌}
use native.Mathlib.Omega.{arith}
use lib.ListN.{length, get_or}
use Rattle.area.specs.Cells.{blank}
use Rattle.area.specs.Moves.{moved}
use Rattle.area.specs.declared.Cell.{Cell}
use Rattle.area.proofs.MoveLaws.{moved_below, moved_above, moved_in, length_moved}
use Rattle.intmap.specs.Runs.{size, sizes, Copied, Agree}
use Rattle.intmap.specs.Entries.{span, entries}
use Rattle.intmap.specs.Map.{levels, empty, runs_at, IsMap, HasRoom, Frame, CopiedMap}
use Rattle.intmap.specs.declared.IntMap.{IntMap}
use Rattle.intmap.proofs.SameCells.{size_same, sizes_same}
use Rattle.intmap.proofs.EntryLaws.{entry-same, entries-same}

-- the map at another place
abbrev pub placed : ℕ → IntMap → IntMap
placed q m = record { base = q; len = m.len; used = m.used }

-- its cells stand at q
module _ (cs ds : List Cell) (m : IntMap) (q : ℕ) (is : IsMap cs m) (same : Agree cs m.base ds q m.used) where
  all : Agree cs m.base ds q (sizes (size cs levels) m.len m.base)
  all j lt = same j (omega (arith, is.used))

  used_same : m.used ≡ sizes (size ds levels) m.len q
  used_same = is.used ∙ sym (sizes_same (size cs levels) (size ds levels) cs ds (size_same cs ds levels) m.len m.base q all)

  pub placed_runs : runs_at ds (placed q m) ≡ runs_at cs m
  placed_runs = entries-same cs ds levels m.len m.base q all

  module _ (long : length ds ≡ length cs) where
    pub placed_map : q + m.used ≤ length ds → IsMap ds (placed q m)
    placed_map fits = record { used = used_same; inside = fits; small = omega (arith, is.small) }

    pub placed_room : (limit : ℕ) → m.used ≤ limit → q + limit ≤ length ds → HasRoom ds limit (placed q m)
    placed_room limit most fits = record { used = used_same; most = most; room = fits; small = omega (arith, is.small) }

-- it lies outside what was written
module _ (cs ds : List Cell) (base n : ℕ) (f : Frame cs ds base n) (m : IntMap) where
  pub frame_below : m.base + m.used ≤ base → Agree cs m.base ds m.base m.used
  frame_below le j lt = f.below (m.base + j) (omega arith)

  pub frame_above : base + n ≤ m.base → Agree cs m.base ds m.base m.used
  frame_above le j lt = f.above (m.base + j) (omega arith)

-- what a copy leaves
module _ (cs ds : List Cell) (from to n r : ℕ) (c : Copied cs ds from to n r) where
  pub copied_frame : Frame cs ds to n
  copied_frame =
      record {
        long = c.long;
        below = λ j lt. ap (λ (l : List Cell). get_or l j blank) c.cells ∙ moved_below cs from to n j lt;
        above = λ j le. ap (λ (l : List Cell). get_or l j blank) c.cells ∙ moved_above cs from to n j le;
      }

  pub copied_agree : to + n ≤ length cs → Agree cs from ds to n
  copied_agree fits j lt = ap (λ (l : List Cell). get_or l (to + j) blank) c.cells ∙ moved_in cs from to n j fits lt

-- of a whole map
pub map-copied : (cs ds : List Cell) (m : IntMap) (to : ℕ) → IsMap cs m → to + m.used ≤ length cs → ds ≡ moved cs m.base to m.used → CopiedMap cs ds m to (placed to m)
map-copied cs ds m to is fits w =
    let c : Copied cs ds m.base to m.used m.used = record { count = refl; cells = w; long = ap length w ∙ length_moved cs m.base to m.used } in
    let a = copied_agree cs ds m.base to m.used m.used c fits in
    record {
      map = refl;
      runs = placed_runs cs ds m to is a;
      is = placed_map cs ds m to is a c.long (omega (arith, c.long));
      frame = copied_frame cs ds m.base to m.used m.used c;
    }

pub copied_column : (cs ds : List Cell) (d from to r : ℕ) → to + size cs d from ≤ length cs → Copied cs ds from to (size cs d from) r → (size ds d to ≡ size cs d from) × (span ds to (size ds d to) ≡ span cs from (size cs d from))
copied_column cs ds d from to r fits c =
    let a = copied_agree cs ds from to (size cs d from) r c fits in
    (size_same cs ds d from to a, entry-same cs ds d from to a)

pub copied-columns : (cs ds : List Cell) (d n from to r : ℕ) → to + sizes (size cs d) n from ≤ length cs → Copied cs ds from to (sizes (size cs d) n from) r → (sizes (size ds d) n to ≡ sizes (size cs d) n from) × (entries ds d n to ≡ entries cs d n from)
copied-columns cs ds d n from to r fits c =
    let a = copied_agree cs ds from to (sizes (size cs d) n from) r c fits in
    (sizes_same (size cs d) (size ds d) cs ds (size_same cs ds d) n from to a, entries-same cs ds d n from to a)

-- nothing is there
pub empty-map : (cs : List Cell) (base : ℕ) → base ≤ length cs → length cs ≤ 1048576 → IsMap cs (empty base)
unfolding sizes
empty-map cs base fits small = record { used = refl; inside = omega arith; small = small }

pub empty_room : (cs : List Cell) (limit base : ℕ) → base + limit ≤ length cs → length cs ≤ 1048576 → HasRoom cs limit (empty base)
unfolding sizes
empty_room cs limit base fits small = record { used = refl; most = omega arith; room = fits; small = small }
