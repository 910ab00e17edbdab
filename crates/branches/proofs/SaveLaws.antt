-- What `save`, `link` and `load` leave: a copy of a map and its counts with a header before them, a link that leads somewhere, and a copy below.
-- Assumes nothing.
use Rattle.std.proofs.Common.{◌≡◌, ℕ, ◌+◌, ◌*◌, ◌/◌, ◌%◌, ◌^◌, ◌<◌, ◌≤◌, ◌⊎◌, List, length, get_or, set, sym, refl, ap, ◌∙◌, subst, inl, inr, arith, get_or-set_other, get_or-set_same, shl_exact, Option, Some}
use Rattle.std.proofs.lemmas.Option.{none-some}
use native.Mathlib.Decide.{dec_lt}
use Rattle.area.specs.Cells.{cell, blank, cells, CellsNow}
use Rattle.area.specs.Moves.{moved}
use Rattle.area.specs.declared.Cell.{Cell}
use Rattle.area.proofs.CellLaws.{cells-kept}
use Rattle.area.proofs.MoveLaws.{moved_below, moved_above, moved_in}
use Rattle.area.proofs.CountLaws.{count_same}
use Rattle.intmap.specs.Runs.{Agree}
use Rattle.intmap.specs.Map.{runs_at, IsMap, HasRoom, CopiedMap}
use Rattle.intmap.specs.Signed.{int_of}
use Rattle.intmap.specs.declared.IntMap.{IntMap}
use Rattle.intmap.proofs.MapLaws.{placed, placed_map, placed_runs, placed_room}
use Rattle.encoding.proofs.Held.{held-copied, held_elsewhere}
use Rattle.state.specs.Leads.{HoldsMap}
use Rattle.state.specs.declared.MemoryState.{MemoryState}
use Rattle.branches.specs.Header.{third, sizes_word, shift, row_at, child, used_at, state_at, link_of}
use Rattle.branches.specs.Entries.{Counted, count_cells}
use Rattle.branches.specs.Lists.{Loads}
use Rattle.branches.specs.Changes.{Savable, Saves, Linkable, Linked, Connects, Loadable}
use Rattle.branches.specs.declared.FreeLink.{FreeLink}
use Rattle.branches.proofs.HeaderLaws.{child-read, third_there, third_other, third_fits}
use Rattle.branches.proofs.RememberLaws.{Bytes, counted_same}

-- ---- save: bs is the area with the map copied, ds with the counts, es with the first header cell
module _
    (n : ℕ)
    (xs bs ds es ys : List ℕ)
    (p : ℕ)
    (s : MemoryState)
    (h : ℕ)
    (next : Option ℕ)
    (counts : ℕ)
    (r : IntMap)
    (ok : Savable n (cells xs) p s next counts)
    (long : length bs ≡ length xs)
    (copied : CopiedMap (cells xs) (cells bs) s.map (p + 2) r)
    (moves : CellsNow bs ds (moved (cells bs) counts (p + 2 + s.map.used) (count_cells n)))
    (one : CellsNow ds es (set (cells ds) p (cell h s.row)))
    (two : CellsNow es ys (set (cells es) (p + 1) (cell 0 (sizes_word s.map.len s.map.used (link_of next)))))
  where
    lengths : (length (cells bs) ≡ length (cells xs)) × (length (cells ds) ≡ length (cells xs)) × (length (cells es) ≡ length (cells xs)) × (length (cells ys) ≡ length (cells xs))
    lengths = let a = cells-kept xs bs long in (a, moves.same ∙ a, one.same ∙ moves.same ∙ a, two.same ∙ one.same ∙ moves.same ∙ a)

    other : (j : ℕ) → (j ≡ p → ⊥) → (j ≡ p + 1 → ⊥) → get_or (cells ys) j blank ≡ get_or (moved (cells bs) counts (p + 2 + s.map.used) (count_cells n)) j blank
    other j a b =
        ap (λ (l : List Cell). get_or l j blank) two.cells
        ∙ get_or-set_other (cells es) (p + 1) j _ blank b
        ∙ ap (λ (l : List Cell). get_or l j blank) one.cells
        ∙ get_or-set_other (cells ds) p j _ blank a
        ∙ ap (λ (l : List Cell). get_or l j blank) moves.cells

    map_there : IsMap (cells bs) (placed (p + 2) s.map)
    map_there = subst (IsMap (cells bs)) copied.map copied.is

    runs_there : runs_at (cells bs) (placed (p + 2) s.map) ≡ runs_at (cells xs) s.map
    runs_there = subst (λ (m : IntMap). runs_at (cells bs) m ≡ runs_at (cells xs) s.map) copied.map copied.runs

    agree : Agree (cells bs) (p + 2) (cells ys) (p + 2) s.map.used
    agree j lt = other (p + 2 + j) (λ e. omega arith) (λ e. omega arith) ∙ moved_below (cells bs) counts (p + 2 + s.map.used) (count_cells n) (p + 2 + j) (omega arith)

    head_there : get_or (cells ys) p blank ≡ cell h s.row
    head_there =
        ap (λ (l : List Cell). get_or l p blank) two.cells
        ∙ get_or-set_other (cells es) (p + 1) p _ blank (λ e. omega arith)
        ∙ ap (λ (l : List Cell). get_or l p blank) one.cells
        ∙ get_or-set_same (cells ds) p _ blank (omega (arith, lengths.1, ok.room))

    sizes_there : get_or (cells ys) (p + 1) blank ≡ cell 0 (sizes_word s.map.len s.map.used (link_of next))
    sizes_there =
        ap (λ (l : List Cell). get_or l (p + 1) blank) two.cells
        ∙ get_or-set_same (cells es) (p + 1) _ blank (omega (arith, lengths.2, ok.room))

    pub saved : Bytes xs → Bytes ys → Saves n xs ys p s h next counts
    saved small less =
        let to : ℕ = p + 2 + s.map.used in
        let len = lengths.3 in
        let same : length (cells bs) ≡ length (cells xs) = lengths.0 in
        record {
          first = head_there;
          second = sizes_there;
          map = placed_map (cells bs) (cells ys) (placed (p + 2) s.map) (p + 2) map_there agree (len ∙ sym same) (omega (arith, len, ok.room));
          runs = placed_runs (cells bs) (cells ys) (placed (p + 2) s.map) (p + 2) map_there agree ∙ runs_there;
          counted = λ i lt. count_same ys xs to counts i less small (record { within = omega (arith, len, ok.room); small = omega (arith, len, ok.map.small) })
              (record { within = omega (arith, ok.room, ok.below); small = ok.map.small })
              (other (to + i / 16) (λ e. omega arith) (λ e. omega arith)
              ∙ moved_in (cells bs) counts to (count_cells n) (i / 16) (omega (arith, same, ok.room)) (omega arith)
              ∙ copied.frame.below (counts + i / 16) (omega (arith, ok.below)));
          below = record {
            long = len;
            same = λ j lt. other j (λ e. omega arith) (λ e. omega arith) ∙ moved_below (cells bs) counts to (count_cells n) j (omega arith) ∙ copied.frame.below j (omega arith);
          };
          above = λ j le. other j (λ e. omega arith) (λ e. omega arith) ∙ moved_above (cells bs) counts to (count_cells n) j le ∙ copied.frame.above j (omega arith);
          bytes = two.bytes ∙ one.bytes ∙ moves.bytes ∙ long;
        }

-- ---- link

-- another digit is that of a link below or above
apart : (bits b s : ℕ) → s ≡ shift bits → (b % 3 ≡ bits % 3 → ⊥) → (shift b + 21 ≤ s) ⊎ (s + 21 ≤ shift b)
apart bits b s is ne = elim (dec_lt (b % 3) (bits % 3)) [ yes lt ↦ inl (omega arith) | no ge ↦ inr (omega (arith, ne)) ]

-- s is the bit at which the free link begins, c the cell that has it
module _ (xs : List ℕ) (to : FreeLink) (p q s : ℕ) (c : Cell) (ok : Linkable xs to q) (at : to.at ≡ Some p) (read : c ≡ get_or (cells xs) (p + 1) blank) (is : s ≡ shift to.bits) where
  shifted : q * 2 ^ s % 2 ^ 64 ≡ q * 2 ^ s
  shifted = shl_exact 21 s 64 ok.place (omega arith)

  free : c.head / 2 ^ s % third ≡ 0
  free = child-read (cells xs) p to.bits s c read is ∙ ok.free p at

  pub link_fits : c.head < 2 ^ 64 → c.head + q * 2 ^ s % 2 ^ 64 < 2 ^ 64
  link_fits lt = subst (λ (x : ℕ). c.head + x < 2 ^ 64) (sym shifted) (third_fits c.head q s free ok.place (omega arith) lt)

  module _ (ys : List ℕ) (put : CellsNow xs ys (set (cells xs) (p + 1) (cell (c.head + q * 2 ^ s % 2 ^ 64) c.payload))) where
    written : get_or (cells ys) (p + 1) blank ≡ cell (c.head + q * 2 ^ s) c.payload
    written =
        ap (λ (l : List Cell). get_or l (p + 1) blank) put.cells
        ∙ get_or-set_same (cells xs) (p + 1) _ blank (omega (arith, ok.header p at))
        ∙ ap (λ (x : ℕ). cell (c.head + x) c.payload) shifted

    links_now : (b : ℕ) → child (cells ys) p b ≡ (c.head + q * 2 ^ s) / 2 ^ shift b % third
    links_now b = sym (child-read (cells ys) p b (shift b) _ (sym written) refl)

    linked_at : Linked (cells xs) (cells ys) p to.bits q
    linked_at =
        record {
          other = λ b d. links_now b ∙ third_other c.head q s free ok.place (shift b) (apart to.bits b s is d) ∙ child-read (cells xs) p b (shift b) c read refl;
          alike = λ b d. links_now b ∙ ap (λ (x : ℕ). (c.head + q * 2 ^ s) / 2 ^ x % third) (ap (λ (x : ℕ). 21 * x) d ∙ sym is) ∙ third_there c.head q s free ok.place;
          sizes = ap (λ (d : Cell). d.payload) written ∙ ap (λ (d : Cell). d.payload) read;
          elsewhere = λ j d. ap (λ (l : List Cell). get_or l j blank) put.cells ∙ get_or-set_other (cells xs) (p + 1) j _ blank d;
          long = put.same;
        }

    pub linked : Connects xs ys to q
    linked =
        record {
          none = λ z. absurd (none-some _ (sym z ∙ at));
          linked = λ r e. subst (λ (x : ℕ). Linked (cells xs) (cells ys) x to.bits q) (ap link_of (sym at ∙ e)) linked_at;
          bytes = put.bytes;
        }

-- ---- load: bs is the area with the map copied
module _
    (limit n : ℕ)
    (xs bs ys : List ℕ)
    (p base counts : ℕ)
    (r : IntMap)
    (ok : Loadable limit n (cells xs) p base counts)
    (long : length bs ≡ length xs)
    (copied : CopiedMap (cells xs) (cells bs) (state_at (cells xs) p).map base r)
    (moves : CellsNow bs ys (moved (cells bs) (p + 2 + used_at (cells xs) p) counts (count_cells n)))
  where
    len : length (cells bs) ≡ length (cells xs)
    len = cells-kept xs bs long

    kept_map : IsMap (cells bs) (placed base (state_at (cells xs) p).map)
    kept_map = subst (IsMap (cells bs)) copied.map copied.is

    low : Agree (cells bs) base (cells ys) base (used_at (cells xs) p)
    low j lt = ap (λ (l : List Cell). get_or l (base + j) blank) moves.cells ∙ moved_below (cells bs) (p + 2 + used_at (cells xs) p) counts (count_cells n) (base + j) (omega (arith, ok.most, ok.apart))

    high : Agree (cells xs) (p + 2 + used_at (cells xs) p) (cells ys) counts (count_cells n)
    high j lt =
        ap (λ (l : List Cell). get_or l (counts + j) blank) moves.cells
        ∙ moved_in (cells bs) (p + 2 + used_at (cells xs) p) counts (count_cells n) j (omega (arith, len, ok.whole, ok.below)) lt
        ∙ copied.frame.above (p + 2 + used_at (cells xs) p + j) (omega (arith, ok.most, ok.apart, ok.below))

    outside : (j : ℕ) → (j < base) ⊎ (base + used_at (cells xs) p ≤ j) → (j < counts) ⊎ (counts + count_cells n ≤ j) → get_or (cells ys) j blank ≡ get_or (cells xs) j blank
    outside j a b = ap (λ (l : List Cell). get_or l j blank) moves.cells ∙ second b ∙ first a
      where
        first : (j < base) ⊎ (base + used_at (cells xs) p ≤ j) → get_or (cells bs) j blank ≡ get_or (cells xs) j blank
        first (inl lt) = copied.frame.below j lt
        first (inr le) = copied.frame.above j le

        second : (j < counts) ⊎ (counts + count_cells n ≤ j) → get_or (moved (cells bs) (p + 2 + used_at (cells xs) p) counts (count_cells n)) j blank ≡ get_or (cells bs) j blank
        second (inl lt) = moved_below (cells bs) _ counts (count_cells n) j lt
        second (inr le) = moved_above (cells bs) _ counts (count_cells n) j le

    pub loaded : Bytes xs → Bytes ys → Loads limit n base counts p xs ys (record { row = row_at (cells xs) p; map = r })
    loaded small less =
        let all : length (cells ys) ≡ length (cells xs) = moves.same ∙ len in
        let e = copied.map in
        record {
          says = λ bound k at is. (
            record {
              row = subst (λ (q : ℕ). int_of (row_at (cells xs) q) ≡ k.mem.program_i) at is.holds.row;
              map = subst (λ (m : IntMap). HoldsMap limit bound (cells ys) m k.mem) (sym e)
                  (held_elsewhere limit bound (cells bs) base _ _ k.mem
                  (held-copied limit bound (cells xs) (cells bs) base (state_at (cells xs) p).map (placed base (state_at (cells xs) p).map) k.mem
                  (subst (CopiedMap (cells xs) (cells bs) (state_at (cells xs) p).map base) e copied)
                  (subst (λ (q : ℕ). HoldsMap limit bound (cells xs) (state_at (cells xs) q).map k.mem) at is.holds.map))
                  (cells ys) base low);
            },
            counted_same xs ys n (p + 2 + used_at (cells xs) p) counts k.past small less (moves.bytes ∙ long) ok.map.small ok.whole (omega (arith, ok.whole, ok.below)) high
                (subst (λ (q : ℕ). Counted xs n (q + 2 + used_at (cells xs) q) k.past) at is.counts),
          );
          is = ap (λ (m : IntMap). record { row = row_at (cells xs) p; map = m }) e;
          runs = subst (λ (m : IntMap). runs_at (cells ys) m ≡ runs_at (cells xs) (state_at (cells xs) p).map) (sym e)
              (placed_runs (cells bs) (cells ys) (placed base (state_at (cells xs) p).map) base kept_map low
              ∙ subst (λ (m : IntMap). runs_at (cells bs) m ≡ runs_at (cells xs) (state_at (cells xs) p).map) e copied.runs);
          copied = high;
          room = subst (HasRoom (cells ys) limit) (sym e) (placed_room (cells bs) (cells ys) (placed base (state_at (cells xs) p).map) base kept_map low moves.same limit ok.most (omega (arith, all, ok.whole, ok.apart, ok.below)));
          outside = record { long = all; same = outside };
          bytes = moves.bytes ∙ long;
        }

-- as the state was read
pub loaded_as :
    (limit n : ℕ) (xs bs ys : List ℕ) (p base counts : ℕ) (s : MemoryState) (r : IntMap) →
    Loadable limit n (cells xs) p base counts →
    s ≡ state_at (cells xs) p →
    length bs ≡ length xs →
    CopiedMap (cells xs) (cells bs) s.map base r →
    CellsNow bs ys (moved (cells bs) (p + 2 + s.map.used) counts (count_cells n)) →
    Bytes xs →
    Bytes ys →
    Loads limit n base counts p xs ys (record { row = s.row; map = r })
loaded_as limit n xs bs ys p base counts s r ok e long copied moves small less =
    subst (λ (x : MemoryState). CopiedMap (cells xs) (cells bs) x.map base r → CellsNow bs ys (moved (cells bs) (p + 2 + x.map.used) counts (count_cells n)) → Loads limit n base counts p xs ys (record { row = x.row; map = r }))
    (sym e)
    (λ a b. loaded limit n xs bs ys p base counts r ok long a b small less)
    copied
    moves
