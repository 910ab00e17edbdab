-- The search for a column among those behind a head, and whether it nests within its levels. Assumes nothing.
use Rattle.refusal.specs.declared.Refusal.TheVariants.{TooDeep}
use mathlib.Core.Path.{◌≡◌, refl, sym, ap, subst, ◌∙◌}
use mathlib.Core.Logic.{◌⊎◌}
use mathlib.Core.Bool.{Bool, true, false}
use Rattle.std.specs.Prelude.{Option, None, Some, option_map, Ok, Err}
use Rattle.std.proofs.lemmas.Option.{none-some, same_Some}
use mathlib.Core.List.{List}
use Prim.Native.Nat.{ℕ, zero, suc, ◌+◌, ◌-◌, ◌<◌, ◌≤◌}
use native.Mathlib.Omega.{arith}
use lib.Dec.{eqb, ltb}
use lib.ListN.{length, get_or}
use borrow.Author.Tests.{eqb-true, lt-ltb, le-ltb, ltb-true, ltb-false}
use Rattle.model.specs.IntMap.{get, Rising}
use Rattle.model.specs.State.{ColumnType, Columns, end, entry, entries as column_entries}
use Rattle.model.specs.Cells.{column_depth, columns_depth}
use Rattle.model.specs.Good.{SortedColumn, SortedColumns, OnSome}
use Rattle.model.proofs.IntMap.{rising_get}
use Rattle.area.specs.Cells.{blank}
use Rattle.area.specs.declared.Cell.{Cell}
use Rattle.intmap.specs.Entries.{span, entries, total}
use Rattle.intmap.specs.Find.{seek_place, seek_found, seek}
use Rattle.intmap.specs.Map.{levels}
use Rattle.intmap.specs.Pack.{tag_of, key_of}
use Rattle.intmap.specs.Runs.{size, sizes, IsColumn, AreColumns}
use Rattle.intmap.specs.Swap.{lookup}
use Rattle.intmap.specs.declared.Place.{Place}
use Rattle.intmap.specs.declared.IntMap.{IntMap}
use Rattle.intmap.proofs.EntryLaws.{length-span, total-sizes, entries_few}
use Rattle.intmap.proofs.FindLaws.{answered_ok, found_within, found-whole}
use Rattle.intmap.proofs.RunLaws.{size-pos, size-single, size_record}
use Rattle.intmap.proofs.Swapped.{seek_some, seek_ok, seek_err}
use Rattle.encoding.specs.Encode.{run_column, column_runs, run_columns}
use Rattle.encoding.specs.Holds.{Stands}
use Rattle.encoding.proofs.Lengths.{length-flatten, count_runs}
use Rattle.encoding.proofs.Standing.{entries_stand, column_whole, columns_whole}
use Rattle.encoding.proofs.StateRuns.{get_column}
use Rattle.encoding.proofs.Flat.{Rise, rise_columns, direct, flat_sizes}
use Rattle.state.specs.Own.{InMap, is_flat}
use Rattle.state.proofs.OwnLaws.{flat_told}
use Rattle.column_arms.specs.Columns.{columns_in, counted, ColumnsAt, DirectAt, IsColumnAt, FindsColumn}
use Rattle.column_arms.proofs.WholeLaws.{counted_parts, counted_one, whole_size, counted_column}

-- ---- the columns that a cell says it has

-- a loop over cells: `left` are ahead, from p on, and there is room for fewer columns than `room`
module _ (cs : List Cell) (p : ℕ) where
  pub whole_end : (left room : ℕ) → left ≤ 0 → 0 < room → true ≡ ltb (counted (span cs p left)) room
  unfolding counted span
  whole_end zero room le h = sym (lt-ltb 0 room h)
  whole_end (suc left) room le h = absurd (omega arith)

  first : (left : ℕ) → 0 < left → counted (span cs p left) ≡ columns_in (get_or cs p blank) + counted (span cs (p + 1) (left - 1))
  first left lt =
      let e : 1 + (left - 1) ≡ left = omega arith in
      omega (arith, ap (λ n. counted (span cs p n)) e, counted_parts cs 1 (left - 1) p, counted_one cs p)

  module _ (left room k : ℕ) (more : 0 < left) (c : Cell) (ce : c ≡ get_or cs p blank) (ke : k ≡ columns_in c) where
    told : counted (span cs p left) ≡ k + counted (span cs (p + 1) (left - 1))
    told = omega (arith, first left more, ke, ap (λ y. columns_in y) ce)

    pub whole_stop : room ≤ k → false ≡ ltb (counted (span cs p left)) room
    whole_stop h = sym (le-ltb (counted (span cs p left)) room (omega (arith, told)))

    pub whole_turn : k < room → ltb (counted (span cs (p + 1) (left - 1))) (room - k) ≡ ltb (counted (span cs p left)) room
    whole_turn h = go (ltb (counted (span cs p left)) room) refl
      where
        go : (t : Bool) → ltb (counted (span cs p left)) room ≡ t → ltb (counted (span cs (p + 1) (left - 1))) (room - k) ≡ t
        go true e = lt-ltb (counted (span cs (p + 1) (left - 1))) (room - k) (omega (arith, told, ltb-true (counted (span cs p left)) room e))
        go false e = le-ltb (counted (span cs (p + 1) (left - 1))) (room - k) (omega (arith, told, ltb-false (counted (span cs p left)) room e))

-- ---- columns that a state has

abbrev GoodColumn : ℕ → ColumnType → Type 0
GoodColumn key c = (column_depth c ≤ 8) × SortedColumn c

good_columns : (x : Columns) (low : ℕ) → columns_depth x ≤ 8 → SortedColumns x low → Rising GoodColumn low (column_entries x)
unfolding column_entries column_depth SortedColumn
good_columns end low d s = tt
good_columns (entry k c xs) low d s = (s.0, (omega arith, s.2), good_columns xs (suc k) (omega arith) s.3)

-- the column of these that has a key, and the run of its that stands at q
record StandsAt (cs : List Cell) (key q : ℕ) (o : Option ColumnType) : Type 0 where
  column : ColumnType
  answer : o ≡ Some column
  depth : column_depth column ≤ 8
  sorted : SortedColumn column
  stands : Stands cs q (run_column key column)

module _ (cs : List Cell) (p : ℕ) (x : Columns) (at : ColumnsAt cs p x) where
  behind_runs : entries cs 8 (get_or cs p blank).payload (p + 1) ≡ column_runs x
  behind_runs =
      ap (λ n. entries cs 8 n (p + 1)) (at.number ∙ sym (count_runs x))
      ∙ entries_stand 8 (column_runs x) (columns_whole x 8 at.depth) cs (p + 1) at.stands

  pub behind_size : tag_of (get_or cs p blank) ≡ 2 → size cs levels p ≡ 1 + length (run_columns x)
  behind_size tag =
      sym (size_record cs 9 p (get_or cs p blank) refl (omega arith) tag)
      ∙ ap (λ k. 1 + k) (total-sizes cs 8 (get_or cs p blank).payload (p + 1) ∙ ap total behind_runs ∙ sym (length-flatten (column_runs x)))

  looked : (key : ℕ) → lookup key (entries cs 8 (get_or cs p blank).payload (p + 1)) ≡ option_map (run_column key) (get key (column_entries x))
  looked key = ap (lookup key) behind_runs ∙ get_column x 0 key at.sorted

  there : (key q : ℕ) → lookup key (entries cs 8 (get_or cs p blank).payload (p + 1)) ≡ Some (span cs q (size cs 8 q)) → StandsAt cs key q (get key (column_entries x))
  there key q e = go (get key (column_entries x)) (sym (looked key) ∙ e) (rising_get GoodColumn key 0 (column_entries x) (good_columns x 0 at.depth at.sorted))
    where
      go : (o : Option ColumnType) → option_map (run_column key) o ≡ Some (span cs q (size cs 8 q)) → OnSome (GoodColumn key) o → StandsAt cs key q o
      go None f g = absurd (none-some _ f)
      go (Some c) f g =
          let run : run_column key c ≡ span cs q (size cs 8 q) = same_Some _ _ f in
          record { column = c; answer = refl; depth = g.0; sorted = g.1; stands = ap (span cs q) (ap length run ∙ length-span cs q (size cs 8 q)) ∙ sym run }

  nowhere : (key : ℕ) → lookup key (entries cs 8 (get_or cs p blank).payload (p + 1)) ≡ None → get key (column_entries x) ≡ None
  nowhere key e = go (get key (column_entries x)) (sym (looked key) ∙ e)
    where
      go : (o : Option ColumnType) → option_map (run_column key) o ≡ None → o ≡ None
      go None f = refl
      go (Some c) f = absurd (none-some _ (sym f))

-- however many levels are looked at, its run is as long
module _ (cs : List Cell) (key q : ℕ) (o : Option ColumnType) (v : StandsAt cs key q o) where
  long : (d : ℕ) → 8 ≤ d → size cs d q ≡ length (run_column key v.column)
  long d le = column_whole v.column d key (omega (arith, v.depth)) cs q v.stands

  is_there : IsColumnAt cs key q o
  is_there = record { column = v.column; answer = v.answer; depth = v.depth; sorted = v.sorted; run = ap (span cs q) (long 9 (omega arith)) ∙ v.stands }

  -- it has one cell more than the columns that its cells say they have
  state_whole : counted (span cs q (size cs 8 q)) < size cs 8 q
  state_whole = let n = long 8 (omega arith) in omega (arith, n, ap counted (ap (span cs q) n ∙ v.stands), counted_column v.column key)

-- ---- the search

-- a run has a cell, and lies within the area
pub run-within : (cs : List Cell) (d p : ℕ) → IsColumn cs d p → (n : ℕ) → n ≡ size cs d p → (p + n ≤ length cs) × (length cs ≤ 1048576) × (0 < n)
run-within cs d p is n e = (omega (arith, is.fits), is.small, omega (arith, size-pos cs d p))

module _ (cs : List Cell) (p : ℕ) (is : IsColumn cs levels p) (tag : tag_of (get_or cs p blank) ≡ 2) (c : Cell) (ce : c ≡ get_or cs p blank) where
  behind : 1 + sizes (size cs 8) c.payload (p + 1) ≡ size cs levels p
  behind = size_record cs 9 p c ce (omega arith) (ap (λ (y : Cell). tag_of y) ce ∙ tag)

  pub columns_behind : AreColumns cs 8 c.payload (p + 1)
  columns_behind = record { fits = omega (arith, behind, is.fits); small = is.small }

  module _ (key : ℕ) (w : Place) where
    sought : seek cs 8 key c.payload (p + 1) ≡ seek cs 8 key (get_or cs p blank).payload (p + 1)
    sought = ap (λ (y : Cell). seek cs 8 key y.payload (p + 1)) ce

    pub column_none : Err w ≡ seek cs 8 key c.payload (p + 1) → FindsColumn cs p key (Ok None)
    column_none t =
        record {
          says = λ x at. nowhere cs p x at key (seek_err cs 8 key (get_or cs p blank).payload (p + 1) w (t ∙ sought));
          within = tt;
        }

    module _ (t : Ok w ≡ seek cs 8 key c.payload (p + 1)) where
      within : (p < w.at) × (w.at + size cs 8 w.at ≤ p + size cs levels p)
      within = (omega (arith, (found_within cs 8 key c.payload (p + 1) w (answered_ok cs 8 key c.payload (p + 1) w t).0).0), omega (arith, found-whole cs 8 key c.payload (p + 1) w t, behind))

      pub found_column : IsColumn cs 8 w.at
      found_column = record { fits = omega (arith, within.1, is.fits); small = is.small }

      stands : (x : Columns) → ColumnsAt cs p x → StandsAt cs key w.at (get key (column_entries x))
      stands x at = there cs p x at key w.at (seek_ok cs 8 key (get_or cs p blank).payload (p + 1) w (t ∙ sought))

      column_there : size cs levels w.at ≤ size cs 8 w.at → FindsColumn cs p key (Ok (Some w.at))
      column_there le = record { says = λ x at. is_there cs key w.at _ (stands x at); within = (within.0, omega (arith, within.1)) }

      -- a cell alone
      pub column_alone : (b : Cell) → b ≡ get_or cs w.at blank → (tag_of b ≡ 2 → ⊥) → FindsColumn cs p key (Ok (Some w.at))
      column_alone b be other = column_there (omega (arith, size-single cs 9 w.at b be other, size-pos cs 8 w.at))

      -- a run that is no longer, however many levels are looked at, or may be
      module _ (n : ℕ) (ne : n ≡ size cs 8 w.at) (b : Bool) (be : b ≡ ltb (counted (span cs w.at n)) n) where
        pub column_record : b ≡ true → FindsColumn cs p key (Ok (Some w.at))
        column_record e = column_there (omega (arith, whole_size cs 9 w.at n (ltb-true (counted (span cs w.at n)) n (sym be ∙ e)), ne))

        pub too_deep : b ≡ false → FindsColumn cs p key (Err TooDeep)
        too_deep e =
            record {
              says = λ x at.
                  absurd (omega (arith, state_whole cs key w.at _ (stands x at), ltb-false (counted (span cs w.at n)) n (sym be ∙ e), ne, ap (λ k. counted (span cs w.at k)) ne));
              within = tt;
            }

-- ---- at its distance from the head

module _ (cs : List Cell) (a : IntMap) (p key : ℕ) (is : IsColumn cs levels p) (tag : tag_of (get_or cs p blank) ≡ 2) (inside : p + size cs levels p ≤ a.base + a.used) (c : Cell) (ce : c ≡ get_or cs p blank) (near : DirectAt cs a p c.payload key) where
  abbrev q : ℕ
  q = p + 1 + key

  abbrev n : ℕ
  n = (get_or cs p blank).payload

  same_n : c.payload ≡ n
  same_n = ap (λ (y : Cell). y.payload) ce

  own_size : size cs 9 q ≡ 1
  own_size = sym (size-single cs 9 q (get_or cs q blank) refl near.plain)

  one_each : (x : Columns) → ColumnsAt cs p x → sizes (size cs 8) n (p + 1) ≡ n
  one_each x at =
      flat_sizes x at.depth at.sorted cs (p + 1) n (a.base + a.used) at.stands at.number (omega (arith, behind_size cs p x at tag, inside))
      (subst (λ k. (p + 1 + k ≡ a.base + a.used) ⊎ (65536 ≤ key_of (get_or cs (p + 1 + k) blank))) same_n (flat_told cs a p c.payload near.flat).1)

  sought_there : (x : Columns) → ColumnsAt cs p x → ((seek_place cs 8 key n (p + 1)).at ≡ q) × (seek_found cs 8 key n (p + 1) ≡ true)
  sought_there x at =
      let found = direct cs 8 n (p + 1) 0 key (one_each x at) (subst (Rise 0) (sym (behind_runs cs p x at)) (rise_columns x 0 at.sorted)) (omega (arith, near.below, same_n)) in
      subst (λ k. ((seek_place cs 8 k n (p + 1)).at ≡ q) × (seek_found cs 8 k n (p + 1) ≡ true)) near.is (found.at, found.present)

  pub column_direct : FindsColumn cs p key (Ok (Some q))
  column_direct =
      record {
        says = λ x at.
            (let w = sought_there x at in
            is_there cs key q _ (there cs p x at key q (seek_some cs 8 key n (p + 1) w.1 ∙ ap (λ k. Some (span cs k (size cs 8 k))) w.0)));
        within = (omega arith, omega (arith, own_size, behind cs p is tag c ce, entries_few cs 8 c.payload (p + 1), near.below));
      }

pub direct_place : (cs : List Cell) (a : IntMap) (p n key : ℕ) → is_flat cs a p n ≡ true → key < n → p + 1 + key < a.base + a.used
direct_place cs a p n key flat lt = omega (arith, (flat_told cs a p n flat).0)

pub direct_at : (cs : List Cell) (a : IntMap) (p n key : ℕ) → key < n → is_flat cs a p n ≡ true → (c : Cell) → c ≡ get_or cs (p + 1 + key) blank → (t : ℕ) → t ≡ tag_of c → (t ≡ 2 → ⊥) → (r : Bool) → r ≡ eqb (key_of c) key → r ≡ true → DirectAt cs a p n key
direct_at cs a p n key lt flat c ce t te plain r re e =
    record { below = lt; flat = flat; plain = λ q. plain (te ∙ ap (λ y. tag_of y) ce ∙ q); is = eqb-true (key_of (get_or cs (p + 1 + key) blank)) key (ap (λ y. eqb (key_of y) key) (sym ce) ∙ sym re ∙ e) }

pub head_below : (cs : List Cell) (a : IntMap) (p : ℕ) → p + size cs levels p ≤ a.base + a.used → p < a.base + a.used
head_below cs a p h = omega (arith, h, size-pos cs levels p)

pub first_in : (cs : List Cell) (a : IntMap) (p : ℕ) → (a.base ≤ p) × (p + size cs levels p ≤ a.base + a.used) → InMap a p
first_in cs a p run = (run.0, head_below cs a p run.1)
