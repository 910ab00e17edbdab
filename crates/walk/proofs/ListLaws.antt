-- What keeps a walk that the area holds: another struct with the same branches and charge, and cells that are as they were. Where a state
-- stands. Assumes nothing.
use mathlib.Core.Path.{◌≡◌, refl, sym, ap, subst, ◌∙◌}
use mathlib.Core.Bool.{Bool, true, false, ◌&&◌, and-eq-true_iff, false≢true}
use Rattle.std.specs.Prelude.{Option, None, Some, slice_get}
use mathlib.Core.List.{List, [], ◌∷◌}
use Prim.Native.Nat.{ℕ, zero, suc, ◌+◌, ◌-◌, ◌<◌, ◌≤◌}
use native.Mathlib.Omega.{arith}
use native.Mathlib.Decide.{dec_lt}
use lib.Dec.{leb, ltb}
use lib.ListN.{length, get_or}
use borrow.Author.Tests.{leb-true, ltb-true, le-leb, lt-leb, lt-ltb}
use Rattle.std.proofs.lemmas.Option.{slice_get_past}
use Rattle.model.specs.Row.{Row as Listed}
use Rattle.model.specs.State.{MemoryState as Defined}
use Rattle.model.specs.Offer.{turns, row_at}
use Rattle.model.specs.Explain.{number_at, row_of}
use Rattle.intmap.specs.Signed.{offset, int_of}
use Rattle.intmap.proofs.SignedLaws.{row_below, row_above, int_turns}
use Rattle.model.specs.Walk.{Lineage}
use Rattle.model.specs.Results.{ResultRow}
use Rattle.area.specs.Cells.{blank, cells}
use Rattle.area.proofs.CellLaws.{cells-kept}
use Rattle.encoding.specs.Holds.{largest}
use Rattle.branches.specs.Entries.{Remembers}
use Rattle.branches.proofs.RememberLaws.{Bytes, remembers_kept, remembers_more}
use Rattle.counters.specs.declared.Counters.{Counters}
use Rattle.merge.specs.declared.columns.Columns.{Columns}
use Rattle.walk.specs.Walks.{rows_from, counts_from, first_from, in_listing, Given, bound_of, HoldsList}
use Rattle.walk.specs.declared.Walk.{Walk}
use Rattle.walk.proofs.BranchLaws.{rows_kept}
use Rattle.walk.specs.declared.Program.{Program}

-- a walk whose cells are as they were but for the current lineage's
module _ {p : Program} {g : Given} {blocks xs : List ℕ} {cols : Columns 2000} {w : Walk} {ls : List (Lineage Defined)} {remembered : List Defined} {space : ℕ} {counted : List ResultRow} (h : HoldsList p g blocks xs cols w ls remembered space counted) where
  -- other counts, and more charged
  pub list_as : (v : Walk) → v.branches ≡ w.branches → w.counts.charged ≤ v.counts.charged → bound_of v ≤ largest → HoldsList p g blocks xs cols v ls remembered space counted
  list_as v b le top =
      record {
        size = h.size;
        few = h.few;
        rows = h.rows;
        records = h.records;
        columns = h.columns;
        all = h.all;
        wait = h.wait;
        remembers = subst (λ l. Remembers p.limit (bound_of v) p.size xs l h.all h.wait) (sym b) (remembers_more p.limit (bound_of w) (bound_of v) p.size xs w.branches h.all h.wait (omega arith) top h.remembers);
        first = ap (λ l. l.first) b ∙ h.first;
        are = h.are;
        waits = h.waits;
        left = ap (λ l. length (cells xs) - l.top) b ∙ h.left;
      }

  -- other cells in front of the rows, and among the current counts
  pub list_kept :
      (ys : List ℕ) → Bytes xs → Bytes ys → length ys ≡ length xs →
      ((j : ℕ) → rows_from p ≤ j → j < counts_from p → get_or (cells ys) j blank ≡ get_or (cells xs) j blank) →
      ((j : ℕ) → first_from p ≤ j → get_or (cells ys) j blank ≡ get_or (cells xs) j blank) →
      HoldsList p g blocks ys cols w ls remembered space counted
  list_kept ys small less long rows above =
      record {
        size = h.size;
        few = h.few;
        rows = rows_kept (cells xs) (cells ys) (rows_from p) g.rows (λ i lt. rows (rows_from p + i) (omega arith) (omega (arith, h.size))) h.rows;
        records = h.records;
        columns = h.columns;
        all = h.all;
        wait = h.wait;
        remembers = remembers_kept p.limit (bound_of w) p.size xs ys w.branches h.all h.wait small less long (λ j le. above j (omega (arith, h.first))) h.remembers;
        first = h.first;
        are = h.are;
        waits = h.waits;
        left = ap (λ k. k - w.branches.top) (cells-kept xs ys long) ∙ h.left;
      }

-- a row of the listing, and one behind it
pub record Element {A : Type 0} (xs : List A) (k : ℕ) : Type 0 where
  pub element : A
  pub is : slice_get xs k ≡ Some element

pub element_within : {A : Type 0} (xs : List A) (k : ℕ) → k < length xs → Element xs k
element_within [] k h = absurd (omega (arith, h))
element_within (x ∷ xs) zero h = record { element = x; is = refl }
element_within (x ∷ xs) (suc k) h = let e : Element xs k = element_within xs k (omega (arith, h)) in record { element = e.element; is = e.is }

-- where a state stands, by its word
module _ (rows : List Listed) (m : Defined) (w : ℕ) (is : int_of w ≡ m.program_i) where
  number : (o : Option Listed) → row_at rows (int_of w) ≡ o → row_of rows m ≡ number_at m o
  unfolding row_of
  number o e = ap (number_at m) (sym (ap (row_at rows) is) ∙ e)

  pub stands : offset ≤ w → w - offset < length rows → row_of rows m ≡ Some (w - offset)
  stands h lt =
      let e : Element rows (w - offset) = element_within rows (w - offset) lt in
      number (Some e.element) (row_above w rows h ∙ e.is) ∙ ap Some (sym (ap turns is) ∙ int_turns w)

  pub stands_below : w < offset → row_of rows m ≡ None
  stands_below h = number None (row_below w rows h)

  pub stands_behind : offset ≤ w → length rows ≤ w - offset → row_of rows m ≡ None
  stands_behind h le = number None (row_above w rows h ∙ slice_get_past rows (w - offset) le)

-- by the test
pub record Within (p : Program) (w : ℕ) : Type 0 where
  pub above : offset ≤ w
  pub below : w - offset < p.size

pub in_listing_lem : (p : Program) (w : ℕ) → in_listing w p ≡ true → Within p w
unfolding in_listing
in_listing_lem p w e =
    let (a, b) = (and-eq-true_iff (leb offset w) (ltb (w - offset) p.size)).0 e in
    record { above = leb-true offset w a; below = ltb-true (w - offset) p.size b }

pub listing_in : (p : Program) (w : ℕ) → Within p w → in_listing w p ≡ true
unfolding in_listing
listing_in p w h = rw (le-leb offset w h.above, lt-ltb (w - offset) p.size h.below)

pub outside : (p : Program) (rows : List Listed) (m : Defined) (w : ℕ) → length rows ≡ p.size → int_of w ≡ m.program_i → in_listing w p ≡ false → row_of rows m ≡ None
outside p rows m w size is e = go (dec_lt w offset) (dec_lt (w - offset) p.size)
  where
    go : Dec (w < offset) → Dec (w - offset < p.size) → row_of rows m ≡ None
    go (yes h) _ = stands_below rows m w is h
    go (no h) (no k) = stands_behind rows m w is (omega arith) (omega (arith, size))
    go (no h) (yes k) = absurd (false≢true (sym e ∙ listing_in p w (record { above = omega arith; below = k })))

-- the test in its two parts
pub tested : (p : Program) (w : ℕ) → offset ≤ w → ltb (w - offset) p.size ≡ in_listing w p
unfolding in_listing
tested p w h = sym (ap (λ b. b && ltb (w - offset) p.size) (le-leb offset w h))

pub tested_below : (p : Program) (w : ℕ) → w < offset → leb offset w ≡ in_listing w p
unfolding in_listing
tested_below p w h = lt-leb offset w h ∙ sym (ap (λ b. b && ltb (w - offset) p.size) (lt-leb offset w h))

-- and of a row that was read
pub row-tested : (p : Program) (row w : ℕ) (b c : Bool) → row ≡ w → b ≡ in_listing row p → b ≡ c → in_listing w p ≡ c
row-tested p row w b c e f h = ap (λ k. in_listing k p) (sym e) ∙ sym f ∙ h

-- other counts
abbrev pub with_counts : Walk → Counters → Walk
with_counts w c = record { gas = w.gas; counts = c; branches = w.branches }
