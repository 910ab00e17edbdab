-- Rows laid down one after the other: the rows read so far are in their cells, as far as there is room. Assumes nothing.
use mathlib.Core.Path.{◌≡◌, refl, sym, ap, ◌∙◌, subst}
use mathlib.Core.Bool.{Bool, true, false}
use Rattle.std.specs.Prelude.{Option, None, Some, Ok, Err, slice_get}
use mathlib.Core.List.{List, [], ◌∷◌, ◌++◌}
use Prim.Native.Nat.{ℕ, zero, suc, ◌+◌, ◌≤◌, ◌<◌}
use native.Mathlib.Omega.{arith}
use lib.Dec.{leb, ltb}
use lib.ListN.{length, get_or}
use lib.Seq.{get_or-set_same, get_or-set_other}
use borrow.Author.Tests.{lt-ltb, ltb-true}
use Rattle.std.proofs.lemmas.Option.{slice_get_within}
use Rattle.model.specs.Row.{Row as Listed}
use Rattle.model.specs.Walk.{refused, done}
use Rattle.model.specs.Fields.{read_items}
use Rattle.model.specs.ListingText.{take_row, read_listing}
use Rattle.model.specs.Call.{done_if, rows_of}
use Rattle.model.proofs.TestLaws.{cases}
use Rattle.model.proofs.ReaderLaws.{never, some_same}
use Rattle.area.specs.Cells.{blank, cells}
use Rattle.area.proofs.CellLaws.{cells-kept, inside-kept}
use Rattle.rows.specs.Rows.{parts, cell_of, row_in, IsWritten}
use Rattle.rows.specs.Judged.{JudgedParts, Judged, HaveRows, HasRow}
use Rattle.rows.specs.declared.row.Row.{Row}
use Rattle.rows.proofs.RowLaws.{row_again}
use Rattle.text.specs.Reads.{Reads}
use Rattle.text.proofs.ItemLaws.{ItemsRead, items_start, items_bad, items_next, items_end, judged, count_refused, count_over, count_is}
use Rattle.refusal.specs.declared.Refusal.TheVariants.{IllFormedListing, TooManyLines}
use Rattle.listing.specs.ListingRows.{RowJudged, ReadsRow, Room, set_if, PutWhere, Loaded}

-- an item of a list with one more at its end
last_or_before : {A P : Type 0} (xs : List A) (x y : A) (i : ℕ) → slice_get (xs ++ (x ∷ [])) i ≡ Some y → (i < length xs → slice_get xs i ≡ Some y → P) → (i ≡ length xs → x ≡ y → P) → P
last_or_before [] x y zero e f g = g refl (some_same e)
last_or_before [] x y (suc i) e f g = never e
last_or_before (a ∷ xs) x y zero e f g = f (omega arith) e
last_or_before (a ∷ xs) x y (suc i) e f g = last_or_before xs x y i e (λ l h. f (omega arith) h) (λ l h. g (omega arith) h)

not_done : {A P : Type 0} {n : ℕ} {x : A} → refused n ≡ done x → P
not_done e = cc

item_at : {A : Type 0} (xs : List A) (i : ℕ) → i < length xs → (x : A) × (slice_get xs i ≡ Some x)
item_at [] i lt = absurd (omega arith)
item_at (a ∷ xs) zero lt = (a, refl)
item_at (a ∷ xs) (suc i) lt = item_at xs i (omega arith)

-- what was done is what was read
done-is : {A : Type 0} (test : Bool) {xs ys : List A} → done_if 3 test xs ≡ done ys → xs ≡ ys
done-is true e = cc
done-is false e = not_done e

module _ {before after : List ℕ} (from room k : ℕ) (r : Row) (p : PutWhere before after from room k r) where
  put_as : {x : Bool} → ltb k room ≡ x → cells after ≡ set_if x (cells before) (from + k) (cell_of (parts r))
  put_as e = p.cells ∙ ap (λ b. set_if b (cells before) (from + k) (cell_of (parts r))) e

  put_here : k < room → from + k < length (cells before) → get_or (cells after) (from + k) blank ≡ cell_of (parts r)
  put_here h l = ap (λ cs. get_or cs (from + k) blank) (put_as (lt-ltb k room h)) ∙ get_or-set_same (cells before) (from + k) (cell_of (parts r)) blank l

  put_other : (j : ℕ) → (k < room → j ≡ from + k → ⊥) → get_or (cells after) j blank ≡ get_or (cells before) j blank
  put_other j n =
      cases (ltb k room)
      (λ e. ap (λ cs. get_or cs j blank) (put_as e) ∙ get_or-set_other (cells before) (from + k) j (cell_of (parts r)) blank (n (ltb-true k room e)))
      (λ e. ap (λ cs. get_or cs j blank) (put_as e))

pub room_kept : {entry now : List ℕ} {from room : ℕ} → length now ≡ length entry → Room entry from room → Room now from room
room_kept {entry} {now} {from} {room} e r = record { inside = λ h. inside-kept entry now from room e (r.inside h) }

pub record Loading (t rest entry now : List ℕ) (from room k : ℕ) : Type 0 where
  pub before : List Listed
  pub read : ItemsRead take_row t rest k before
  pub placed : (i : ℕ) (x : Listed) → i < room → slice_get before i ≡ Some x → HasRow x (get_or (cells now) (from + i) blank)
  pub below : (j : ℕ) → j < from → get_or (cells now) j blank ≡ get_or (cells entry) j blank
  pub above : (j : ℕ) → from + room ≤ j → get_or (cells now) j blank ≡ get_or (cells entry) j blank
  pub bytes : length now ≡ length entry

pub load_start : (t area : List ℕ) (from room : ℕ) → Loading t t area area from room 0
load_start t area from room = record {
  before = [];
  read = items_start take_row t;
  placed = λ i x h e. never e;
  below = λ j h. refl;
  above = λ j h. refl;
  bytes = refl;
}

module _ {t rest entry now : List ℕ} {from room k : ℕ} (l : Loading t rest entry now from room k) where
  pub load_next : {after last : List ℕ} {r : Row} → Room entry from room → (length rest ≡ 0 → ⊥) → RowJudged k rest last r → PutWhere now after from room k r → Loading t last entry after from room (k + 1)
  load_next {after} {last} {r} has h j p = record {
    before = l.before ++ (j.given ∷ []);
    read = items_next take_row l.read h j.reads refl;
    placed = λ i x within e.
        last_or_before l.before j.given x i e
        (λ earlier is. subst (HasRow x) (sym (put_other from room k r p (from + i) (λ _ same. omega (arith, l.read.count, earlier, same)))) (l.placed i x within is))
        (λ here same.
        let k-is : i ≡ k = here ∙ l.read.count in
        let inside = has.inside (omega arith) in
        let there = put_here from room k r p (omega arith) (omega (arith, inside.within, cells-kept entry now l.bytes)) in
        let cell_is : get_or (cells after) (from + i) blank ≡ cell_of (parts r) = ap (λ n. get_or (cells after) (from + n) blank) k-is ∙ there in
        let row_is : row_in (get_or (cells after) (from + i) blank) ≡ parts r = ap row_in cell_is ∙ row_again (parts r) r.fits in
        record { judged = subst (JudgedParts x) (sym row_is) (subst (λ y. Judged y r) same j.judged); written = cell_is ∙ ap cell_of (sym row_is) });
    below = λ i b. put_other from room k r p i (λ _ same. omega (arith, b, same)) ∙ l.below i b;
    above = λ i a. put_other from room k r p i (λ few same. omega (arith, a, few, same)) ∙ l.above i a;
    bytes = p.bytes ∙ l.bytes;
  }

  pub load_refused : {last : List ℕ} → (length rest ≡ 0 → ⊥) → Reads (take_row k) rest last None → Loaded t entry now from room (Err IllFormedListing)
  unfolding rows_of read_listing
  load_refused h n =
      let bad = items_bad take_row l.read h n refl in
      record {
        count = count_refused 1 2048 bad;
        rows = λ xs e. not_done (sym (ap (judged 1 2048) bad) ∙ e);
        written = λ xs e. not_done (sym (ap (judged 1 2048) bad) ∙ e);
        below = l.below;
        above = l.above;
        bytes = l.bytes;
      }

  module _ (h : length rest ≡ 0) where
    all_read : read_items take_row t ≡ Some l.before
    all_read = items_end take_row l.read h

    all_placed : (xs : List Listed) → judged 1 2048 (read_items take_row t) ≡ done xs → length xs ≤ room → (i : ℕ) (x : Listed) → slice_get xs i ≡ Some x → HasRow x (get_or (cells now) (from + i) blank)
    all_placed xs e fits i x is =
        let all : l.before ≡ xs = done-is (leb (length l.before) 2048) (sym (ap (judged 1 2048) all_read) ∙ e) in
        l.placed i x (omega (arith, slice_get_within xs i x is)) (ap (λ ys. slice_get ys i) all ∙ is)

    have_rows : (xs : List Listed) → judged 1 2048 (read_items take_row t) ≡ done xs → length xs ≤ room → HaveRows (cells now) from xs
    have_rows xs e fits = all_placed xs e fits

    all_written : (xs : List Listed) → judged 1 2048 (read_items take_row t) ≡ done xs → length xs ≤ room → (i : ℕ) → i < length xs → IsWritten (get_or (cells now) (from + i) blank)
    all_written xs e fits i lt = let there = item_at xs i lt in (all_placed xs e fits i there.0 there.1).written

    pub load_over : 2048 < k → Loaded t entry now from room (Err TooManyLines)
    unfolding rows_of read_listing
    load_over m = record {
      count = count_over 1 2048 all_read l.read.count m;
      rows = have_rows;
      written = all_written;
      below = l.below;
      above = l.above;
      bytes = l.bytes;
    }

    pub load_count : k ≤ 2048 → Loaded t entry now from room (Ok k)
    unfolding rows_of read_listing
    load_count m = record {
      count = count_is 1 2048 all_read l.read.count m;
      rows = have_rows;
      written = all_written;
      below = l.below;
      above = l.above;
      bytes = l.bytes;
    }

-- what the reader of a row says, once it is known
module _ (k : ℕ) (t rest : List ℕ) {o : Option Row} (h : ReadsRow k t rest o) where
  pub row_none : o ≡ None → Reads (take_row k) t rest None
  row_none e = subst (λ x. ReadsRow k t rest x) e h

  pub row_some : {r : Row} → o ≡ Some r → RowJudged k t rest r
  row_some e = subst (λ x. ReadsRow k t rest x) e h
