-- A record in a cell of the blocks: when it is one for a row, and its column among the columns gathered so far. Assumes nothing.
use Rattle.refusal.specs.declared.Refusal.TheVariants.{IllFormedListing, IllFormedCatalogue, TooManyLines, AreaSize, AnswerTooLong, Negative, IndexTooLarge, TooManyCells, TooDeep, NotUtf8, NoSpace, TooWide, NotDeclared}
use Rattle.refusal.specs.Numbers.{number_of}
use Rattle.refusal.specs.declared.Refusal.{Refusal}
use mathlib.Core.Path.{◌≡◌, refl, sym, ap, ap₂, ◌∙◌}
use mathlib.Core.Bool.{Bool, true, false, ◌&&◌, not}
use Rattle.std.specs.Prelude.{Some, Ok, Err}
use mathlib.Core.List.{List, [], ◌∷◌}
use Prim.Native.Nat.{ℕ, ◌+◌, ◌<◌}
use native.Mathlib.Omega.{arith}
use lib.Dec.{eqb, leb}
use lib.IntN.{pos}
use borrow.Author.Tests.{le-leb, eq-eqb, ne_eqb, leb-false}
use Rattle.type_info.specs.Kind.{kind_of}
use Rattle.model.specs.Walk.{done, refused, Tried}
use Rattle.model.specs.IntMap.{Entry, insert}
use Rattle.model.specs.State.{ColumnType, as_columns, datatype_code}
use Rattle.model.specs.Equality.{eq_int}
use Rattle.model.specs.Catalogue.{CatalogueRecord, record_column, is_for, add_if}
use Rattle.area.specs.declared.Cell.{Cell}
use Rattle.intmap.specs.Pack.{tag_of}
use Rattle.intmap.specs.Pick.{pick}
use Rattle.intmap.specs.Swap.{swap}
use Rattle.intmap.specs.Entries.{total, Runs}
use Rattle.intmap.specs.Map.{levels, runs_at, HasRoom, Frame}
use Rattle.intmap.specs.Store.{put, judge_runs, stored_of, StoreLeaves, Inserts, Stored}
use Rattle.intmap.specs.Signed.{offset, int_of}
use Rattle.intmap.specs.declared.IntMap.{IntMap}
use Rattle.intmap.proofs.EntryLaws.{total-sizes}
use Rattle.intmap.proofs.StoreLaws.{frame_same}
use Rattle.intmap.proofs.SignedLaws.{int_above, int_same}
use Rattle.encoding.specs.Encode.{nullable_code, single, run_column, column_runs}
use Rattle.encoding.proofs.Packing.{column_key}
use Rattle.encoding.proofs.MapRuns.{runs_by, insert_by_lem}
use Rattle.rows.specs.declared.row.Row.{Row}
use Rattle.root_block.specs.Blocks.{column_of, IsBlock}
use Rattle.read_arm.specs.Gathers.{block_for}

-- ---- a database and a page

-- a number is the one that a word stands for
pub number_same : (n w : ℕ) → eq_int (pos n) (int_of w) ≡ eqb (offset + n) w
number_same n w =
    let e : int_of (offset + n) ≡ pos n = int_above (offset + n) (omega arith) ∙ ap pos (omega arith) in
    ap (λ i. eq_int i (int_of w)) (sym e) ∙ int_same (offset + n) w

module _ (db page p3 p2 : ℕ) where
  pub for_other : (offset + db ≡ p3 → ⊥) → false ≡ (eq_int (pos db) (int_of p3) && eq_int (pos page) (int_of p2))
  for_other h = ap (λ b. b && eq_int (pos page) (int_of p2)) (sym (number_same db p3 ∙ ne_eqb (offset + db) p3 h))

  pub for_same : offset + db ≡ p3 → eqb (offset + page) p2 ≡ (eq_int (pos db) (int_of p3) && eq_int (pos page) (int_of p2))
  for_same h = sym (number_same page p2) ∙ ap (λ b. b && eq_int (pos page) (int_of p2)) (sym (number_same db p3 ∙ eq-eqb (offset + db) p3 h))

-- ---- a column's cell

-- it is no record's
pub column_plain : (c : Cell) (r : CatalogueRecord) → IsBlock c r → tag_of (column_of c) ≡ 2 → ⊥
unfolding run_column record_column
column_plain c r is h =
    let e = is.column in
    let same : column_of c ≡ single (datatype_code (kind_of r.declared)) (nullable_code (Some (not r.notnull))) r.col = cc in
    omega (arith, ap tag_of same)

-- ---- among the columns gathered

as_map : (es : List (Entry ColumnType)) → runs_by run_column column_key (λ k. k) es ≡ column_runs (as_columns es)
unfolding column_runs as_columns
as_map [] = refl
as_map (e ∷ es) = ap (λ l. run_column e.key e.value ∷ l) (as_map es)

put_column : (k : ℕ) (v : ColumnType) (es : List (Entry ColumnType)) → put (run_column k v) (column_runs (as_columns es)) ≡ column_runs (as_columns (insert k v es))
put_column k v es =
    ap₂ (λ j l. swap j (run_column k v ∷ []) l) (column_key k v) (sym (as_map es))
    ∙ insert_by_lem run_column column_key (λ j. j) (λ i j lt. lt) k v es
    ∙ as_map (insert k v es)

-- a store of a run is refused only where there are too many cells
too_many : (e : Refusal) → number_of e ≡ 8 → e ≡ TooManyCells
too_many IllFormedListing h = absurd (omega (arith, h))
too_many IllFormedCatalogue h = absurd (omega (arith, h))
too_many TooManyLines h = absurd (omega (arith, h))
too_many AreaSize h = absurd (omega (arith, h))
too_many AnswerTooLong h = absurd (omega (arith, h))
too_many Negative h = absurd (omega (arith, h))
too_many IndexTooLarge h = absurd (omega (arith, h))
too_many TooManyCells h = refl
too_many TooDeep h = absurd (omega (arith, h))
too_many NotUtf8 h = absurd (omega (arith, h))
too_many NoSpace h = absurd (omega (arith, h))
too_many TooWide h = absurd (omega (arith, h))
too_many NotDeclared h = absurd (omega (arith, h))

abbrev refusal : Tried Runs → ℕ
refusal (refused k) = k
refusal (done rs) = 0

pub judged-full : (limit : ℕ) (rs : Runs) (e : Refusal) → refused (number_of e) ≡ judge_runs limit rs → (e ≡ TooManyCells) × (limit < total rs)
judged-full limit rs e = by (leb (total rs) limit) refl
  where
    by : (b : Bool) → leb (total rs) limit ≡ b → refused (number_of e) ≡ pick b (done rs) (refused 8) → (e ≡ TooManyCells) × (limit < total rs)
    by true q h = cc
    by false q h = (too_many e (ap refusal h), leb-false (total rs) limit q)

-- of any columns that the map holds, it then holds those with the column of the record in a cell, if the record is one for the row; they may be
-- too many
pub record Adds (limit : ℕ) (cs ds : List Cell) (m : IntMap) (c : Cell) (x : Row) (y : Stored) : Type 0 where
  pub answer : (r : CatalogueRecord) → IsBlock c r → (es : List (Entry ColumnType)) → runs_at cs m ≡ column_runs (as_columns es) → stored_of ds y ≡ judge_runs limit (column_runs (as_columns (add_if (is_for (int_of x.p3) (int_of x.p2) r) r es)))
  pub leaves : StoreLeaves cs ds limit m y
  pub only : (e : Refusal) → y ≡ Err e → e ≡ TooManyCells
  pub frame : Frame cs ds m.base limit

module _ (limit : ℕ) (cs : List Cell) (m : IntMap) (c : Cell) (x : Row) where
  its_for : (r : CatalogueRecord) → IsBlock c r → is_for (int_of x.p3) (int_of x.p2) r ≡ block_for c x
  unfolding is_for
  its_for r is = ap₂ (λ d p. eq_int (pos d) (int_of x.p3) && eq_int (pos p) (int_of x.p2)) (sym is.db) (sym is.page)

  pub added_not : block_for c x ≡ false → HasRoom cs limit m → Adds limit cs cs m c x (Ok m)
  added_not f room =
      record {
        answer = λ r is es e.
            ap (λ b. pick b (done (runs_at cs m)) (refused 8)) (sym (le-leb (total (runs_at cs m)) limit (omega (arith, room.used, room.most, total-sizes cs levels m.len m.base))))
            ∙ ap (judge_runs limit) e
            ∙ ap (λ b. judge_runs limit (column_runs (as_columns (add_if b r es)))) (sym (its_for r is ∙ f));
        leaves = record { base = refl; room = room };
        only = λ e h. cc;
        frame = frame_same cs cs m.base limit refl;
      }

  pub added : block_for c x ≡ true → (ds : List Cell) (y : Stored) → Inserts cs ds limit m (column_of c ∷ []) y → Adds limit cs ds m c x y
  added f ds y ins =
      record {
        answer = λ r is es e.
            ins.answer
            ∙ ap₂ (λ run l. judge_runs limit (put run l)) is.column e
            ∙ ap (judge_runs limit) (put_column r.col (record_column r) es)
            ∙ ap (λ b. judge_runs limit (column_runs (as_columns (add_if b r es)))) (sym (its_for r is ∙ f));
        leaves = ins.leaves;
        only = λ e h. (judged-full limit (put (column_of c ∷ []) (runs_at cs m)) e (sym (ap (stored_of ds) h) ∙ ins.answer)).0;
        frame = ins.frame;
      }
