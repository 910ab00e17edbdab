-- The call in its parts: the refusals in their order, the rows in the area, the walk and its answer. Assumes nothing.
use Rattle.refusal.specs.declared.Refusal.TheVariants.{AreaSize}
use Rattle.refusal.specs.Numbers.{number_of}
use mathlib.Core.Path.{◌≡◌, refl, sym, ap, subst, ◌∙◌}
use mathlib.Core.Bool.{Bool, true, false, and-eq-true_iff}
use Rattle.std.specs.Prelude.{Option, None, Some, Result, Ok, Err}
use mathlib.Core.List.{List, []}
use Prim.Native.Nat.{ℕ, ◌+◌, ◌*◌, ◌/◌, ◌<◌, ◌≤◌}
use native.Mathlib.Omega.{arith}
use lib.Dec.{leb, ltb}
use lib.ListN.{length, take, drop, get_or, replicate, length-replicate, length-append}
use borrow.Author.Tests.{leb-true, ltb-true, ltb-false}
use Rattle.std.specs.Prelude.{Result}
use Rattle.std.proofs.lemmas.List.{get_or-take, get_or_past}
use Rattle.refusal.specs.declared.Refusal.{Refusal}
use Rattle.model.specs.Walk.{Tried, refused, done, Notes}
use Rattle.model.specs.Row.{Row as Listed}
use Rattle.model.specs.State.{MemoryState as Defined}
use Rattle.model.specs.Results.{ResultColumn, ResultRow, columns_of}
use Rattle.model.proofs.TestLaws.{cases}
use Rattle.merge.specs.Columns.{unsaid, column_byte, HasColumns}
use Rattle.merge.specs.declared.columns.Columns.{Columns}
use Rattle.merge.proofs.ByteLaws.{no_columns}
use Rattle.model.specs.Access.{◌>>=◌}
use Rattle.model.specs.Answer.{answer_of, outcome_of}
use Rattle.model.specs.Catalogue.{CatalogueRecord}
use Rattle.model.specs.CatalogueText.{read_catalogue}
use Rattle.model.specs.ListingText.{read_listing}
use Rattle.model.specs.Meaning.{standard}
use Rattle.model.specs.Run.{walk_listing}
use Rattle.model.specs.AnswerText.{print_answer}
use Rattle.model.specs.Call.{or_refused, done_if, rows_of, records_of, area_fits, print_into, outcome, leave, call}
use Rattle.model.specs.CallClaims.{CallClaims}
use Rattle.model.proofs.CallTheorems.{call_claims}
use Rattle.area.specs.Cells.{cells}
use Rattle.area.specs.Counts.{CountsCleared}
use Rattle.area.proofs.CellLaws.{length-cells}
use Rattle.text.specs.Counts.{counted_as, length_of}
use Rattle.listing.specs.ListingRows.{Room, Loaded}
use Rattle.answer.specs.Text.{answer_with, called_of, Writes}
use Rattle.root_block.specs.Build.{Indexable, Indexed}
use Rattle.rows.specs.Judged.{HaveRows}
use Rattle.walk.proofs.BranchLaws.{rows_kept}
use Rattle.walk.specs.Walks.{Counts}
use Rattle.walk.specs.declared.Walk.{Walk}
use Rattle.column_kinds.specs.Inner.{serves, RowRoom, Prepared, TellsWalk, WalksRows, Writable, WritesWalk, MayWalk, Catalogued, AnswersRows, CallsInner}
use Rattle.column_kinds.specs.Calls.{Calls, packed, Describes}
use Rattle.model.proofs.Tried.{done-same}

-- ---- what was tried

refused_same : {A : Type 0} {k j : ℕ} → ◌≡◌ {A = Tried A} (refused k) (refused j) → k ≡ j
refused_same {k = k} e = ap (λ t. elim t [ refused i ↦ i | done x ↦ k ]) e

-- ---- the answer of a walk

-- the bytes of the columns alone
part_stands : (bytes : List ℕ) (width : ℕ) (columns : List ResultColumn) → length (take width bytes) ≡ width → HasColumns bytes width columns → HasColumns (take width bytes) (length (take width bytes)) columns
unfolding column_byte
part_stands bytes width columns long has = record { wide = has.wide ∙ sym long; stand = λ j. cases (ltb j width) (λ e. within j (ltb-true j width e)) (λ e. past j (ltb-false j width e)) }
  where
    within : (j : ℕ) → j < width → get_or (take width bytes) j 0 ≡ column_byte (get_or columns j unsaid)
    within j lt = get_or-take width bytes j 0 lt ∙ has.stand j

    past : (j : ℕ) → width ≤ j → get_or (take width bytes) j 0 ≡ column_byte (get_or columns j unsaid)
    past j far = get_or_past (take width bytes) j 0 (omega (arith, long)) ∙ ap column_byte (sym (get_or_past columns j unsaid (omega (arith, has.wide))))

pub writes_refused : (cols : Columns 2000) (answer : List ℕ) (x : Result Walk Refusal) (k : Refusal) → x ≡ Err k → WritesWalk cols x answer answer (Err k)
unfolding outcome_of leave
writes_refused cols answer x k e =
    subst (λ y. WritesWalk cols y answer answer (Err k)) (sym e)
    (record { says = λ w t. sym (ap (λ v. leave answer (outcome_of v >>= λ a. print_into (length answer) a)) t.is) })

module _ (cols : Columns 2000) (part : List ℕ) (is : part ≡ take cols.width cols.bytes) (long : length part ≡ cols.width) (answer : List ℕ) (x : Result Walk Refusal) where
  pub writes_ended : (w : Walk) (answer_then : List ℕ) (r : Result ℕ Refusal) → x ≡ Ok w → Writes part w.counts answer answer_then r → WritesWalk cols x answer answer_then r
  unfolding outcome_of
  writes_ended w answer_then r e writes =
      subst (λ y. WritesWalk cols y answer answer_then r) (sym e)
      (record {
        says = λ v t.
            (writes.says (columns_of t.notes.counted) (subst (λ l. HasColumns l (length l) (columns_of t.notes.counted)) (sym is) (part_stands cols.bytes cols.width (columns_of t.notes.counted) (sym (ap length is) ∙ long) t.columns))).is ∙
            ap (λ a. leave answer (print_into (length answer) a)) (same_answer t.notes t.counts) ∙
            sym (ap (λ u. leave answer (outcome_of u >>= λ a. print_into (length answer) a)) t.is);
      })
    where
      same_answer : (n : Notes Defined ResultRow) → Counts w n → answer_with w.counts (columns_of n.counted) ≡ answer_of n
      same_answer n h = rw (h.charged, h.loopstops, h.gasstops, h.repeats)

-- ---- the listing and the catalogue, read

-- at most so many items, where more are refused
few_items : {A : Type 0} (k most : ℕ) (o : Option (List A)) (items : List A) → (or_refused k o >>= λ xs. done_if 3 (leb (length xs) most) xs) ≡ done items → length items ≤ most
few_items k most None items g = cc
few_items {A} k most (Some xs) items g = inner (leb (length xs) most) refl g
  where
    inner : (b : Bool) → leb (length xs) most ≡ b → done_if 3 b xs ≡ done items → length items ≤ most
    inner true f h = subst (λ l. length l ≤ most) (done-same h) (leb-true (length xs) most f)
    inner false f h = cc

few_rows : (listing : List ℕ) (rows : List Listed) → rows_of listing ≡ done rows → length rows ≤ 2048
unfolding rows_of
few_rows listing rows e = few_items 1 2048 (read_listing listing) rows e

few_records : (catalogue : List ℕ) (records : List CatalogueRecord) → records_of catalogue ≡ done records → length records ≤ 4096
unfolding records_of
few_records catalogue records e = few_items 2 4096 (read_catalogue catalogue) records e

catalogue_read : (catalogue : List ℕ) (records : List CatalogueRecord) → records_of catalogue ≡ done records → read_catalogue catalogue ≡ Some records
unfolding records_of
catalogue_read catalogue records e = by (read_catalogue catalogue) e
  where
    inner : (xs : List CatalogueRecord) (b : Bool) → done_if 3 b xs ≡ done records → xs ≡ records
    inner xs true g = done-same g
    inner xs false g = cc

    by : (o : Option (List CatalogueRecord)) → (or_refused 2 o >>= λ xs. done_if 3 (leb (length xs) 4096) xs) ≡ done records → o ≡ Some records
    by None g = cc
    by (Some xs) g = ap Some (inner xs (leb (length xs) 4096) g)

-- the call, where nothing is refused before the walk
call_as : (listing catalogue area answer : List ℕ) (rows : List Listed) (records : List CatalogueRecord) → rows_of listing ≡ done rows → records_of catalogue ≡ done records → serves (length area) (length rows) ≡ true → call listing catalogue (length area) answer ≡ leave answer (outcome_of (walk_listing (standard records) rows (length area)) >>= λ a. print_into (length answer) a)
unfolding call outcome area_fits
call_as listing catalogue area answer rows records e f h = rw (e, f, h)

call_unserved : (listing catalogue area answer : List ℕ) (rows : List Listed) (records : List CatalogueRecord) → rows_of listing ≡ done rows → records_of catalogue ≡ done records → serves (length area) (length rows) ≡ false → call listing catalogue (length area) answer ≡ leave answer (refused 4)
unfolding call outcome area_fits
call_unserved listing catalogue area answer rows records e f h = rw (e, f, h)

call_unlisted : (listing catalogue area answer : List ℕ) (k : ℕ) → rows_of listing ≡ refused k → call listing catalogue (length area) answer ≡ leave answer (refused k)
unfolding call outcome
call_unlisted listing catalogue area answer k e = rw (e)

call_uncatalogued : (listing catalogue area answer : List ℕ) (rows : List Listed) (k : ℕ) → rows_of listing ≡ done rows → records_of catalogue ≡ refused k → call listing catalogue (length area) answer ≡ leave answer (refused k)
unfolding call outcome
call_uncatalogued listing catalogue area answer rows k e f = rw (e, f)

-- ---- an area that serves

record Served (bytes n : ℕ) : Type 0 where
  enough : 16 * (1024 + 2 * n) ≤ bytes
  most : bytes ≤ 16777216

served : (bytes n : ℕ) → serves bytes n ≡ true → Served bytes n
served bytes n e =
    let (a, b) = (and-eq-true_iff (leb (16 * (1024 + 2 * n)) bytes) (leb bytes 16777216)).0 e in
    record { enough = leb-true (16 * (1024 + 2 * n)) bytes a; most = leb-true bytes 16777216 b }

-- ---- room for rows

pub has_room : (xs : List ℕ) (r : ℕ) → RowRoom (length xs) r → Room xs 1024 r
has_room xs r h =
    record { inside = λ lt. record { within = omega (arith, length-cells xs, (h.inside lt).0); small = omega (arith, length-cells xs, (h.inside lt).1) } }

-- ---- the blocks

-- zeros are blocks for as many records as there are cells
pub indexable : (catalogue : List ℕ) (records size : ℕ) → Catalogued catalogue records → records ≤ size / 16 → 0 < size / 16 → size / 16 ≤ 1048576 → Indexable catalogue (replicate size 0)
indexable catalogue records size c enough any small =
    let long : length (cells (replicate size 0)) ≡ size / 16 = length-cells (replicate size 0) ∙ ap (λ k. k / 16) (length-replicate {A = ℕ} size 0) in
    record { records = c.records; reads = c.read; size = size; zeros = refl; few = omega (arith, long, c.size); some = omega (arith, long, any); small = omega (arith, long, small) }

-- they are a slice's length at most
pub blocks_short : (catalogue : List ℕ) (size : ℕ) → Indexable catalogue (replicate size 0) → size * 1 < 9223372036854775808
blocks_short catalogue size i = omega (arith, length-cells (replicate size 0), length-replicate {A = ℕ} size 0, i.small)

-- ---- the walk

module _ {catalogue blocks area : List ℕ} {n : ℕ} (m : MayWalk area n) (i : Indexable catalogue blocks) where
  module _ (ys zs : List ℕ) (cleared : CountsCleared area ys (1024 + n) n) (indexed : Indexed catalogue blocks zs) where
    kept : (rows : List Listed) → length rows ≡ n → HaveRows (cells area) 1024 rows → HaveRows (cells ys) 1024 rows
    kept rows size h = rows_kept (cells area) (cells ys) 1024 rows (λ i lt. cleared.below (1024 + i) (omega (arith, size))) h

    pub is_prepared : (cols : Columns 2000) → cols.width ≡ 0 → cols.bytes ≡ replicate 2000 0 → Prepared zs ys cols n
    is_prepared cols none zeros =
        let s = served (length area) n m.fits in
        record {
          rows = m.rows;
          records = i.records;
          listed = kept m.rows m.size m.listed;
          size = m.size;
          has = indexed.says i.records i.reads;
          few = m.few;
          fits = omega (arith, cleared.same, length-cells area, s.enough);
          small = omega (arith, cleared.same, length-cells area, s.most);
          zero = cleared.zero;
          columns = subst (λ k. HasColumns cols.bytes k []) (sym none) (subst (λ l. HasColumns l 0 []) (sym zeros) (no_columns 2000));
        }

    module _ (ts : List ℕ) (cols : Columns 2000) (x : Result Walk Refusal) (walks : WalksRows zs ys ts cols n x) where
      told : (rows : List Listed) (records : List CatalogueRecord) → HaveRows (cells area) 1024 rows → length rows ≡ n → read_catalogue catalogue ≡ Some records → TellsWalk cols x (walk_listing (standard records) rows (length area))
      told rows records h size read =
          subst (λ k. TellsWalk cols x (walk_listing (standard records) rows k)) cleared.bytes (walks.says rows records (kept rows size h) size (indexed.says records read))

      pub can_write : Writable x
      can_write = by x (told m.rows i.records m.listed m.size i.reads)
        where
          by : (y : Result Walk Refusal) → TellsWalk cols y (walk_listing (standard i.records) m.rows (length area)) → Writable y
          by (Err k) t = tt
          by (Ok w) t = t.few

      pub answers_walk : (answer answer_then : List ℕ) (q : Result ℕ Refusal) → WritesWalk cols x answer answer_then q → AnswersRows catalogue area ts answer answer_then n q
      answers_walk answer answer_then q writes =
          record {
            says = λ rows records h size read. writes.says (walk_listing (standard records) rows (length area)) (told rows records h size read);
            bytes = walks.bytes ∙ cleared.bytes;
          }

-- ---- what was counted

pub record Read {A : Type 0} (t : Tried (List A)) (n : ℕ) : Type 0 where
  pub items : List A
  pub is : t ≡ done items
  pub size : length items ≡ n

module _ {A : Type 0} (t : Tried (List A)) (r : Result ℕ Refusal) (count : counted_as r ≡ length_of t) where
  counted_refused : (k : Refusal) → r ≡ Err k → t ≡ refused (number_of k)
  counted_refused k e = by t (sym (ap counted_as e) ∙ count)
    where
      by : (u : Tried (List A)) → refused (number_of k) ≡ length_of u → u ≡ refused (number_of k)
      by (refused j) f = ap refused (sym (refused_same f))
      by (done xs) f = cc

  counted_read : (n : ℕ) → r ≡ Ok n → Read t n
  counted_read n e = by t refl (sym (ap counted_as e) ∙ count)
    where
      by : (u : Tried (List A)) → t ≡ u → done n ≡ length_of u → Read t n
      by (refused j) f g = cc
      by (done xs) f g = record { items = xs; is = f; size = sym (done-same g) }

-- ---- the refusals before the walk

module _ (listing catalogue area ys answer : List ℕ) (room : ℕ) (r : Result ℕ Refusal) (has : RowRoom (length area) room) (loaded : Loaded listing area ys 1024 room r) where
  left_refused : (k : Refusal) → leave answer (refused (number_of k)) ≡ called_of answer (Err k)
  unfolding leave
  left_refused k = refl

  pub calls_unlisted : (k : Refusal) → r ≡ Err k → CallsInner listing catalogue area ys answer answer (Err k)
  calls_unlisted k e = record { is = sym (call_unlisted listing catalogue area answer (number_of k) (counted_refused (rows_of listing) r loaded.count k e) ∙ left_refused k); bytes = loaded.bytes }

  module _ (n : ℕ) (e : r ≡ Ok n) where
    rows_read : Read (rows_of listing) n
    rows_read = counted_read (rows_of listing) r loaded.count n e

    pub few_counted : n ≤ 2048
    few_counted = omega (arith, rows_read.size, few_rows listing rows_read.items rows_read.is)

    module _ (c : Result ℕ Refusal) (catalogued : counted_as c ≡ length_of (records_of catalogue)) where
      pub calls_uncatalogued : (k : Refusal) → c ≡ Err k → CallsInner listing catalogue area ys answer answer (Err k)
      calls_uncatalogued k f = record { is = sym (call_uncatalogued listing catalogue area answer rows_read.items (number_of k) rows_read.is (counted_refused (records_of catalogue) c catalogued k f) ∙ left_refused k); bytes = loaded.bytes }

      module _ (j : ℕ) (f : c ≡ Ok j) (b : Bool) (is : b ≡ serves (length ys) n) where
        records_read : Read (records_of catalogue) j
        records_read = counted_read (records_of catalogue) c catalogued j f

        tested : (x : Bool) → b ≡ x → serves (length area) n ≡ x
        tested x g = ap (λ k. serves k n) (sym loaded.bytes) ∙ sym is ∙ g

        pub calls_unserved : b ≡ false → CallsInner listing catalogue area ys answer answer (Err AreaSize)
        calls_unserved g =
            record {
              is = sym (call_unserved listing catalogue area answer rows_read.items records_read.items rows_read.is records_read.is (ap (λ k. serves (length area) k) rows_read.size ∙ tested false g) ∙ left_refused AreaSize);
              bytes = loaded.bytes;
            }

        module _ (g : b ≡ true) where
          laid : HaveRows (cells ys) 1024 rows_read.items
          laid = loaded.rows rows_read.items rows_read.is (omega (arith, rows_read.size, has.most n (tested true g)))

          pub may_walk : MayWalk ys n
          may_walk = record { rows = rows_read.items; listed = laid; size = rows_read.size; few = few_counted; fits = sym is ∙ g }

          pub has_records : Catalogued catalogue j
          has_records =
              record {
                records = records_read.items;
                read = catalogue_read catalogue records_read.items records_read.is;
                size = records_read.size;
                few = omega (arith, records_read.size, few_records catalogue records_read.items records_read.is);
              }

          pub calls_then : (zs answer_then : List ℕ) (q : Result ℕ Refusal) → AnswersRows catalogue ys zs answer answer_then n q → CallsInner listing catalogue area zs answer answer_then q
          calls_then zs answer_then q inner =
              record {
                is =
                    inner.says rows_read.items records_read.items laid rows_read.size (catalogue_read catalogue records_read.items records_read.is) ∙
                    ap (λ k. leave answer (outcome_of (walk_listing (standard records_read.items) rows_read.items k) >>= λ a. print_into (length answer) a)) loaded.bytes ∙
                    sym (call_as listing catalogue area answer rows_read.items records_read.items rows_read.is records_read.is (ap (λ k. serves (length area) k) rows_read.size ∙ tested true g));
                bytes = inner.bytes ∙ loaded.bytes;
              }

-- ---- the entry

module _ (listing catalogue area ys answer answer_then : List ℕ) (q : Result ℕ Refusal) (inner : CallsInner listing catalogue area ys answer answer_then q) where
  claims : CallClaims listing catalogue (length area) answer
  claims = call_claims listing catalogue (length area) answer

  module _ (zs : List ℕ) (cleared : zs ≡ replicate (length ys) 0) where
    zeros : zs ≡ replicate (length area) 0
    zeros = cleared ∙ ap (λ k. replicate k 0) inner.bytes

    calls_of : (r : Result ℕ Refusal) → called_of answer_then r ≡ call listing catalogue (length area) answer → packed r ≡ (called_of answer_then r).number * 4294967296 + (called_of answer_then r).size → answer_then ≡ (called_of answer_then r).answer → Calls listing catalogue area zs answer answer_then (packed r)
    calls_of r is e kept = record { result = e ∙ ap (λ c. c.number * 4294967296 + c.size) is; bytes = kept ∙ ap (λ c. c.answer) is; zero = zeros; claims = claims }

    pub describes : Describes listing catalogue area zs answer answer_then q
    describes = by q inner.is
      where
        by : (r : Result ℕ Refusal) → called_of answer_then r ≡ call listing catalogue (length area) answer → Describes listing catalogue area zs answer answer_then r
        by (Err k) is = record { calls = calls_of (Err k) is (omega arith) refl; number = ap (λ c. c.number) is; room = tt }
        by (Ok n) is =
            let answered = claims.answered (sym (ap (λ c. c.number) is)) in
            let text = print_answer (answer_of answered.notes) in
            let long : length answer_then ≡ length text + length (drop (length text) answer) = ap length (ap (λ c. c.answer) is ∙ answered.bytes) ∙ length-append text (drop (length text) answer) in
            record { calls = calls_of (Ok n) is (omega arith) refl; number = ap (λ c. c.number) is; room = omega (arith, ap (λ c. c.size) is, answered.size, long) }
