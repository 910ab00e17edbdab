-- Columns gathered along a chain of the blocks: the invariant of the loop, each turn of it, that columns which are too many stay so, and that the
-- records of other buckets would add none. Assumes nothing.
use Rattle.refusal.specs.declared.Refusal.{Refusal}
use Rattle.std.specs.Prelude.{Ok, Err, Option, None, Some}
use Rattle.std.proofs.lemmas.Option.{none-some, same_Some}
use mathlib.Core.Path.{◌≡◌, refl, sym, ap, subst, ◌∙◌}
use mathlib.Core.Bool.{Bool, true, false, ◌&&◌, ◌||◌}
use mathlib.Core.Logic.{◌⊎◌, inl, inr, ∥∥₁_elim}
use mathlib.Core.HLevel.{⊥_prop}
use mathlib.Core.List.{List, [], ◌∷◌, ◌++◌, append-nil, append_assoc}
use Prim.Native.Nat.{ℕ, zero, suc, ◌+◌, ◌-◌, ◌%◌, ◌<◌, ◌≤◌, compare, Ordering}
use native.Mathlib.Omega.{arith}
use native.Mathlib.Nat.{mod-lt}
use native.Mathlib.Bridge.{le_prop}
use lib.Dec.{eqb, leb}
use lib.IntN.{pos}
use lib.ListN.{length, get_or}
use borrow.Author.Tests.{eqb-false, ne_eqb}
use Rattle.model.specs.Walk.{refused, done}
use Rattle.model.specs.IntMap.{Entry, ◌⇒◌, insert_by, insert}
use Rattle.model.specs.State.{ColumnType, as_columns}
use Rattle.model.specs.Equality.{eq_int, is_zero_int}
use Rattle.model.specs.Cells.{column_cells, columns_cells}
use Rattle.model.specs.Catalogue.{CatalogueRecord, record_column, is_for, add_if, columns_after, columns_at}
use Rattle.model.specs.CursorArms.{columns_if}
use Rattle.model.specs.Good.{Each}
use Rattle.area.specs.Cells.{blank, cells}
use Rattle.area.specs.declared.Cell.{Cell}
use Rattle.intmap.specs.Pack.{tag_of, key_of}
use Rattle.intmap.specs.Pick.{pick}
use Rattle.intmap.specs.Entries.{Runs, entries, key_run, total}
use Rattle.intmap.specs.Map.{levels, empty, runs_at, HasRoom, Frame}
use Rattle.intmap.specs.Store.{put, judge_runs, stored_of, NewAt, Inserts, Stored}
use Rattle.intmap.specs.Signed.{offset, int_of}
use Rattle.intmap.specs.declared.IntMap.{IntMap}
use Rattle.intmap.proofs.MapLaws.{empty_room}
use Rattle.intmap.proofs.StoreLaws.{room_map, behind_new, frame_same}
use Rattle.intmap.proofs.SwapLaws.{Under, under_more, under-swap}
use Rattle.intmap.proofs.Swapped.{seek_under}
use Rattle.intmap.proofs.SignedLaws.{int_below, int_above}
use Rattle.encoding.specs.Encode.{column_runs}
use Rattle.encoding.proofs.Lengths.{length-flatten, columns_length}
use Rattle.rows.specs.declared.row.Row.{Row}
use Rattle.state.proofs.LeadsLaws.{frame_then}
use Rattle.root_block.specs.Blocks.{next_of, column_of, first_of, leads_to, IsBlock, in_bucket, Chain, HasBlocks, IsBlocks}
use Rattle.read_arm.specs.Gathers.{block_for, at_page, at_database, Gathers, GathersTo}
use Rattle.read_arm.proofs.ColumnLaws.{number_same, column_plain, Adds, added_not, added, judged-full}

-- ---- judged runs

judged-done : (limit : ℕ) (old rs : Runs) → done old ≡ judge_runs limit rs → old ≡ rs
judged-done limit old rs = by (leb (total rs) limit)
  where
    by : (b : Bool) → done old ≡ pick b (done rs) (refused 8) → old ≡ rs
    by true e = cc
    by false e = cc

-- a cell that is stored leaves the keys below any bound that is above its own
inserted_under : (cs ds : List Cell) (limit : ℕ) (m : IntMap) (c : Cell) (r : IntMap) (high : ℕ) → Inserts cs ds limit m (c ∷ []) (Ok r) → key_of c < high → Under high (runs_at cs m) → Under high (runs_at ds r)
unfolding key_run
inserted_under cs ds limit m c r high ins less under =
    subst (Under high) (sym (judged-done limit (runs_at ds r) (put (c ∷ []) (runs_at cs m)) ins.answer)) (under-swap (key_of c) high ((c ∷ []) ∷ []) (runs_at cs m) (less, tt) under)

-- ---- every column is a cell, and none is lost

Plain : Entry ColumnType → Type 0
Plain e = column_cells e.value ≡ 1

plain_cells : (es : List (Entry ColumnType)) → Each Plain es → columns_cells (as_columns es) ≡ length es
unfolding columns_cells as_columns Plain
plain_cells [] p = refl
plain_cells (e ∷ es) p = omega (arith, p.0, plain_cells es p.1)

module _ (k : ℕ) (v : ColumnType) where
  plain_insert : column_cells v ≡ 1 → (es : List (Entry ColumnType)) → Each Plain es → Each Plain (insert k v es)
  unfolding insert Plain
  plain_insert h [] p = (h, tt)
  plain_insert h (e ∷ es) p = by (compare k e.key) (plain_insert h es p.1)
    where
      by : (o : Ordering) → Each Plain (insert k v es) → Each Plain (insert_by o (k ⇒ v) e es (insert k v es))
      by Ordering.lt rest = (h, p)
      by Ordering.eq rest = (h, p.1)
      by Ordering.gt rest = (p.0, rest)

  more_insert : (es : List (Entry ColumnType)) → length es ≤ length (insert k v es)
  unfolding insert
  more_insert [] = omega arith
  more_insert (e ∷ es) = by (compare k e.key) (more_insert es)
    where
      by : (o : Ordering) → length es ≤ length (insert k v es) → suc (length es) ≤ length (insert_by o (k ⇒ v) e es (insert k v es))
      by Ordering.lt rest = omega arith
      by Ordering.eq rest = omega arith
      by Ordering.gt rest = omega arith

module _ (x : Row) where
  -- the columns after these records, from those gathered before
  abbrev after : List (Entry ColumnType) → List CatalogueRecord → List (Entry ColumnType)
  after es records = columns_after es (int_of x.p3) (int_of x.p2) records

  abbrev adding : List (Entry ColumnType) → CatalogueRecord → List (Entry ColumnType)
  adding es r = add_if (is_for (int_of x.p3) (int_of x.p2) r) r es

  after_append : (es : List (Entry ColumnType)) (xs ys : List CatalogueRecord) → after es (xs ++ ys) ≡ after (after es xs) ys
  unfolding columns_after
  after_append es [] ys = refl
  after_append es (r ∷ xs) ys = after_append (adding es r) xs ys

  plain_after : (es : List (Entry ColumnType)) (xs : List CatalogueRecord) → Each Plain es → Each Plain (after es xs)
  unfolding columns_after
  plain_after es [] p = p
  plain_after es (r ∷ xs) p = plain_after (adding es r) xs (by (is_for (int_of x.p3) (int_of x.p2) r))
    where
      by : (b : Bool) → Each Plain (add_if b r es)
      by true = plain_insert r.col (record_column r) (unfold column_cells record_column in refl) es p
      by false = p

  more_after : (es : List (Entry ColumnType)) (xs : List CatalogueRecord) → length es ≤ length (after es xs)
  unfolding columns_after
  more_after es [] = omega arith
  more_after es (r ∷ xs) = omega (arith, by (is_for (int_of x.p3) (int_of x.p2) r), more_after (adding es r) xs)
    where
      by : (b : Bool) → length es ≤ length (add_if b r es)
      by true = more_insert r.col (record_column r) es
      by false = omega arith

  -- too many columns of the first records are too many of all
  more_cells : (first more : List CatalogueRecord) → total (column_runs (as_columns (after [] first))) ≤ columns_cells (as_columns (after [] (first ++ more)))
  more_cells first more =
      let some-cells = as_columns (after [] first) in
      let p = plain_after [] first tt in
      omega (
        arith,
        length-flatten (column_runs some-cells),
        columns_length some-cells,
        plain_cells (after [] first) p,
        plain_cells (after [] (first ++ more)) (plain_after [] (first ++ more) tt),
        ap length (after_append [] first more),
        more_after (after [] first) more,
      )

  -- the records of other buckets are for other pages
  for_none : (n : ℕ) (r : CatalogueRecord) → ((offset + r.page) % n ≡ x.p2 % n → ⊥) → is_for (int_of x.p3) (int_of x.p2) r ≡ false
  unfolding is_for
  for_none n r ne = ap (λ b. eq_int (pos r.db) (int_of x.p3) && b) (number_same r.page x.p2 ∙ ne_eqb (offset + r.page) x.p2 (λ e. ne (ap (λ w. w % n) e))) ∙ and-false (eq_int (pos r.db) (int_of x.p3))
    where
      and-false : (b : Bool) → (b && false) ≡ false
      and-false true = refl
      and-false false = refl

  after_bucket : (n : ℕ) (es : List (Entry ColumnType)) (records : List CatalogueRecord) → after es (in_bucket n (x.p2 % n) records) ≡ after es records
  unfolding columns_after in_bucket
  after_bucket n es [] = refl
  after_bucket n es (r ∷ rs) = by (eqb ((offset + r.page) % n) (x.p2 % n)) refl (after_bucket n (adding es r) rs) (after_bucket n es rs)
    where
      by : (b : Bool) → eqb ((offset + r.page) % n) (x.p2 % n) ≡ b → after (adding es r) (in_bucket n (x.p2 % n) rs) ≡ after (adding es r) rs → after es (in_bucket n (x.p2 % n) rs) ≡ after es rs → after es (pick b (r ∷ in_bucket n (x.p2 % n) rs) (in_bucket n (x.p2 % n) rs)) ≡ after (adding es r) rs
      by true q own other = unfold columns_after in own
      by false q own other = other ∙ ap (λ b. after (add_if b r es) rs) (sym (for_none n r (eqb-false ((offset + r.page) % n) (x.p2 % n) q)))

-- ---- the loop

-- how far a link is from the end: links lead on
pub ahead : ℕ → ℕ → ℕ
ahead n zero = 0
ahead n (suc i) = n - i

ahead_less : (n link next : ℕ) → 0 < link → link ≤ n → (next ≡ 0) ⊎ (link < next) → ahead n next < ahead n link
unfolding ahead
ahead_less n zero next h l o = absurd (omega arith)
ahead_less n (suc i) zero h l o = omega arith
ahead_less n (suc i) (suc j) h l (inl e) = absurd (omega arith)
ahead_less n (suc i) (suc j) h l (inr m) = omega arith

-- the records of the row's bucket: those whose columns the map holds, and those that the link leads to
pub record Followed (ds : List Cell) (bs : List ℕ) (x : Row) (link : ℕ) (m : IntMap) (records : List CatalogueRecord) : Type 0 where
  pub first : List CatalogueRecord
  pub rest : List CatalogueRecord
  pub low : ℕ
  pub all : in_bucket (length (cells bs)) (x.p2 % length (cells bs)) records ≡ first ++ rest
  pub chain : Chain (cells bs) low link rest
  pub runs : runs_at ds m ≡ column_runs (as_columns (after x [] first))

-- of all records that the bytes can hold; and the map's keys are below the bound
pub record Gathering (limit : ℕ) (cs ds : List Cell) (base : ℕ) (bs : List ℕ) (x : Row) (link : ℕ) (m : IntMap) (bound : ℕ) : Type 0 where
  pub says : (records : List CatalogueRecord) → HasBlocks bs records → Followed ds bs x link m records
  pub place : m.base ≡ base
  pub room : HasRoom ds limit m
  pub under : Under bound (runs_at ds m)
  pub frame : Frame cs ds base limit

pub gathering_first : (limit : ℕ) (cs : List Cell) (base : ℕ) (bs : List ℕ) (x : Row) (link : ℕ) (m : IntMap) (bound : ℕ) → base + limit ≤ length cs → length cs ≤ 1048576 → m ≡ empty base → link ≡ first_of (get_or (cells bs) (x.p2 % length (cells bs)) blank) → Gathering limit cs cs base bs x link m bound
unfolding entries columns_after as_columns column_runs
gathering_first limit cs base bs x link m bound fits small e f =
    subst (λ a. Gathering limit cs cs base bs x link a bound) (sym e)
    (record {
      says = λ records h. record {
        first = [];
        rest = in_bucket (length (cells bs)) (x.p2 % length (cells bs)) records;
        low = 0;
        all = refl;
        chain = subst (λ l. Chain (cells bs) 0 l (in_bucket (length (cells bs)) (x.p2 % length (cells bs)) records)) (sym f) (h.chains (x.p2 % length (cells bs)) (mod-lt x.p2 h.some));
        runs = refl;
      };
      place = refl;
      room = empty_room cs limit base fits small;
      under = tt;
      frame = frame_same cs cs base limit refl;
    })

-- no record is left behind a link of 0
chain_end : (cs : List Cell) (low link : ℕ) (rest : List CatalogueRecord) → link ≤ 0 → Chain cs low link rest → rest ≡ []
chain_end cs low link [] le c = refl
chain_end cs low link (r ∷ rest) le c = let above : low < link = c.0 in absurd (omega arith)

-- another link has a record, and leads on
record Link (cs : List Cell) (link : ℕ) (rest : List CatalogueRecord) : Type 0 where
  one : CatalogueRecord
  more : List CatalogueRecord
  are : rest ≡ one ∷ more
  is : IsBlock (get_or cs (link - 1) blank) one
  fits : link ≤ length cs
  chain : Chain cs link (next_of (get_or cs (link - 1) blank)) more

chain_link : (cs : List Cell) (low link : ℕ) (rest : List CatalogueRecord) → 0 < link → Chain cs low link rest → Link cs link rest
chain_link cs low link [] lt c = absurd (omega arith)
chain_link cs low link (r ∷ rest) lt c = record { one = r; more = rest; are = refl; is = c.2; fits = c.1; chain = c.3 }

chain_on : (cs : List Cell) (low link : ℕ) (rest : List CatalogueRecord) → Chain cs low link rest → (link ≡ 0) ⊎ (low < link)
chain_on cs low link [] c = inl c
chain_on cs low link (r ∷ rest) c = inr c.0

module _ {limit : ℕ} {cs ds : List Cell} {base : ℕ} {bs : List ℕ} {x : Row} {link : ℕ} {m : IntMap} {bound : ℕ} (g : Gathering limit cs ds base bs x link m bound) where
  -- the columns of the bucket's records are those of all
  of_all : (records first : List CatalogueRecord) → in_bucket (length (cells bs)) (x.p2 % length (cells bs)) records ≡ first → as_columns (after x [] first) ≡ at_page x records
  unfolding columns_at
  of_all records first e = ap (λ xs. as_columns (after x [] xs)) (sym e) ∙ ap as_columns (after_bucket x (length (cells bs)) [] records)

  pub gathering_end : link ≤ 0 → Gathers limit cs ds base bs (at_page x) (Ok m)
  gathering_end le =
      record {
        answer = record {
          runs = λ records h.
              (let f = g.says records h in
              let none = chain_end (cells bs) f.low link f.rest le f.chain in
              f.runs ∙ ap column_runs (of_all records f.first (f.all ∙ ap (λ l. f.first ++ l) none ∙ append-nil f.first)));
          place = g.place;
          room = g.room;
        };
        frame = g.frame;
      }

  module _ (lt : 0 < link) where
    linked : (records : List CatalogueRecord) (h : HasBlocks bs records) → Link (cells bs) link (g.says records h).rest
    linked records h = let f = g.says records h in chain_link (cells bs) f.low link f.rest lt f.chain

    pub gathering_inside : ∥ IsBlocks bs ∥₁ → link ≤ length (cells bs)
    gathering_inside h = ∥∥₁_elim h le_prop (λ w. (linked w.records w.has).fits)

    module _ (c : Cell) (ce : c ≡ get_or (cells bs) (link - 1) blank) where
      block : (records : List CatalogueRecord) (h : HasBlocks bs records) → IsBlock c (linked records h).one
      block records h = subst (λ d. IsBlock d (linked records h).one) (sym ce) (linked records h).is

      pub gathering_plain : ∥ IsBlocks bs ∥₁ → tag_of (column_of c) ≡ 2 → ⊥
      gathering_plain h tag = ∥∥₁_elim h ⊥_prop (λ w. column_plain c (linked w.records w.has).one (block w.records w.has) tag)

      pub gathering_less : ∥ IsBlocks bs ∥₁ → ahead (length (cells bs)) (next_of c) < ahead (length (cells bs)) link
      gathering_less h =
          ∥∥₁_elim h le_prop (λ w.
          (let l = linked w.records w.has in
          ahead_less (length (cells bs)) link (next_of c) lt l.fits (subst (λ d. (next_of d ≡ 0) ⊎ (link < next_of d)) (sym ce) (chain_on (cells bs) link (next_of (get_or (cells bs) (link - 1) blank)) l.more l.chain))))

      module _ (es : List Cell) (z : Stored) (a : Adds limit ds es m c x z) where
        -- the records passed then
        passed : (records : List CatalogueRecord) → HasBlocks bs records → List CatalogueRecord
        passed records h = (g.says records h).first ++ ((linked records h).one ∷ [])

        passed_all : (records : List CatalogueRecord) (h : HasBlocks bs records) → in_bucket (length (cells bs)) (x.p2 % length (cells bs)) records ≡ passed records h ++ (linked records h).more
        unfolding passed
        passed_all records h =
            let f = g.says records h in
            let l = linked records h in
            f.all ∙ ap (λ r. f.first ++ r) l.are ∙ sym (append_assoc f.first (l.one ∷ []) l.more)

        answer : (records : List CatalogueRecord) (h : HasBlocks bs records) → stored_of es z ≡ judge_runs limit (column_runs (as_columns (after x [] (passed records h))))
        unfolding columns_after passed
        answer records h =
            let f = g.says records h in
            let r = (linked records h).one in
            a.answer r (block records h) (after x [] f.first) f.runs ∙ ap (λ n. judge_runs limit (column_runs (as_columns n))) (sym (after_append x [] f.first (r ∷ [])))

        framed : Frame cs es base limit
        framed = frame_then cs ds es base limit g.frame (subst (λ p. Frame ds es p limit) g.place a.frame)

        full : (e : Refusal) → z ≡ Err e → Gathers limit cs es base bs (at_page x) (Err e)
        full e is =
            record {
              answer = (
                a.only e is,
                λ records h.
                    (let first = passed records h in
                    let more = (linked records h).more in
                    let over = (judged-full limit (column_runs (as_columns (after x [] first))) e (sym (ap (stored_of es) is) ∙ answer records h)).1 in
                    subst (λ k. limit < columns_cells k) (of_all records (first ++ more) (passed_all records h)) (omega (arith, over, more_cells x first more))),
              );
              frame = framed;
            }

        next : (b : IntMap) (high : ℕ) → z ≡ Ok b → Under high (runs_at es b) → Gathering limit cs es base bs x (next_of c) b high
        next b high is under =
            let kept = subst (Adds limit ds es m c x) is a in
            record {
              says = λ records h. record {
                first = passed records h;
                rest = (linked records h).more;
                low = link;
                all = passed_all records h;
                chain = subst (λ d. Chain (cells bs) link (next_of d) (linked records h).more) (sym ce) (linked records h).chain;
                runs = judged-done limit (runs_at es b) (column_runs (as_columns (after x [] (passed records h)))) (sym (ap (stored_of es) is) ∙ answer records h);
              };
              place = kept.leaves.base ∙ g.place;
              room = kept.leaves.room;
              under = under;
              frame = framed;
            }

      -- a record that is not for the row
      pub gathering_passed : block_for c x ≡ false → Gathering limit cs ds base bs x (next_of c) m bound
      gathering_passed f = next ds (Ok m) (added_not limit ds m c x f g.room) m bound refl g.under

      -- a key that is not below the bound belongs behind all
      pub gathering_behind : (key : ℕ) → key ≡ key_of (column_of c) → bound ≤ key → NewAt ds m (key_of (column_of c)) (m.base + m.used)
      gathering_behind key e le = behind_new (room_map g.room) (seek_under ds levels (key_of (column_of c)) m.len m.base (under_more bound (key_of (column_of c)) (runs_at ds m) (omega (arith, e)) g.under))

      -- a record that is for the row
      module _ (f : block_for c x ≡ true) (es : List Cell) (z : Stored) (ins : Inserts ds es limit m (column_of c ∷ []) z) where
        pub gathering_full : (e : Refusal) → z ≡ Err e → Gathers limit cs es base bs (at_page x) (Err e)
        gathering_full = full es z (added limit ds m c x f es z ins)

        pub gathering_added : (b : IntMap) (high : ℕ) → z ≡ Ok b → key_of (column_of c) < high → bound ≤ high → Gathering limit cs es base bs x (next_of c) b high
        gathering_added b high is less more =
            next es z (added limit ds m c x f es z ins) b high is
            (inserted_under ds es limit m (column_of c) b high (subst (Inserts ds es limit m (column_of c ∷ [])) is ins) less (under_more bound high (runs_at ds m) more g.under))

-- ---- links as they are held

-- how far what is held is from the end
pub ahead_of : ℕ → Option ℕ → ℕ
ahead_of n None = 0
ahead_of n (Some link) = ahead n link

pub led_less : (n at next : ℕ) {o p : Option ℕ} → o ≡ Some at → p ≡ leads_to next → ahead n next < ahead n at → ahead_of n p < ahead_of n o
unfolding ahead ahead_of
led_less n at next e f lt = rw (e, f) (by next lt)
  where
    by : (k : ℕ) → ahead n k < ahead n at → ahead_of n (leads_to k) < ahead n at
    by zero lt = lt
    by (suc k) lt = lt

-- what is held leads on to the rest
pub record Led (limit : ℕ) (cs ds : List Cell) (base : ℕ) (bs : List ℕ) (x : Row) (o : Option ℕ) (m : IntMap) (bound : ℕ) : Type 0 where
  pub link : ℕ
  pub is : o ≡ leads_to link
  pub gathering : Gathering limit cs ds base bs x link m bound

led_to : (link at : ℕ) → leads_to link ≡ Some at → (link ≡ at) × (0 < at)
led_to zero at e = absurd (none-some at e)
led_to (suc k) at e = let same : suc k ≡ at = same_Some (suc k) at e in (same, omega (arith, same))

led_off : (link : ℕ) → leads_to link ≡ None → link ≤ 0
led_off zero e = omega arith
led_off (suc k) e = absurd (none-some (suc k) (sym e))

module _ {limit : ℕ} {cs ds : List Cell} {base : ℕ} {bs : List ℕ} {x : Row} {o : Option ℕ} {m : IntMap} {bound : ℕ} (l : Led limit cs ds base bs x o m bound) where
  pub led_end : o ≡ None → Gathers limit cs ds base bs (at_page x) (Ok m)
  led_end e = gathering_end l.gathering (led_off l.link (sym l.is ∙ e))

  module _ {at : ℕ} (e : o ≡ Some at) where
    pub led_some : 0 < at
    led_some = (led_to l.link at (sym l.is ∙ e)).1

    pub led_at : Gathering limit cs ds base bs x at m bound
    led_at = subst (λ k. Gathering limit cs ds base bs x k m bound) (led_to l.link at (sym l.is ∙ e)).0 l.gathering

-- ---- the database

module _ (x : Row) where
  -- P3 is 0 or 1
  abbrev pub is_database : Bool
  is_database = is_zero_int (int_of x.p3) || eq_int (int_of x.p3) (pos 1)

  pub database_below : x.p3 < offset → is_database ≡ false
  database_below h = ap (λ i. is_zero_int i || eq_int i (pos 1)) (int_below x.p3 h)

  abbrev among : ℕ → Bool
  among n = is_zero_int (pos n) || eq_int (pos n) (pos 1)

  its_number : offset ≤ x.p3 → is_database ≡ among (x.p3 - offset)
  its_number h = ap (λ i. is_zero_int i || eq_int i (pos 1)) (int_above x.p3 h)

  pub database_above : offset + 1 < x.p3 → is_database ≡ false
  database_above h =
      its_number (omega arith)
      ∙ ap (λ b. b || eq_int (pos (x.p3 - offset)) (pos 1)) (ne_eqb (x.p3 - offset) 0 (omega arith))
      ∙ ne_eqb (x.p3 - offset) 1 (omega arith)

  pub database_is : offset ≤ x.p3 → x.p3 ≤ offset + 1 → is_database ≡ true
  database_is h k = its_number h ∙ by (x.p3 - offset) (omega arith)
    where
      by : (n : ℕ) → n ≤ 1 → among n ≡ true
      by zero l = refl
      by (suc zero) l = refl
      by (suc (suc n)) l = absurd (omega arith)

  module _ (limit : ℕ) (cs : List Cell) (base : ℕ) (t : List ℕ) where
    pub no_database : is_database ≡ false → (m : IntMap) → base + limit ≤ length cs → length cs ≤ 1048576 → m ≡ empty base → Gathers limit cs cs base t (at_database x) (Ok m)
    unfolding entries column_runs
    no_database h m fits small e =
        subst (λ n. Gathers limit cs cs base t (at_database x) (Ok n)) (sym e)
        (record {
          answer = record {
            runs = λ records read. ap (λ b. column_runs (columns_if b (at_page x records))) (sym h);
            place = refl;
            room = empty_room cs limit base fits small;
          };
          frame = frame_same cs cs base limit refl;
        })

    pub the_database : is_database ≡ true → (ds : List Cell) (r : Stored) → Gathers limit cs ds base t (at_page x) r → Gathers limit cs ds base t (at_database x) r
    the_database h ds r g = record { answer = subst (λ b. GathersTo limit ds base t (λ records. columns_if b (at_page x records)) r) (sym h) g.answer; frame = g.frame }
