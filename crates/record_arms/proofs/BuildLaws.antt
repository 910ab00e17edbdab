-- The record's run is built column after column: that of a register, absent or present, stands behind those that stand already; then its head.
-- Assumes nothing.
use Rattle.state.proofs.LeadsLaws.{frame-within, frame_then, frame-set, unchanged}
use mathlib.Core.Path.{◌≡◌, refl, sym, ap, ap₂, subst, ◌∙◌}
use mathlib.Core.Bool.{Bool, true, false}
use Rattle.std.specs.Prelude.{Some, None, Option, Ok, Err}
use mathlib.Core.List.{List, [], ◌∷◌, flatten}
use Prim.Native.Nat.{ℕ, zero, suc, ◌+◌, ◌-◌, ◌<◌, ◌≤◌}
use native.Mathlib.Omega.{arith}
use lib.Dec.{eqb}
use lib.ListN.{length, get_or, set}
use lib.Seq.{get_or-set_same, get_or-set_other}
use borrow.Author.Tests.{eqb-true}
use Rattle.area.specs.Cells.{cell, blank}
use Rattle.area.specs.Moves.{moved}
use Rattle.area.specs.declared.Cell.{Cell}
use Rattle.intmap.specs.Pack.{head, tag_of, with_key, class_key}
use Rattle.intmap.specs.Pick.{pick}
use Rattle.intmap.specs.Runs.{size, sizes, Agree, IsColumn}
use Rattle.intmap.specs.Entries.{Runs, span, entries, total}
use Rattle.intmap.specs.Find.{seek_place, seek_found, seek}
use Rattle.intmap.specs.Swap.{lookup}
use Rattle.intmap.specs.Map.{levels, runs_at, Frame}
use Rattle.intmap.specs.Change.{on_head, rekey, rekeyed}
use Rattle.intmap.specs.declared.Place.{Place}
use Rattle.intmap.specs.declared.IntMap.{IntMap}
use Rattle.intmap.proofs.RunLaws.{size-single, size_record, size-pos}
use Rattle.intmap.proofs.EntryLaws.{span_same, length-span, total-sizes, entries-same}
use Rattle.intmap.proofs.SameCells.{copied, agree_head, size_same, sizes_same}
use Rattle.intmap.proofs.MapLaws.{copied_frame, copied_agree}
use Rattle.intmap.proofs.FindLaws.{answered_ok, answered_err, seek_left, found-whole}
use Rattle.intmap.proofs.Swapped.{seek_ok, seek_err}
use Rattle.intmap.proofs.ChangeLaws.{with_size, total-rekeyed}
use Rattle.encoding.specs.Encode.{single, run_column}
use Rattle.encoding.specs.Heads.{as_column}
use Rattle.encoding.specs.Changes.{column_run}
use Rattle.encoding.proofs.Standing.{entries_flat}
use Rattle.state.specs.Leads.{Current}
use Rattle.record_arms.specs.Records.{runs_from, Flat, Puttable, Ahead, PutOr, PutsColumn, Laid, LaidOr, PutsColumns, BuildsRecord}
use Rattle.record_arms.specs.declared.Progress.{Progress}
use Rattle.record_arms.proofs.SearchLaws.{ahead_there, ahead_behind}

-- ---- a head changed

pub rekey_twice : (key : ℕ) (c : Cell) → with_key key (with_key 0 c) ≡ with_key key c
rekey_twice key c = ap (λ h. cell h c.payload) (omega arith)

-- the cell at q is that of a column under a key
module _ (es ds : List Cell) (q key : ℕ) (fits : q < length es) (is : ds ≡ set es q (with_key key (as_column (get_or es q blank)))) where
  abbrev was : Cell
  was = get_or es q blank

  headed : get_or ds q blank ≡ with_key key (as_column was)
  headed = ap (λ l. get_or l q blank) is ∙ get_or-set_same es q (with_key key (as_column was)) blank fits

  head_size : (d : ℕ) → size ds d q ≡ size es d q
  head_size d = go (eqb (tag_of was) 3) refl
    where
      go : (b : Bool) → eqb (tag_of was) 3 ≡ b → size ds d q ≡ size es d q
      go true t =
          let tag = eqb-true (tag_of was) 3 t in
          let now : get_or ds q blank ≡ with_key key (cell (head 1 1 1 0) 0) = headed ∙ ap (λ b. with_key key (pick b (cell (head 1 1 1 0) 0) was)) t in
          sym (size-single ds d q (with_key key (cell (head 1 1 1 0) 0)) (sym now) (omega arith)) ∙ size-single es d q was refl (omega arith)
      go false t = ap (λ l. size l d q) (is ∙ ap (λ b. set es q (with_key key (pick b (cell (head 1 1 1 0) 0) was))) t) ∙ with_size es d key q fits

  head-span : (n : ℕ) → 0 < n → span ds q n ≡ rekey key (rekey 0 (on_head as_column (span es q n)))
  unfolding span
  head-span zero lt = absurd (omega arith)
  head-span (suc n) lt =
      ap₂ (λ (c : Cell) (l : List Cell). c ∷ l) (headed ∙ sym (rekey_twice key (as_column was)))
      (span_same es ds n (q + 1) (q + 1) (λ j h. ap (λ l. get_or l (q + 1 + j) blank) is ∙ get_or-set_other es q (q + 1 + j) (with_key key (as_column was)) blank (omega arith)))

column_long : (run : List Cell) → length (column_run (Some run)) ≡ length run
column_long [] = refl
column_long (c ∷ run) = refl

-- ---- the column of a register

module _ (cs : List Cell) (at left k key to end : ℕ) (ok : Puttable cs at left k to end) (found : ℕ) (ke : found ≡ class_key 0 k) (w : Place) where
  abbrev runs : Runs
  runs = entries cs levels left at

  keyed : seek cs levels found left at ≡ seek cs levels (class_key 0 k) left at
  keyed = ap (λ z. seek cs levels z left at) ke

  -- it is absent
  module _ (e : Err w ≡ seek cs levels found left at) where
    its_one : column_run (lookup (class_key 0 k) runs) ≡ single 0 0 0 ∷ []
    unfolding run_column
    its_one = ap column_run (seek_err cs levels (class_key 0 k) left at w (e ∙ keyed))

    pub absent_full : end ≤ to → PutsColumn cs cs at left k key to end None
    absent_full h = record { answer = omega (arith, ap length its_one); frame = unchanged cs to (end - to) }

    module _ (ds : List Cell) (c x : Cell) (ce : c ≡ single 0 0 0) (xe : x ≡ with_key key c) (de : ds ≡ set cs to x) (lt : to < end) where
      default_here : get_or ds to blank ≡ with_key key (single 0 0 0)
      default_here = ap (λ l. get_or l to blank) de ∙ get_or-set_same cs to x blank (omega (arith, ok.fits)) ∙ xe ∙ ap (with_key key) ce

      default_size : size ds 8 to ≡ 1
      default_size = sym (size-single ds 8 to (with_key key (single 0 0 0)) (sym default_here) (omega arith))

      default_span : span ds to 1 ≡ with_key key (single 0 0 0) ∷ []
      unfolding span
      default_span = ap (λ y. y ∷ []) default_here

      pub absent_put : PutsColumn cs ds at left k key to end (Some (record { to = to + 1; at = w.at; left = w.left }))
      absent_put =
          record {
            answer = (
              record { within = omega arith; ends = omega (arith, default_size); run = ap (span ds to) default_size ∙ default_span ∙ sym (ap (rekey key) its_one) },
              subst (λ (v : Place). Ahead cs at left k v.at v.left) (sym (answered_err cs levels (class_key 0 k) left at w (e ∙ keyed)).0) (ahead_there cs at left k),
            );
            frame = frame-within cs ds to 1 to (end - to) (omega arith) (omega arith) (frame-set cs ds to x de);
          }

  -- it is present
  module _ (e : Ok w ≡ seek cs levels found left at) where
    there : (w ≡ seek_place cs levels (class_key 0 k) left at) × (seek_found cs levels (class_key 0 k) left at ≡ true)
    there = answered_ok cs levels (class_key 0 k) left at w (e ∙ keyed)

    pub present_within : w.at + size cs levels w.at ≤ to
    present_within = omega (arith, found-whole cs levels found left at w e, ok.below)

    pub present_column : IsColumn cs levels w.at
    present_column = record { fits = omega (arith, present_within, ok.ordered, ok.fits); small = ok.small }

    pub present_left : 0 < w.left
    present_left = subst (λ (v : Place). 0 < v.left) (sym there.0) (seek_left cs levels (class_key 0 k) left at there.1)

    -- and takes n cells
    module _ (n : ℕ) (counted : n ≡ size cs levels w.at) where
      run_found : lookup (class_key 0 k) runs ≡ Some (span cs w.at n)
      run_found = seek_ok cs levels (class_key 0 k) left at w (e ∙ keyed) ∙ ap (λ z. Some (span cs w.at z)) (sym counted)

      present_some : 0 < n
      present_some = omega (arith, size-pos cs levels w.at)

      its_run : column_run (lookup (class_key 0 k) runs) ≡ column_run (Some (span cs w.at n))
      its_run = ap column_run run_found

      behind : Ahead cs at left k (w.at + n) (w.left - 1)
      behind =
          subst (λ z. Ahead cs at left k (w.at + z) (w.left - 1)) (sym counted)
          (subst (λ (v : Place). Ahead cs at left k (v.at + size cs levels v.at) (v.left - 1)) (sym there.0) (ahead_behind cs at left k there.1))

      pub present_full : end < to + n → PutsColumn cs cs at left k key to end None
      present_full h =
          record {
            answer = omega (arith, ap length its_run, column_long (span cs w.at n), length-span cs w.at n);
            frame = unchanged cs to (end - to);
          }

      module _ (fits : to + n ≤ end) (es ds : List Cell) (c y x : Cell) (ce : c ≡ get_or cs w.at blank) (ye : y ≡ as_column c) (xe : x ≡ with_key key y) (ee : es ≡ moved cs w.at to n) (de : ds ≡ set es to x) where
        agree : Agree cs w.at es to n
        agree = copied_agree cs es w.at to n n (copied refl ee) (omega (arith, ok.fits))

        moved_frame : Frame cs es to n
        moved_frame = copied_frame cs es w.at to n n (copied refl ee)

        stands : span es to n ≡ span cs w.at n
        stands = span_same cs es n w.at to agree

        moved_size : size es 8 to ≡ n
        moved_size = ok.flat (span cs w.at n) run_found es to (ap (span es to) (length-span cs w.at n) ∙ stands) ∙ length-span cs w.at n

        first : get_or es to blank ≡ get_or cs w.at blank
        first = agree_head cs es w.at to n present_some agree

        written : ds ≡ set es to (with_key key (as_column (get_or es to blank)))
        written = de ∙ ap (set es to) (xe ∙ ap (λ z. with_key key z) (ye ∙ ap (λ z. as_column z) (ce ∙ sym first)))

        inside : to < length es
        inside = omega (arith, moved_frame.long, present_some, ok.fits)

        put_size : size ds 8 to ≡ n
        put_size = head_size es ds to key inside written 8 ∙ moved_size

        pub present_put : PutsColumn cs ds at left k key to end (Some (record { to = to + n; at = w.at + n; left = w.left - 1 }))
        present_put =
            record {
              answer = (
                record {
                  within = fits;
                  ends = omega (arith, put_size);
                  run =
                      ap (span ds to) put_size ∙ head-span es ds to key inside written n present_some
                      ∙ ap (λ r. rekey key (rekey 0 (on_head as_column r))) stands ∙ sym (ap (rekey key) its_run);
                },
                behind,
              );
              frame =
                  frame_then cs es ds to (end - to) (frame-within cs es to n to (end - to) (omega arith) (omega arith) moved_frame)
                  (frame-within es ds to 1 to (end - to) (omega arith) (omega (arith, present_some)) (frame-set es ds to x de));
            }

-- ---- the columns of registers, one after the other

-- with one more at their end
grown : (ds : List Cell) (es : Runs) (n k j p q : ℕ) → p + sizes (size ds 8) n p ≡ q → entries ds 8 n p ≡ rekeyed j (runs_from n k es) → span ds q (size ds 8 q) ≡ rekey (j + n) (column_run (lookup (class_key 0 (k + n)) es)) → entries ds 8 (suc n) p ≡ rekeyed j (runs_from (suc n) k es)
unfolding sizes entries runs_from rekeyed
grown ds es zero k j p q at e r =
    let x : p ≡ q = omega arith in
    let y : j + 0 ≡ j = omega arith in
    let z : k + 0 ≡ k = omega arith in
    ap (λ l. l ∷ []) (ap (λ t. span ds t (size ds 8 t)) x ∙ r ∙ ap₂ (λ (s t : ℕ). rekey s (column_run (lookup (class_key 0 t) es))) y z)
grown ds es (suc n) k j p q at e r =
    let head : span ds p (size ds 8 p) ≡ rekey j (column_run (lookup (class_key 0 k) es)) = cc in
    let rest : entries ds 8 n (p + size ds 8 p) ≡ rekeyed (suc j) (runs_from n (suc k) es) = cc in
    let y : j + suc n ≡ suc j + n = omega arith in
    let z : k + suc n ≡ suc k + n = omega arith in
    ap₂ (λ (l : List Cell) (ls : Runs). l ∷ ls) head
    (grown ds es n (suc k) (suc j) (p + size ds 8 p) q (omega arith) rest (r ∙ ap₂ (λ (s t : ℕ). rekey s (column_run (lookup (class_key 0 t) es))) y z))

sizes-grown : (f : ℕ → ℕ) (n p : ℕ) → sizes f (suc n) p ≡ sizes f n p + f (p + sizes f n p)
unfolding sizes
sizes-grown f zero p =
    let x : p + 0 ≡ p = omega arith in
    rw x (omega arith)
sizes-grown f (suc n) p =
    let x : p + (f p + sizes f n (p + f p)) ≡ p + f p + sizes f n (p + f p) = omega arith in
    rw x (omega (arith, sizes-grown f n (p + f p)))

-- the first i of n, and the next, take no more cells than all
first-total : (es : Runs) (i n k : ℕ) → i < n → total (runs_from i k es) + length (column_run (lookup (class_key 0 (k + i)) es)) ≤ total (runs_from n k es)
unfolding runs_from total
first-total es zero zero k lt = absurd (omega arith)
first-total es (suc i) zero k lt = absurd (omega arith)
first-total es zero (suc n) k lt =
    let x : k + 0 ≡ k = omega arith in
    rw x (omega arith)
first-total es (suc i) (suc n) k lt =
    let x : k + suc i ≡ suc k + i = omega arith in
    rw x (omega (arith, first-total es i n (suc k) (omega arith)))

laid_cells : (ds : List Cell) (es : Runs) (k n low end q : ℕ) → Laid ds es k n low end q → low + total (runs_from n k es) ≡ q
laid_cells ds es k n low end q laid =
    let c : sizes (size ds 8) n low ≡ total (runs_from n k es) = total-sizes ds 8 n low ∙ ap total laid.runs ∙ total-rekeyed 0 (runs_from n k es) in
    omega (arith, c, laid.ends)

-- k of them stand from `low` on up to `to`, and the entries from `at` on have the registers after them
pub record Going (cs ds : List Cell) (es : Runs) (first k low end to at left : ℕ) : Type 0 where
  pub laid : Laid ds es first k low end to
  pub below : at + sizes (size ds levels) left at ≤ low
  pub same : (j : ℕ) → first + k ≤ j → lookup (class_key 0 j) (entries ds levels left at) ≡ lookup (class_key 0 j) es
  pub frame : Frame cs ds low (end - low)

pub going_first : (cs : List Cell) (base len first low end : ℕ) → base + sizes (size cs levels) len base ≤ low → low ≤ end → Going cs cs (entries cs levels len base) first 0 low end low base len
unfolding sizes entries runs_from rekeyed
going_first cs base len first low end below le =
    record {
      laid = record { within = le; ends = omega arith; runs = refl };
      below = below;
      same = λ j h. refl;
      frame = unchanged cs low (end - low);
    }

-- where the loop is
module _ (cs ds : List Cell) (es : Runs) (first k low end to at left : ℕ) (going : Going cs ds es first k low end to at left) where
  pub going_puttable : end ≤ length cs → length cs ≤ 1048576 → Flat (first + k) es → Puttable ds at left (first + k) to end
  going_puttable fits small flat =
      record {
        below = omega (arith, going.below, going.laid.ends);
        ordered = going.laid.within;
        fits = omega (arith, going.frame.long);
        small = omega (arith, going.frame.long);
        flat = λ run e. flat run (sym (going.same (first + k) (omega arith)) ∙ e);
      }

  -- a turn
  module _ (fs : List Cell) (x : Option Progress) (puts : PutsColumn ds fs at left (first + k) k to end x) where
    framed : Frame cs fs low (end - low)
    framed =
        frame_then cs ds fs low (end - low) going.frame
        (frame-within ds fs to (end - to) low (end - low) (omega (arith, going.laid.ends)) (omega (arith, going.laid.ends, going.laid.within)) puts.frame)

    its_column : column_run (lookup (class_key 0 (first + k)) (entries ds levels left at)) ≡ column_run (lookup (class_key 0 (first + k)) es)
    its_column = ap column_run (going.same (first + k) (omega arith))

    pub going_full : (n : ℕ) → k < n → x ≡ None → PutsColumns cs fs es first n low end None
    going_full n lt e =
        let over : end < to + length (column_run (lookup (class_key 0 (first + k)) (entries ds levels left at))) = subst (PutOr ds fs at left (first + k) k to end) e puts.answer in
        record {
          answer = omega (arith, over, ap length its_column, laid_cells ds es first k low end to going.laid, first-total es k n first lt);
          frame = framed;
        }

    module _ (w : Progress) (e : x ≡ Some w) where
      told : PutOr ds fs at left (first + k) k to end (Some w)
      told = subst (PutOr ds fs at left (first + k) k to end) e puts.answer

      kept : Agree ds low fs low (sizes (size ds 8) k low)
      kept i lt = puts.frame.below (low + i) (omega (arith, going.laid.ends))

      sizes_kept : sizes (size fs 8) k low ≡ sizes (size ds 8) k low
      sizes_kept = sizes_same (size ds 8) (size fs 8) ds fs (size_same ds fs 8) k low low kept

      ends_kept : low + sizes (size fs 8) k low ≡ to
      ends_kept = omega (arith, sizes_kept, going.laid.ends)

      laid_on : Laid fs es first (suc k) low end w.to
      laid_on =
          let y : 0 + k ≡ k = omega arith in
          let f = ap (size fs 8) ends_kept in
          record {
            within = told.0.within;
            ends = omega (arith, sizes-grown (size fs 8) k low, f, ends_kept, told.0.ends);
            runs =
                grown fs es k first 0 low to ends_kept (entries-same ds fs 8 k low low kept ∙ going.laid.runs)
                (told.0.run ∙ ap (rekey k) its_column ∙ ap (λ t. rekey t (column_run (lookup (class_key 0 (first + k)) es))) (sym y));
          }

      rest_kept : Agree ds w.at fs w.at (sizes (size ds levels) w.left w.at)
      rest_kept i lt = puts.frame.below (w.at + i) (omega (arith, told.1.below, going.below, going.laid.ends))

      pub going_on : Going cs fs es first (k + 1) low end w.to w.at w.left
      going_on =
          let s = sizes_same (size ds levels) (size fs levels) ds fs (size_same ds fs levels) w.left w.at w.at rest_kept in
          let z : suc k ≡ k + 1 = omega arith in
          record {
            laid = subst (λ m. Laid fs es first m low end w.to) z laid_on;
            below = omega (arith, s, told.1.below, going.below);
            same = λ j h.
                (ap (lookup (class_key 0 j)) (entries-same ds fs levels w.left w.at w.at rest_kept) ∙ told.1.same j (omega arith) ∙ going.same j (omega arith));
            frame = framed;
          }

-- ---- the record

-- its head stands before its columns
module _ (cs ds fs : List Cell) (a : IntMap) (k n limit q : ℕ) (laid : Laid ds (runs_at cs a) k n (a.base + limit + 1) (a.base + limit + limit) q) (inside : a.base + limit < length ds)
    (before : Frame cs ds (a.base + limit + 1) (a.base + limit + limit - (a.base + limit + 1))) (written : fs ≡ set ds (a.base + limit) (cell 2 n))
  where
    abbrev p : ℕ
    p = a.base + limit

    head_there : get_or fs p blank ≡ cell 2 n
    head_there = ap (λ l. get_or l p blank) written ∙ get_or-set_same ds p (cell 2 n) blank inside

    set_frame : Frame ds fs p 1
    set_frame = frame-set ds fs p (cell 2 n) written

    after : Agree ds (p + 1) fs (p + 1) (sizes (size ds 8) n (p + 1))
    after j lt = set_frame.above (p + 1 + j) (omega arith)

    same_runs : entries fs 8 n (p + 1) ≡ rekeyed 0 (runs_from n k (runs_at cs a))
    same_runs = entries-same ds fs 8 n (p + 1) (p + 1) after ∙ laid.runs

    same_sizes : sizes (size fs 8) n (p + 1) ≡ sizes (size ds 8) n (p + 1)
    same_sizes = sizes_same (size ds 8) (size fs 8) ds fs (size_same ds fs 8) n (p + 1) (p + 1) after

    record_size : size fs levels p ≡ 1 + sizes (size fs 8) n (p + 1)
    record_size = sym (size_record fs levels p (cell 2 n) (sym head_there) (omega arith) (omega arith))

    record_span : span fs p (1 + sizes (size fs 8) n (p + 1)) ≡ cell 2 n ∷ flatten (rekeyed 0 (runs_from n k (runs_at cs a)))
    unfolding span
    record_span =
        let z : 1 + sizes (size fs 8) n (p + 1) ≡ suc (sizes (size fs 8) n (p + 1)) = omega arith in
        rw z (ap₂ (λ (c : Cell) (l : List Cell). c ∷ l) head_there (sym (entries_flat fs 8 n (p + 1)) ∙ ap (λ l. flatten l) same_runs))

    record_built : 0 < limit → BuildsRecord cs fs a k n limit (Some p)
    record_built lt =
        record {
          answer = record { above = omega arith; ends = omega (arith, record_size, same_sizes, laid.ends, laid.within); run = ap (span fs p) record_size ∙ record_span };
          frame =
              frame_then cs ds fs p limit (frame-within cs ds (p + 1) (p + limit - (p + 1)) p limit (omega arith) (omega arith) before)
              (frame-within ds fs p 1 p limit (omega arith) (omega arith) set_frame);
        }

-- in the words of the code
module _ (cs ds : List Cell) (a : IntMap) (k n limit : ℕ) (current : Current limit cs a) (lt : 0 < limit) (x : Option ℕ) (puts : PutsColumns cs ds (runs_at cs a) k n (a.base + limit + 1) (a.base + limit + limit) x) where
  pub columns_inside : a.base + limit < length ds
  columns_inside = omega (arith, puts.frame.long, current.scratch)

  pub columns_built : (q : ℕ) → x ≡ Some q → (fs : List Cell) → fs ≡ set ds (a.base + limit) (cell 2 n) → BuildsRecord cs fs a k n limit (Some (a.base + limit))
  columns_built q e fs written = record_built cs ds fs a k n limit q (subst (LaidOr ds (runs_at cs a) k n (a.base + limit + 1) (a.base + limit + limit)) e puts.answer) columns_inside puts.frame written lt
