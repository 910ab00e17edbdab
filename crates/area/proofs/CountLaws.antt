-- Laws of specs/Counts.antt: what raises a count, and that the cell where it lies tells it. Assumes nothing.
use mathlib.Core.Path.{◌≡◌, refl, sym, ap, subst, ◌∙◌}
use mathlib.Core.List.{List}
use Prim.Native.Nat.{ℕ, zero, suc, ◌+◌, ◌-◌, ◌*◌, ◌/◌, ◌%◌, ◌<◌, ◌≤◌}
use native.Mathlib.Omega.{arith}
use native.Mathlib.Decide.{dec_lt}
use native.Mathlib.Numerals.{add-one}
use lib.ListN.{length, get_or, set, replicate, length-set, length-replicate}
use lib.Seq.{get_or-set_same, get_or-set_other, paste}
use mir.Syntax.{w8}
use mir.Val.{Fits}
use borrow.Rule.Slice.PartMut.{put_mid}
use Rattle.std.proofs.lemmas.List.Edits.{paste_none, fill_from_more}
use Rattle.std.proofs.lemmas.Slice.{put_mid-paste}
use Rattle.area.specs.Words.{words}
use Rattle.area.specs.Cells.{blank, cell_of, cells, Inside, CellsNow}
use Rattle.area.specs.Moves.{moved}
use Rattle.area.specs.declared.Cell.{Cell}
use Rattle.area.specs.Counts.{place, home, count, Raised, CountsCleared}
use Rattle.area.proofs.WordLaws.{bytes_same, cleared_byte}
use Rattle.area.proofs.CellLaws.{length-cells, cells-kept, cells_at, cells_byte, cell-head, cell_payload, inside-kept}
use Rattle.area.proofs.MoveLaws.{moved_in}

-- a count's byte lies within where its cell does
pub count_fits : (xs : List ℕ) (from i : ℕ) → Inside xs (home from i) 1 → place from i < length xs
count_fits xs from i h = omega (arith, length-cells xs, h)

-- the store of its byte raises a count
pub raised : (xs : List ℕ) (from i : ℕ) → Inside xs (home from i) 1 → Raised xs (set xs (place from i) (get_or xs (place from i) 0 + 1)) from i
unfolding count
raised xs from i h =
    let p : ℕ = place from i in
    let v : ℕ = get_or xs p 0 + 1 in
    record {
      counted = get_or-set_same xs p v 0 (count_fits xs from i h);
      others = λ j ne. get_or-set_other xs p (place from j) v 0 (λ e. ne (omega arith));
      stored = refl;
      elsewhere = λ j ne. cells_byte xs p v j (λ e. ne (omega arith));
      same = cells-kept xs (set xs p v) (length-set xs p v);
      bytes = length-set xs p v;
    }

-- two cells that are the same have the same counts: so what keeps or moves cells keeps or moves counts
-- (`Fits w8` of each byte is what a proof has by `.slice-known .given`)
pub count_same :
    (xs ys : List ℕ) (from to i : ℕ) →
    ((m : ℕ) → Fits w8 (get_or xs m 0)) →
    ((m : ℕ) → Fits w8 (get_or ys m 0)) →
    Inside xs (home from i) 1 →
    Inside ys (home to i) 1 →
    get_or (cells xs) (home from i) blank ≡ get_or (cells ys) (home to i) blank →
    count xs from i ≡ count ys to i
unfolding count
count_same xs ys from to i small less hx hy e = go (dec_lt (i % 16) 8)
  where
    f : ℕ
    f = home from i

    t : ℕ
    t = home to i

    both : cell_of (words xs) f ≡ cell_of (words ys) t
    both = sym (cells_at xs f (omega arith)) ∙ e ∙ cells_at ys t (omega arith)

    go : Dec (i % 16 < 8) → get_or xs (place from i) 0 ≡ get_or ys (place to i) 0
    go (yes lt) =
        let p : place from i ≡ f * 2 * 8 + i % 16 = omega arith in
        let q : place to i ≡ t * 2 * 8 + i % 16 = omega arith in
        rw (p, q)
        (bytes_same xs ys (f * 2) (t * 2) (i % 16) (λ m. (small m).fits) (λ m. (less m).fits)
        (cell-head xs f hx).within
        (cell-head ys t hy).within
        lt
        (ap (λ c. c.head) both))
    go (no ge) =
        let p : place from i ≡ (f * 2 + 1) * 8 + (i % 16 - 8) = omega arith in
        let q : place to i ≡ (t * 2 + 1) * 8 + (i % 16 - 8) = omega arith in
        rw (p, q)
        (bytes_same xs ys (f * 2 + 1) (t * 2 + 1) (i % 16 - 8) (λ m. (small m).fits) (λ m. (less m).fits)
        (cell_payload xs f hx).within
        (cell_payload ys t hy).within
        (omega arith)
        (ap (λ c. c.payload) both))

-- a count whose cell a store of cells kept
pub count_kept :
    (xs ys : List ℕ) (cs : List Cell) (from i : ℕ) →
    ((m : ℕ) → Fits w8 (get_or xs m 0)) →
    ((m : ℕ) → Fits w8 (get_or ys m 0)) →
    Inside xs (home from i) 1 →
    CellsNow xs ys cs →
    get_or cs (home from i) blank ≡ get_or (cells xs) (home from i) blank →
    count ys from i ≡ count xs from i
count_kept xs ys cs from i small less h put e =
    count_same ys xs from from i less small (inside-kept xs ys (home from i) 1 put.bytes h) h (ap (λ l. get_or l (home from i) blank) put.cells ∙ e)

-- a count that lies in another cell than the one that a store changed
pub count-put :
    (xs ys : List ℕ) (at : ℕ) (c : Cell) (from i : ℕ) →
    ((m : ℕ) → Fits w8 (get_or xs m 0)) →
    ((m : ℕ) → Fits w8 (get_or ys m 0)) →
    Inside xs (home from i) 1 →
    CellsNow xs ys (set (cells xs) at c) →
    (home from i ≡ at → ⊥) →
    count ys from i ≡ count xs from i
count-put xs ys at c from i small less h put ne =
    count_kept xs ys (set (cells xs) at c) from i small less h put (get_or-set_other (cells xs) at (home from i) c blank ne)

-- counts that a move copies
pub count-moved :
    (xs ys : List ℕ) (from to n i : ℕ) →
    ((m : ℕ) → Fits w8 (get_or xs m 0)) →
    ((m : ℕ) → Fits w8 (get_or ys m 0)) →
    Inside xs from n →
    Inside xs to n →
    i / 16 < n →
    CellsNow xs ys (moved (cells xs) from to n) →
    count ys to i ≡ count xs from i
count-moved xs ys from to n i small less hf ht lt put =
    count_same ys xs to from i less small
    (record { within = omega (arith, put.same); small = omega (arith, put.same) })
    (record { within = omega arith; small = hf.small })
    (ap (λ l. get_or l (home to i) blank) put.cells ∙ moved_in (cells xs) from to n (i / 16) ht.within lt)

-- every count of a cleared area is 0
pub cleared_count : (n from i : ℕ) → count (replicate n 0) from i ≡ 0
unfolding count
cleared_count n from i = cleared_byte n (place from i)

-- counts cleared one after the other
pub cleared_none : (xs : List ℕ) (from : ℕ) → CountsCleared xs xs from 0
cleared_none xs from =
    record { zero = λ i lt. absurd (omega arith); before = λ k lt. refl; behind = λ k le. refl; below = λ j lt. refl; same = refl; bytes = refl }

pub cleared_next : (xs ys : List ℕ) (from n : ℕ) → place from n < length xs → CountsCleared xs ys from n → CountsCleared xs (set ys (place from n) 0) from (n + 1)
unfolding count
cleared_next xs ys from n inside h =
    let p : ℕ = place from n in
    record {
      zero = λ i lt. by i lt (dec_lt i n);
      before = λ k lt. get_or-set_other ys p k 0 0 (λ e. omega arith) ∙ h.before k lt;
      behind = λ k le. get_or-set_other ys p k 0 0 (λ e. omega arith) ∙ h.behind k (omega arith);
      below = λ j lt. cells_byte ys p 0 j (λ e. omega arith) ∙ h.below j lt;
      same = cells-kept ys (set ys p 0) (length-set ys p 0) ∙ h.same;
      bytes = length-set ys p 0 ∙ h.bytes;
    }
  where
    by : (i : ℕ) → i < n + 1 → Dec (i < n) → get_or (set ys (place from n) 0) (place from i) 0 ≡ 0
    by i lt (yes less) = get_or-set_other ys (place from n) (place from i) 0 0 (λ e. omega arith) ∙ h.zero i less
    by i lt (no ge) =
        let e : place from i ≡ place from n = omega arith in
        ap (λ k. get_or (set ys (place from n) 0) k 0) e ∙ get_or-set_same ys (place from n) 0 0 (omega (arith, h.bytes))

-- all of them cleared
pub cleared_all : (xs : List ℕ) (from n : ℕ) → place from n ≤ length xs → CountsCleared xs (paste xs (from * 16) (replicate n 0) n) from n
cleared_all xs from zero fits = subst (λ ys. CountsCleared xs ys from 0) (paste_none xs (from * 16) (replicate 0 0)) (cleared_none xs from)
cleared_all xs from (suc n) fits =
    let more : CountsCleared xs (paste xs (from * 16) (replicate (n + 1) 0) (n + 1)) from (n + 1) =
    subst (λ ys. CountsCleared xs ys from (n + 1)) (fill_from_more xs (from * 16) n 0 (omega arith)) (cleared_next xs _ from n (omega arith) (cleared_all xs from n (omega arith))) in
    rw add-one at more

-- by zeros in the place of their bytes
pub cleared_part : (xs ys : List ℕ) (from n k : ℕ) → place from n ≤ length xs → k ≡ n → ys ≡ replicate k 0 → CountsCleared xs (put_mid (from * 16) (from * 16 + n - from * 16) xs ys) from n
cleared_part xs ys from n k fits long e =
    subst (λ zs. CountsCleared xs zs from n) (sym (put_mid-paste _ _ xs ys (replicate n 0) n (e ∙ ap (λ m. replicate m 0) long) (omega arith) (omega (arith, length-replicate {A = ℕ} n 0)))) (cleared_all xs from n fits)
