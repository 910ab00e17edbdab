-- Laws of specs/Cells.antt: how many cells there are, and what a store of a cell or of a byte does to each. Assumes nothing.
use mathlib.Core.Path.{◌≡◌, sym, ap, ap₂, ◌∙◌}
use mathlib.Core.Logic.{inr}
use mathlib.Core.List.{List}
use Prim.Native.Nat.{ℕ, ◌+◌, ◌*◌, ◌/◌, ◌<◌, ◌≤◌}
use native.Mathlib.Omega.{arith}
use native.Mathlib.Decide.{dec_lt}
use lib.ListN.{length, get_or, set, replicate, length-set, get_or-eq_default}
use lib.Seq.{get_or-set_same, get_or-set_other}
use Rattle.area.specs.Words.{tabulate, words, WordsNow}
use Rattle.area.specs.Cells.{cell, blank, cell_of, cells, Inside, WordInside, CellsNow}
use Rattle.area.proofs.WordLaws.{length-tabulate, get_d_tabulate, tabulate-set, length-words, words_byte, cleared_word}

pub length-cells : (xs : List ℕ) → length (cells xs) ≡ length xs / 16
unfolding cells
length-cells xs = omega (arith, length-tabulate (length (words xs) / 2) (cell_of (words xs)), length-words xs)

-- a list of bytes as long has as many cells
pub cells-kept : (xs ys : List ℕ) → length ys ≡ length xs → length (cells ys) ≡ length (cells xs)
cells-kept xs ys e = omega (arith, length-cells xs, length-cells ys)

-- the words of the cell at i lie within
pub cell_fits : (xs : List ℕ) (i : ℕ) → i < length (cells xs) → i * 2 + 1 < length (words xs)
cell_fits xs i lt = omega (arith, length-cells xs, length-words xs)

pub cell-head : (xs : List ℕ) (i : ℕ) → Inside xs i 1 → WordInside xs (i * 2)
cell-head xs i h = record { within = omega (arith, cell_fits xs i (omega arith)); small = h.small }

pub cell_payload : (xs : List ℕ) (i : ℕ) → Inside xs i 1 → WordInside xs (i * 2 + 1)
cell_payload xs i h = record { within = cell_fits xs i (omega arith); small = h.small }

-- what lies inside still does in a list as long
pub inside-kept : (xs ys : List ℕ) (i n : ℕ) → length ys ≡ length xs → Inside xs i n → Inside ys i n
inside-kept xs ys i n e h = record { within = omega (arith, cells-kept xs ys e); small = omega (arith, cells-kept xs ys e) }

pub cells_at : (xs : List ℕ) (i : ℕ) → i < length (cells xs) → get_or (cells xs) i blank ≡ cell_of (words xs) i
unfolding cells
cells_at xs i lt = get_d_tabulate (length (words xs) / 2) (cell_of (words xs)) i blank (omega (arith, length-cells xs, length-words xs))

-- past the last there is none
pub cells_past : (xs : List ℕ) (i : ℕ) → length (cells xs) ≤ i → get_or (cells xs) i blank ≡ blank
cells_past xs i le = get_or-eq_default (cells xs) blank le

-- a store of both its words is a store of the cell
pub cells-set : (xs ys : List ℕ) (i h p : ℕ) → i < length (cells xs) → words ys ≡ set (set (words xs) (i * 2) h) (i * 2 + 1) p → cells ys ≡ set (cells xs) i (cell h p)
unfolding cells
cells-set xs ys i h p lt e =
    let ws : List ℕ = words xs in
    let us : List ℕ = set ws (i * 2) h in
    let vs : List ℕ = set us (i * 2 + 1) p in
    let fits : i * 2 + 1 < length ws = cell_fits xs i lt in
    let head : get_or vs (i * 2) 0 ≡ h = get_or-set_other us (i * 2 + 1) (i * 2) p 0 (λ q. omega arith) ∙ get_or-set_same ws (i * 2) h 0 (omega arith) in
    let payload : get_or vs (i * 2 + 1) 0 ≡ p = get_or-set_same us (i * 2 + 1) p 0 (omega (arith, length-set ws (i * 2) h)) in
    let kept : (j : ℕ) → (j ≡ i * 2 → ⊥) → (j ≡ i * 2 + 1 → ⊥) → get_or vs j 0 ≡ get_or ws j 0 = λ j a b. get_or-set_other us (i * 2 + 1) j p 0 b ∙ get_or-set_other ws (i * 2) j h 0 a in
    ap (λ l. tabulate (length l / 2) (cell_of l)) e
    ∙ ap (λ n. tabulate (n / 2) (cell_of vs)) (length-set us (i * 2 + 1) p ∙ length-set ws (i * 2) h)
    ∙ tabulate-set (length ws / 2) (cell_of ws) (cell_of vs) i (omega arith)
    (λ j l ne. ap₂ cell (kept (j * 2) (λ q. ne (omega arith)) (λ q. omega arith)) (kept (j * 2 + 1) (λ q. omega arith) (λ q. ne (omega arith))))
    ∙ ap (set (tabulate (length ws / 2) (cell_of ws)) i) (ap₂ cell head payload)

pub cell-put :
    (xs us ys : List ℕ) (i h p : ℕ) →
    Inside xs i 1 →
    WordsNow xs us (i * 2) h →
    WordsNow us ys (i * 2 + 1) p →
    CellsNow xs ys (set (cells xs) i (cell h p))
cell-put xs us ys i h p inside first second =
    let len : length ys ≡ length xs = second.bytes ∙ first.bytes in
    record {
      same = cells-kept xs ys len;
      bytes = len;
      rest = λ j le. second.others j (inr (omega arith)) ∙ first.others j (inr (omega arith));
      cells = cells-set xs ys i h p (omega arith) (second.words ∙ ap (λ l. set l (i * 2 + 1) p) first.words);
    }

-- a store of one byte changes the cell that it lies in alone
pub cells_byte : (xs : List ℕ) (i v j : ℕ) → (j ≡ i / 16 → ⊥) → get_or (cells (set xs i v)) j blank ≡ get_or (cells xs) j blank
cells_byte xs i v j ne = go (dec_lt j (length (cells xs)))
  where
    len : length (cells (set xs i v)) ≡ length (cells xs)
    len = cells-kept xs (set xs i v) (length-set xs i v)

    go : Dec (j < length (cells xs)) → get_or (cells (set xs i v)) j blank ≡ get_or (cells xs) j blank
    go (yes lt) =
        cells_at (set xs i v) j (omega (arith, len))
        ∙ ap₂ cell (words_byte xs i v (j * 2) (λ e. ne (omega arith))) (words_byte xs i v (j * 2 + 1) (λ e. ne (omega arith)))
        ∙ sym (cells_at xs j lt)
    go (no ge) = cells_past (set xs i v) j (omega (arith, len)) ∙ sym (cells_past xs j (omega arith))

-- every cell of a cleared area is blank
pub cleared_cell : (n i : ℕ) → get_or (cells (replicate n 0)) i blank ≡ blank
cleared_cell n i = go (dec_lt i (length (cells (replicate n 0))))
  where
    go : Dec (i < length (cells (replicate n 0))) → get_or (cells (replicate n 0)) i blank ≡ blank
    go (yes lt) = cells_at (replicate n 0) i lt ∙ ap₂ cell (cleared_word n (i * 2)) (cleared_word n (i * 2 + 1))
    go (no ge) = cells_past (replicate n 0) i (omega arith)
