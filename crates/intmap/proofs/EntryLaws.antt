-- The laws of entries as lists of runs: the same cells are the same entries, and how many cells they have. Assumes nothing.
use mathlib.Core.Path.{◌≡◌, refl, sym, ap, ap₂}
use mathlib.Core.List.{List, ◌∷◌}
use Prim.Native.Nat.{ℕ, zero, suc, ◌+◌, ◌-◌, ◌<◌, ◌≤◌}
use native.Mathlib.Omega.{arith}
use lib.ListN.{length, get_or}
use Rattle.area.specs.Cells.{blank}
use Rattle.area.specs.declared.Cell.{Cell}
use Rattle.intmap.specs.Pack.{key_of}
use Rattle.intmap.specs.Runs.{size, sizes, Agree}
use Rattle.intmap.specs.Entries.{Runs, span, entries, key_run, total}
use Rattle.intmap.proofs.RunLaws.{size-pos}
use Rattle.intmap.proofs.SameCells.{agree_part, agree_first, size_same}

pub span_same : (cs ds : List Cell) (n p q : ℕ) → Agree cs p ds q n → span ds q n ≡ span cs p n
unfolding span
span_same cs ds zero p q a = refl
span_same cs ds (suc n) p q a =
    let x : q + 0 ≡ q = omega arith in
    let y : p + 0 ≡ p = omega arith in
    let h : get_or ds q blank ≡ get_or cs p blank = rw (x, y) at (a 0 (omega arith)) in
    ap₂ (λ (c : Cell) (l : List Cell). c ∷ l) h (span_same cs ds n (p + 1) (q + 1) (agree_part cs ds p q (suc n) 1 n (omega arith) a))

-- the entry at q of ds is the one at p of cs
pub entry-same : (cs ds : List Cell) (d p q : ℕ) → Agree cs p ds q (size cs d p) → span ds q (size ds d q) ≡ span cs p (size cs d p)
entry-same cs ds d p q a = rw (size_same cs ds d p q a) (span_same cs ds (size cs d p) p q a)

pub entries-same : (cs ds : List Cell) (d n p q : ℕ) → Agree cs p ds q (sizes (size cs d) n p) → entries ds d n q ≡ entries cs d n p
unfolding entries sizes
entries-same cs ds d zero p q a = refl
entries-same cs ds d (suc n) p q a =
    let s = size cs d p in
    let t = sizes (size cs d) n (p + s) in
    let one : Agree cs p ds q s = agree_first cs ds p q (s + t) s (omega arith) a in
    let rest : Agree cs (p + s) ds (q + s) t = agree_part cs ds p q (s + t) s t (omega arith) a in
    ap₂ (λ (r : List Cell) (l : Runs). r ∷ l) (entry-same cs ds d p q one)
    (rw (size_same cs ds d p q one) (entries-same cs ds d n (p + s) (q + s) rest))

pub key-span : (cs : List Cell) (p n : ℕ) → 0 < n → key_run (span cs p n) ≡ key_of (get_or cs p blank)
unfolding span key_run
key-span cs p zero lt = absurd (omega arith)
key-span cs p (suc n) lt = refl

pub length-span : (cs : List Cell) (p n : ℕ) → length (span cs p n) ≡ n
unfolding span
length-span cs p zero = refl
length-span cs p (suc n) = ap suc (length-span cs (p + 1) n)

pub total-sizes : (cs : List Cell) (d n p : ℕ) → sizes (size cs d) n p ≡ total (entries cs d n p)
unfolding sizes entries total
total-sizes cs d zero p = refl
total-sizes cs d (suc n) p = ap₂ (λ (x y : ℕ). x + y) (sym (length-span cs p (size cs d p))) (total-sizes cs d n (p + size cs d p))

-- each entry has a cell
pub entries_few : (cs : List Cell) (d n p : ℕ) → n ≤ sizes (size cs d) n p
unfolding sizes
entries_few cs d zero p = omega arith
entries_few cs d (suc n) p = omega (arith, entries_few cs d n (p + size cs d p), size-pos cs d p)

pub entries-count : (cs : List Cell) (d n p : ℕ) → length (entries cs d n p) ≡ n
unfolding entries
entries-count cs d zero p = refl
entries-count cs d (suc n) p = ap suc (entries-count cs d n (p + size cs d p))

-- the first of n cells with the others
pub opened : (cs : List Cell) (p n : ℕ) → 0 < n → get_or cs p blank ∷ span cs (p + 1) (n - 1) ≡ span cs p n
unfolding span
opened cs p zero h = absurd (omega arith)
opened cs p (suc n) h = let z : suc n - 1 ≡ n = omega arith in rw z
