-- The laws of runs under other keys: n times a cell under the keys 0, 1, 2, ..., with what each turn of the loop that writes them leaves, and a run
-- whose key is changed. Assumes nothing.
use mathlib.Core.Path.{◌≡◌, refl, sym, ap, ap₂, ◌∙◌}
use mathlib.Core.List.{List, [], ◌∷◌, map}
use mathlib.Core.Bool.{Bool, true, false}
use Prim.Native.Nat.{ℕ, zero, suc, ◌+◌, ◌<◌}
use native.Mathlib.Omega.{arith}
use lib.ListN.{length, get_or, set}
use lib.Seq.{get_or-set_same, get_or-set_other}
use lib.Dec.{eqb}
use Rattle.area.specs.Cells.{blank}
use Rattle.area.specs.declared.Cell.{Cell}
use Rattle.intmap.specs.Pack.{tag_of, with_key}
use Rattle.intmap.specs.Runs.{size, whole}
use Rattle.intmap.specs.Entries.{Runs, span, entries, key_run, total}
use Rattle.intmap.specs.Map.{Frame}
use Rattle.intmap.specs.Change.{elems, rekey, rekeyed, FromElem}
use Rattle.intmap.proofs.RunLaws.{size-single}
use Rattle.intmap.proofs.SameCells.{size_same, sizes_same}
use Rattle.intmap.proofs.EntryLaws.{span_same}
use Rattle.intmap.proofs.PackLaws.{keyed_tag, keyed_key}

-- ---- n times a cell

-- k of them stand from `at` on, and the rest is as it was
pub record Elems (cs ds : List Cell) (at : ℕ) (c : Cell) (k : ℕ) : Type 0 where
  pub new : (j : ℕ) → j < k → get_or ds (at + j) blank ≡ with_key j c
  pub frame : Frame cs ds at k

elems-span : (ds : List Cell) (c : Cell) (n p k : ℕ) → ((j : ℕ) → j < n → get_or ds (p + j) blank ≡ with_key (k + j) c) → span ds p n ≡ elems c k n
unfolding span elems
elems-span ds c zero p k f = refl
elems-span ds c (suc n) p k f =
    let x : p + 0 ≡ p = omega arith in
    let y : k + 0 ≡ k = omega arith in
    let h : get_or ds p blank ≡ with_key k c = rw (x, y) at (f 0 (omega arith)) in
    ap₂ (λ (c : Cell) (l : List Cell). c ∷ l) h
    (elems-span ds c n (p + 1) (suc k)
    (λ j lt.
    (let x : p + 1 + j ≡ p + suc j = omega arith in
    let y : suc k + j ≡ k + suc j = omega arith in
    rw (x, y) (f (suc j) (omega arith)))))

pub elems-done : (cs ds : List Cell) (at : ℕ) (c : Cell) (k n : ℕ) → k ≡ n → Elems cs ds at c k → FromElem cs ds at c n
elems-done cs ds at c k n e s =
    rw (← e)
    (record { cells = elems-span ds c k at 0 (λ j lt. let z : 0 + j ≡ j = omega arith in rw z (s.new j lt)); frame = s.frame })

-- each is a run by itself, unless it is a record's
module _ (ds : List Cell) (c : Cell) (plain : tag_of c ≡ 2 → ⊥) (d : ℕ) where
  elem_one : (n p k : ℕ) → span ds p (suc n) ≡ elems c k (suc n) → (get_or ds p blank ≡ with_key k c) × (span ds (p + 1) n ≡ elems c (suc k) n)
  unfolding span elems
  elem_one n p k e = (cc, cc)

  pub elem_entries : (n p k : ℕ) → span ds p n ≡ elems c k n → entries ds d n p ≡ map (λ (x : Cell). x ∷ []) (elems c k n)
  unfolding entries elems span
  elem_entries zero p k e = refl
  elem_entries (suc n) p k e =
      let h = elem_one n p k e in
      let one : 1 ≡ size ds d p = size-single ds d p (with_key k c) (sym h.0) (λ t. plain (sym (keyed_tag k c) ∙ t)) in
      rw (← one) (ap₂ (λ (x : Cell) (l : Runs). (x ∷ []) ∷ l) h.0 (elem_entries n (p + 1) (suc k) h.1))

-- ---- runs under other keys

-- a column whose head has the same tag and the same number of columns is as long
module _ (cs ds : List Cell) (p : ℕ) (f : (j : ℕ) → p < j → get_or ds j blank ≡ get_or cs j blank) where
  whole_head : (d : ℕ) (t : Bool) (n : ℕ) → whole (size ds d) t n p ≡ whole (size cs d) t n p
  unfolding whole
  whole_head d true n = ap (λ (x : ℕ). 1 + x) (sizes_same (size cs d) (size ds d) cs ds (size_same cs ds d) n (p + 1) (p + 1) (λ j lt. f (p + 1 + j) (omega arith)))
  whole_head d false n = refl

  size_head : (d : ℕ) → tag_of (get_or ds p blank) ≡ tag_of (get_or cs p blank) → (get_or ds p blank).payload ≡ (get_or cs p blank).payload → size ds d p ≡ size cs d p
  unfolding size
  size_head zero t l = refl
  size_head (suc d) t l = rw (t, l) (whole_head d (eqb (tag_of (get_or cs p blank)) 2) (get_or cs p blank).payload)

-- one column under another key
module _ (cs : List Cell) (d k p : ℕ) where
  abbrev pub with : List Cell
  with = set cs p (with_key k (get_or cs p blank))

  pub with_other : (j : ℕ) → (j ≡ p → ⊥) → get_or with j blank ≡ get_or cs j blank
  with_other j ne = get_or-set_other cs p j (with_key k (get_or cs p blank)) blank ne

  module _ (fits : p < length cs) where
    with_here : get_or with p blank ≡ with_key k (get_or cs p blank)
    with_here = get_or-set_same cs p (with_key k (get_or cs p blank)) blank fits

    pub with_size : size with d p ≡ size cs d p
    with_size = size_head cs with p (λ j lt. with_other j (omega arith)) d (ap tag_of with_here ∙ keyed_tag k (get_or cs p blank)) (ap (λ (c : Cell). c.payload) with_here)

    pub with_span : (n : ℕ) → 0 < n → span with p n ≡ rekey k (span cs p n)
    unfolding span
    with_span zero lt = absurd (omega arith)
    with_span (suc n) lt = ap₂ (λ (c : Cell) (l : List Cell). c ∷ l) with_here (span_same cs with n (p + 1) (p + 1) (λ j h. with_other (p + 1 + j) (omega arith)))

-- runs under other keys have as many cells
pub rekey_long : (k : ℕ) (r : List Cell) → length (rekey k r) ≡ length r
rekey_long k [] = refl
rekey_long k (c ∷ r) = refl

pub key-rekey : (k : ℕ) (r : List Cell) → 0 < length r → key_run (rekey k r) ≡ k
unfolding key_run
key-rekey k [] lt = absurd (omega arith)
key-rekey k (c ∷ r) lt = keyed_key k c

pub total-rekeyed : (k : ℕ) (rs : Runs) → total (rekeyed k rs) ≡ total rs
unfolding total rekeyed
total-rekeyed k [] = refl
total-rekeyed k (r ∷ rs) = ap₂ (λ (x y : ℕ). x + y) (rekey_long k r) (total-rekeyed (suc k) rs)
