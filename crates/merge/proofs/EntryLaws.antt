-- The turns of the loop over a map's entries, and the search before it: what is still to be merged, and what that gives. Assumes nothing.
use mathlib.Core.Path.{◌≡◌, refl, sym, ap, ap₂, ◌∙◌}
use mathlib.Core.Bool.{Bool, true, false}
use mathlib.Core.List.{List, [], ◌∷◌}
use Prim.Native.Nat.{ℕ, zero, suc, ◌+◌, ◌-◌, ◌<◌, ◌≤◌}
use native.Mathlib.Omega.{arith}
use lib.Dec.{ltb}
use lib.ListN.{length, get_or, set, length-set}
use lib.Seq.{get_or-set_same, get_or-set_other}
use borrow.Author.Tests.{lt-ltb, le-ltb, ltb-true, ltb-false}
use Rattle.area.specs.Cells.{blank}
use Rattle.area.specs.declared.Cell.{Cell}
use Rattle.intmap.specs.Pack.{key_of}
use Rattle.intmap.specs.Pick.{pick}
use Rattle.intmap.specs.Runs.{size, AreColumns}
use Rattle.intmap.specs.Entries.{Runs, span, entries, key_run}
use Rattle.intmap.specs.Find.{place, seek_place}
use Rattle.intmap.specs.Map.{levels, IsMap}
use Rattle.intmap.specs.declared.IntMap.{IntMap}
use Rattle.intmap.specs.declared.Place.{Place}
use Rattle.intmap.proofs.FindLaws.{seek_ends}
use Rattle.intmap.proofs.RunLaws.{size-pos}
use Rattle.intmap.proofs.EntryLaws.{key-span}
use Rattle.merge.specs.Entries.{cell_byte, merge_byte, merge_cell, head_run, merge_runs}

-- ---- one cell

module _ (i : ℕ) (c : Cell) (bytes : List ℕ) where
  pub cell_before : key_of c < i → merge_cell i c bytes ≡ bytes
  unfolding merge_cell
  cell_before h = ap (λ b. pick b bytes (set bytes (key_of c - i) (merge_byte (cell_byte c) (get_or bytes (key_of c - i) 0)))) (lt-ltb (key_of c) i h)

  pub cell_within : i ≤ key_of c → merge_cell i c bytes ≡ set bytes (key_of c - i) (merge_byte (cell_byte c) (get_or bytes (key_of c - i) 0))
  unfolding merge_cell
  cell_within h = ap (λ b. pick b bytes (set bytes (key_of c - i) (merge_byte (cell_byte c) (get_or bytes (key_of c - i) 0)))) (le-ltb (key_of c) i h)

  -- the same by what the code has of the cell
  pub cell_left : (key : ℕ) → key ≡ key_of c → key < i → bytes ≡ merge_cell i c bytes
  cell_left key e h = sym (cell_before (omega arith))

  pub cell_set : (key b r : ℕ) → key ≡ key_of c → i ≤ key → b ≡ cell_byte c → r ≡ merge_byte b (get_or bytes (key - i) 0) → set bytes (key - i) r ≡ merge_cell i c bytes
  cell_set key b r e h f g =
      ap (set bytes (key - i)) (g ∙ ap (λ x. merge_byte x (get_or bytes (key - i) 0)) f)
      ∙ ap (λ k. set bytes (k - i) (merge_byte (cell_byte c) (get_or bytes (k - i) 0))) e
      ∙ sym (cell_within (omega arith))

  pub cell_long : length (merge_cell i c bytes) ≡ length bytes
  unfolding merge_cell
  cell_long = go (ltb (key_of c) i)
    where
      go : (b : Bool) → length (pick b bytes (set bytes (key_of c - i) (merge_byte (cell_byte c) (get_or bytes (key_of c - i) 0)))) ≡ length bytes
      go true = refl
      go false = length-set bytes (key_of c - i) (merge_byte (cell_byte c) (get_or bytes (key_of c - i) 0))

  -- its own column and the others
  pub cell_merged : (j : ℕ) → key_of c ≡ i + j → j < length bytes → get_or (merge_cell i c bytes) j 0 ≡ merge_byte (cell_byte c) (get_or bytes j 0)
  cell_merged j e h =
      let k : key_of c - i ≡ j = omega arith in
      ap (λ l. get_or l j 0) (cell_within (omega arith))
      ∙ ap (λ x. get_or (set bytes x (merge_byte (cell_byte c) (get_or bytes x 0))) j 0) k
      ∙ get_or-set_same bytes j (merge_byte (cell_byte c) (get_or bytes j 0)) 0 h

  pub cell_kept : (j : ℕ) → (key_of c ≡ i + j → ⊥) → get_or (merge_cell i c bytes) j 0 ≡ get_or bytes j 0
  cell_kept j other = go (ltb (key_of c) i) refl
    where
      go : (b : Bool) → ltb (key_of c) i ≡ b → get_or (merge_cell i c bytes) j 0 ≡ get_or bytes j 0
      go true e = ap (λ l. get_or l j 0) (cell_before (ltb-true (key_of c) i e))
      go false e =
          let from : i ≤ key_of c = ltb-false (key_of c) i e in
          ap (λ l. get_or l j 0) (cell_within from) ∙ get_or-set_other bytes (key_of c - i) j _ 0 (λ p. other (omega arith))

-- ---- runs in a row

module _ (i n : ℕ) (e : List Cell) (es : Runs) (bytes : List ℕ) where
  pub runs_on : key_run e < i + n → merge_runs i n (e ∷ es) bytes ≡ merge_runs i n es (merge_cell i (head_run e) bytes)
  unfolding merge_runs
  runs_on h = ap (λ b. pick b (merge_runs i n es (merge_cell i (head_run e) bytes)) bytes) (lt-ltb (key_run e) (i + n) h)

  pub runs_past : i + n ≤ key_run e → merge_runs i n (e ∷ es) bytes ≡ bytes
  unfolding merge_runs
  runs_past h = ap (λ b. pick b (merge_runs i n es (merge_cell i (head_run e) bytes)) bytes) (le-ltb (key_run e) (i + n) h)

-- a run's first cell has its key
pub head-key : (run : List Cell) → key_of (head_run run) ≡ key_run run
unfolding key_run
head-key [] = omega arith
head-key (c ∷ cs) = refl

-- ---- entries by place

pub head-span : (cs : List Cell) (p n : ℕ) → 0 < n → head_run (span cs p n) ≡ get_or cs p blank
unfolding span
head-span cs p zero lt = absurd (omega arith)
head-span cs p (suc n) lt = refl

module _ (cs : List Cell) (d i n : ℕ) where
  pub merged_end : (k p : ℕ) (bytes : List ℕ) → k ≤ 0 → merge_runs i n (entries cs d k p) bytes ≡ bytes
  unfolding entries merge_runs
  merged_end zero p bytes h = refl
  merged_end (suc k) p bytes h = absurd (omega arith)

  module _ (p : ℕ) (x : Cell) (here : x ≡ get_or cs p blank) where
    first_key : key_run (span cs p (size cs d p)) ≡ key_of x
    first_key = key-span cs p (size cs d p) (size-pos cs d p) ∙ ap (λ c. key_of c) (sym here)

    pub merged_past : (k : ℕ) (bytes : List ℕ) → 0 < k → i + n ≤ key_of x → merge_runs i n (entries cs d k p) bytes ≡ bytes
    unfolding entries
    merged_past zero bytes lt h = absurd (omega arith)
    merged_past (suc k) bytes lt h = runs_past i n _ _ bytes (omega (arith, first_key))

    pub merged_turn : (k r : ℕ) (bytes : List ℕ) → 0 < k → key_of x < i + n → r ≡ size cs d p → merge_runs i n (entries cs d (k - 1) (p + r)) (merge_cell i x bytes) ≡ merge_runs i n (entries cs d k p) bytes
    unfolding entries
    merged_turn zero r bytes lt h e = absurd (omega arith)
    merged_turn (suc k) r bytes lt h e =
        let less : suc k - 1 ≡ k = omega arith in
        ap₂ (λ y z. merge_runs i n (entries cs d y (p + z)) (merge_cell i x bytes)) less e
        ∙ ap (λ c. merge_runs i n (entries cs d k (p + size cs d p)) (merge_cell i c bytes)) (here ∙ sym (head-span cs p (size cs d p) (size-pos cs d p)))
        ∙ sym (runs_on i n _ _ bytes (omega (arith, first_key)))

-- ---- the search: what comes before the first column's key is not merged

module _ (cs : List Cell) (d i : ℕ) where
  pub merged_sought : (n : ℕ) (bytes : List ℕ) (k p : ℕ) → merge_runs i n (entries cs d (seek_place cs d i k p).left (seek_place cs d i k p).at) bytes ≡ merge_runs i n (entries cs d k p) bytes
  unfolding seek_place
  merged_sought n bytes zero p = refl
  merged_sought n bytes (suc k) p = go (ltb (key_of (get_or cs p blank)) i) refl (merged_sought n bytes k (p + size cs d p))
    where
      less : suc k - 1 ≡ k
      less = omega arith

      go : (b : Bool) → ltb (key_of (get_or cs p blank)) i ≡ b → merge_runs i n (entries cs d (seek_place cs d i k (p + size cs d p)).left (seek_place cs d i k (p + size cs d p)).at) bytes ≡ merge_runs i n (entries cs d k (p + size cs d p)) bytes
          → merge_runs i n (entries cs d (pick b (seek_place cs d i k (p + size cs d p)) (place p (suc k))).left (pick b (seek_place cs d i k (p + size cs d p)) (place p (suc k))).at) bytes ≡ merge_runs i n (entries cs d (suc k) p) bytes
      go true e ih =
          let low : key_of (get_or cs p blank) < i = ltb-true (key_of (get_or cs p blank)) i e in
          ih
          ∙ ap (λ l. merge_runs i n (entries cs d k (p + size cs d p)) l) (sym (cell_before i (get_or cs p blank) bytes low))
          ∙ ap (λ y. merge_runs i n (entries cs d y (p + size cs d p)) (merge_cell i (get_or cs p blank) bytes)) (sym less)
          ∙ merged_turn cs d i n p (get_or cs p blank) refl (suc k) (size cs d p) bytes (omega arith) (omega arith) refl
      go false e ih = refl

-- what was found are entries within the area
pub found-columns : (cs : List Cell) (a : IntMap) (i : ℕ) (w : Place) → IsMap cs a → w ≡ seek_place cs levels i a.len a.base → AreColumns cs levels w.left w.at
found-columns cs a i w is e = rw e (record { fits = omega (arith, seek_ends cs levels i a.len a.base, is.used, is.inside); small = is.small })
