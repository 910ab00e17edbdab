-- An entry replaced in place by a run as long as it: the entries are then those with this run under its key, and take as many cells. So with
-- a run whose head, or the heads of whose columns, are changed by place. From intmap's `Swapped` and from `Heads`. Assumes nothing.
use mathlib.Core.Path.{◌≡◌, refl, sym, ap, ap₂, ◌∙◌}
use mathlib.Core.Bool.{true}
use mathlib.Core.List.{List, [], ◌∷◌, ◌++◌}
use Prim.Native.Nat.{ℕ, suc, ◌+◌, ◌-◌, ◌%◌, ◌<◌, ◌≤◌}
use native.Mathlib.Omega.{arith}
use lib.ListN.{length, get_or, set}
use lib.Seq.{get_or-set_same, get_or-set_other}
use Rattle.model.specs.State.{Columns}
use Rattle.area.specs.Cells.{cell, blank}
use Rattle.area.specs.declared.Cell.{Cell}
use Rattle.intmap.specs.Runs.{size, sizes}
use Rattle.intmap.specs.Entries.{Runs, span, entries, total}
use Rattle.intmap.specs.Find.{seek_place, seek_found}
use Rattle.intmap.specs.Swap.{swap}
use Rattle.intmap.specs.Change.{on_head}
use Rattle.intmap.proofs.RunLaws.{size-pos, size_record}
use Rattle.intmap.proofs.FindLaws.{seek-pos}
use Rattle.intmap.proofs.EntryLaws.{span_same, length-span, total-sizes}
use Rattle.intmap.proofs.SwapLaws.{cells_of, total-swap}
use Rattle.intmap.proofs.Swapped.{seek_some, swapped_old}
use Rattle.encoding.specs.Encode.{count, run_columns}
use Rattle.encoding.specs.Heads.{on_heads}
use Rattle.encoding.specs.Holds.{Stands}
use Rattle.encoding.proofs.Standing.{Whole, stands_head, stands_rest}
use Rattle.encoding.proofs.Heads.{heads_below, heads_above}

-- in ds `new` stands at p, as long as the entry that cs has there, and all other cells are as in cs
pub record Replaced (cs ds : List Cell) (p : ℕ) (new : List Cell) : Type 0 where
  pub long : length new ≡ size cs 9 p
  pub stands : Stands ds p new
  pub before : (j : ℕ) → j < p → get_or ds j blank ≡ get_or cs j blank
  pub after : (j : ℕ) → p + size cs 9 p ≤ j → get_or ds j blank ≡ get_or cs j blank

-- ---- where the search for a key leads, if the key is there

module _ (cs ds : List Cell) (key len base : ℕ) (new : List Cell) (present : seek_found cs 9 key len base ≡ true) (whole : Whole 9 new) (r : Replaced cs ds (seek_place cs 9 key len base).at new) where
  abbrev there : ℕ
  there = (seek_place cs 9 key len base).at

  first_new : (j : ℕ) → entries ds 9 (1 + j) there ≡ (new ∷ []) ++ entries ds 9 j (there + size cs 9 there)
  unfolding entries
  first_new j =
      let one : 1 + j ≡ suc j = omega arith in
      let s : size ds 9 there ≡ length new = whole ds there r.stands in
      rw one (ap₂ (λ (x : List Cell) (l : Runs). x ∷ l) (ap (span ds there) s ∙ r.stands) (ap (λ n. entries ds 9 j (there + n)) (s ∙ r.long)))

  pub replaced_entries : entries ds 9 len base ≡ swap key (new ∷ []) (entries cs 9 len base)
  replaced_entries =
      let some-there : 0 < len = seek-pos cs 9 key len base present in
      let n : len ≡ 1 + (len - 1) = omega arith in
      ap (λ n. entries ds 9 n base) n
      ∙ swapped_old cs ds 9 key there 1 (size cs 9 there) (new ∷ []) r.before first_new len base refl present (λ j lt. r.after (there + size cs 9 there + j) (omega arith))

  pub replaced_sizes : sizes (size ds 9) len base ≡ sizes (size cs 9) len base
  unfolding total
  replaced_sizes =
      let old = ap cells_of (seek_some cs 9 key len base present) ∙ length-span cs there (size cs 9 there) in
      omega (
        arith,
        total-sizes ds 9 len base,
        total-sizes cs 9 len base,
        ap total replaced_entries,
        total-swap key (new ∷ []) (entries cs 9 len base),
        old,
        r.long,
      )

-- ---- by a change of its head

pub head_replaced : (g : Cell → Cell) (cs : List Cell) (p : ℕ) (run : List Cell) → Stands cs p run → size cs 9 p ≡ length run → p + length run ≤ length cs → Replaced cs (set cs p (g (get_or cs p blank))) p (on_head g run)
unfolding span
head_replaced g cs p [] e s h = absurd (omega (arith, size-pos cs 9 p))
head_replaced g cs p (c ∷ r) e s h =
    let other : (j : ℕ) → (j ≡ p → ⊥) → get_or (set cs p (g (get_or cs p blank))) j blank ≡ get_or cs j blank = λ j ne. get_or-set_other cs p j _ blank ne in
    record {
      long = sym s;
      stands =
          ap₂ (λ x l. x ∷ l) (get_or-set_same cs p _ blank (omega arith) ∙ ap g (stands_head cs p c r e))
          (span_same cs (set cs p (g (get_or cs p blank))) (length r) (p + 1) (p + 1) (λ j lt. other (p + 1 + j) (omega arith)) ∙ stands_rest cs p c r e);
      before = λ j lt. other j (omega arith);
      after = λ j le. other j (omega (arith, size-pos cs 9 p));
    }

-- ---- by changes of the heads of its columns

module _ (f : Cell → Cell) (cs : List Cell) (p h : ℕ) (x : Columns) (tag : h % 256 ≡ 2) (e : Stands cs p (cell h (count x) ∷ run_columns x)) where
  columns_size : 1 + sizes (size cs 8) (count x) (p + 1) ≡ size cs 9 p
  columns_size = size_record cs 9 p (cell h (count x)) (sym (stands_head cs p (cell h (count x)) (run_columns x) e)) (omega arith) tag

  pub heads_replaced : (new : List Cell) → length new ≡ size cs 9 p → Stands (on_heads f 8 cs (count x) (p + 1)) p new → Replaced cs (on_heads f 8 cs (count x) (p + 1)) p new
  heads_replaced new s stands =
      record {
        long = s;
        stands = stands;
        before = λ j lt. heads_below f 8 (count x) cs (p + 1) j (omega arith);
        after = λ j le. heads_above f 8 (count x) cs (p + 1) j (omega (arith, columns_size));
      }
