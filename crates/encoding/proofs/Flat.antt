-- Columns of one cell each. A record's n columns have one each if an entry begins, or the map ends, right behind so many cells: the cells inside a
-- record have lower keys than entries. A cell among them with a key then is the column of that key. Assumes nothing.
use mathlib.Core.Path.{◌≡◌, refl, sym, ap, subst, ◌∙◌}
use mathlib.Core.Logic.{◌⊎◌, inl, inr}
use mathlib.Core.Bool.{true}
use mathlib.Core.List.{List, [], ◌∷◌}
use Prim.Native.Nat.{ℕ, zero, suc, ◌+◌, ◌<◌, ◌≤◌}
use native.Mathlib.Omega.{arith}
use native.Mathlib.Decide.{ℕ_discrete}
use lib.ListN.{length, get_or}
use borrow.Author.Tests.{eq-eqb}
use Rattle.model.specs.State.{Columns, end, entry}
use Rattle.model.specs.Cells.{columns_depth}
use Rattle.model.specs.Good.{SortedColumns}
use Rattle.area.specs.Cells.{blank}
use Rattle.area.specs.declared.Cell.{Cell}
use Rattle.intmap.specs.Entries.{Runs, span, entries, total, key_run}
use Rattle.intmap.specs.Find.{has_entry, seek_place, seek_found}
use Rattle.intmap.specs.Pack.{key_of}
use Rattle.intmap.specs.Runs.{size, sizes}
use Rattle.intmap.proofs.EntryLaws.{total-sizes, entries_few}
use Rattle.intmap.proofs.FindLaws.{entry_first, seek_here, seek_past}
use Rattle.intmap.proofs.RunLaws.{size-pos}
use Rattle.encoding.specs.Encode.{count, run_column, column_runs, run_columns}
use Rattle.encoding.specs.Holds.{Stands}
use Rattle.encoding.proofs.Lengths.{length-flatten, count_runs}
use Rattle.encoding.proofs.Packing.{column_key}
use Rattle.encoding.proofs.Places.{Inner, inner_columns, inner_at, first_key}
use Rattle.encoding.proofs.Standing.{entries_stand, columns_whole}

-- entries whose keys rise from `low` on
abbrev pub Rise : ℕ → Runs → Type 0
Rise low [] = Unit {0}
Rise low (e ∷ es) = (low ≤ key_run e) × Rise (suc (key_run e)) es

pub rise_columns : (x : Columns) (low : ℕ) → SortedColumns x low → Rise low (column_runs x)
unfolding SortedColumns run_column
rise_columns end low s = tt
rise_columns (entry k c cs) low s =
    let key : key_run (run_column k c) ≡ k = column_key k c in
    (omega (arith, key, s.0), subst (λ n. Rise n (column_runs cs)) (ap suc (sym key)) (rise_columns cs (suc k) s.3))

module _ (cs : List Cell) (d : ℕ) where
  -- the r-th of n columns of one cell, and a search for its key
  pub record Direct (n p low r : ℕ) : Type 0 where
    pub from : low ≤ key_of (get_or cs (p + r) blank)
    pub at : (seek_place cs d (key_of (get_or cs (p + r) blank)) n p).at ≡ p + r
    pub present : seek_found cs d (key_of (get_or cs (p + r) blank)) n p ≡ true

  pub direct : (n p low r : ℕ) → sizes (size cs d) n p ≡ n → Rise low (entries cs d n p) → r < n → Direct n p low r
  unfolding entries sizes
  direct zero p low r flat rise lt = absurd (omega arith)
  direct (suc n) p low zero flat rise lt =
      let here : p + 0 ≡ p = omega arith in
      let w = seek_here cs d (key_of (get_or cs p blank)) (suc n) p (get_or cs p blank) (omega arith) refl (omega arith) in
      let c = subst (λ q. (low ≤ key_of (get_or cs q blank)) × ((seek_place cs d (key_of (get_or cs q blank)) (suc n) p).at ≡ q) × (seek_found cs d (key_of (get_or cs q blank)) (suc n) p ≡ true)) (sym here)
      (omega (arith, rise.0, first_key cs p (size cs d p) (size-pos cs d p)), sym (ap (λ x. x.at) w), sym (ap (has_entry cs (key_of (get_or cs p blank))) w) ∙ entry_first cs (key_of (get_or cs p blank)) n p ∙ eq-eqb (key_of (get_or cs p blank)) (key_of (get_or cs p blank)) refl) in
      record { from = c.0; at = c.1; present = c.2 }
  direct (suc n) p low (suc r) flat rise lt =
      let z = size cs d p in
      let key = first_key cs p z (size-pos cs d p) in
      let one : z ≡ 1 = omega (arith, size-pos cs d p, flat, entries_few cs d n (p + z)) in
      let next : p + z + r ≡ p + suc r = omega (arith, one) in
      let b = direct n (p + z) (suc (key_run (span cs p z))) r (omega (arith, flat, one)) rise.1 (omega arith) in
      let c = subst (λ q. (suc (key_run (span cs p z)) ≤ key_of (get_or cs q blank)) × ((seek_place cs d (key_of (get_or cs q blank)) n (p + z)).at ≡ q) × (seek_found cs d (key_of (get_or cs q blank)) n (p + z) ≡ true)) next (b.from, b.at, b.present) in
      let low-key : key_of (get_or cs p blank) < key_of (get_or cs (p + suc r) blank) = omega (arith, c.0, key) in
      let w = seek_past cs d (key_of (get_or cs (p + suc r) blank)) n p low-key in
      record { from = omega (arith, rise.0, c.0); at = ap (λ x. x.at) w ∙ c.1; present = ap (has_entry cs (key_of (get_or cs (p + suc r) blank))) w ∙ c.2 }

-- the columns of a state, with what comes behind so many cells
columns_flat : (x : Columns) → SortedColumns x 0 → (cs : List Cell) (p n last : ℕ) → Stands cs p (run_columns x) → n ≤ length (run_columns x) → p + length (run_columns x) ≤ last → (p + n ≡ last) ⊎ (65536 ≤ key_of (get_or cs (p + n) blank)) → length (run_columns x) ≡ n
columns_flat x sorted cs p n last stands most below (inl e) = omega (arith, most, below, e)
columns_flat x sorted cs p n last stands most below (inr outer) = go (ℕ_discrete (length (run_columns x)) n)
  where
    go : Dec (length (run_columns x) ≡ n) → length (run_columns x) ≡ n
    go (yes e) = e
    go (no ne) = absurd (omega (arith, outer, inner_at cs (length (run_columns x)) p (p + n) (subst Inner (sym stands) (inner_columns x 0 sorted)) (omega arith) (omega (arith, most, ne))))

-- so each of them has one
pub flat_sizes : (x : Columns) → columns_depth x ≤ 8 → SortedColumns x 0 → (cs : List Cell) (p n last : ℕ) → Stands cs p (run_columns x) → n ≡ count x → p + length (run_columns x) ≤ last → (p + n ≡ last) ⊎ (65536 ≤ key_of (get_or cs (p + n) blank)) → sizes (size cs 8) n p ≡ n
flat_sizes x depth sorted cs p n last stands number below behind =
    let runs : entries cs 8 n p ≡ column_runs x = ap (λ k. entries cs 8 k p) (number ∙ sym (count_runs x)) ∙ entries_stand 8 (column_runs x) (columns_whole x 8 depth) cs p stands in
    let long : sizes (size cs 8) n p ≡ length (run_columns x) = total-sizes cs 8 n p ∙ ap total runs ∙ sym (length-flatten (column_runs x)) in
    long ∙ columns_flat x sorted cs p n last stands (omega (arith, long, entries_few cs 8 n p)) below behind
