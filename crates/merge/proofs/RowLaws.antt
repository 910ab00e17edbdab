-- A state's registers merged by its runs are what the definition merges: column by column, for a good state. Assumes nothing.
use mathlib.Core.Path.{◌≡◌, refl, sym, ap, ap₂, subst, ◌∙◌}
use Rattle.std.specs.Prelude.{Option, None}
use mathlib.Core.List.{List, [], ◌∷◌, ◌++◌}
use Prim.Native.Nat.{ℕ, zero, suc, ◌+◌, ◌<◌, ◌≤◌, max}
use native.Mathlib.Omega.{arith}
use lib.Dec.{ltb, eqb}
use lib.IntN.{pos}
use lib.ListN.{length, get_or, length-map, get_or-eq_default, get_or-map}
use borrow.Author.Tests.{le-leb, ltb-true, ltb-false, eqb-true, eqb-false}
use Rattle.model.specs.Walk.{Tried, refused, done}
use Rattle.model.specs.IntMap.{Entry, get, Rising}
use Rattle.model.specs.State.{ColumnType, RegDataType, MemoryState, default}
use Rattle.model.specs.Access.{◌>>=◌, index_if, index, read_register, register_column, read_columns}
use Rattle.model.specs.Results.{ResultColumn, result_column, result_columns, merge}
use Rattle.model.specs.Good.{Good}
use Rattle.model.proofs.TestLaws.{cases}
use Rattle.area.specs.declared.Cell.{Cell}
use Rattle.intmap.specs.Pack.{key_of, class_key}
use Rattle.intmap.specs.Entries.{Runs, entries, key_run}
use Rattle.intmap.specs.Find.{seek_place}
use Rattle.intmap.specs.Map.{levels}
use Rattle.intmap.specs.declared.Place.{Place}
use Rattle.intmap.specs.declared.IntMap.{IntMap}
use Rattle.intmap.proofs.SwapLaws.{From}
use Rattle.encoding.specs.Encode.{run_register, run_map, runs_of}
use Rattle.encoding.proofs.MapRuns.{get_first, get_other, get_past}
use Rattle.encoding.proofs.Packing.{register_key}
use Rattle.encoding.proofs.StateRuns.{cursors_from}
use Rattle.state.specs.Leads.{HoldsMap}
use Rattle.state.specs.declared.registers.Registers.{Registers}
use Rattle.merge.specs.Columns.{unsaid, column_byte, HasColumns, Merges}
use Rattle.merge.specs.Entries.{merge_byte, merge_cell, head_run, merge_runs}
use Rattle.merge.proofs.ByteLaws.{merge-nothing, register_byte_lem, merged_at, merged_length}
use Rattle.merge.proofs.EntryLaws.{cell_long, cell_merged, cell_kept, runs_on, runs_past, head-key, merged_sought}

-- ---- the row that the definition reads

pub record IsRow (n i : ℕ) (r : List (Entry RegDataType)) (row : List ColumnType) : Type 0 where
  pub long : length row ≡ n
  pub each : (j : ℕ) → j < n → get_or row j default ≡ register_column (get (i + j) r)

row_first : (n i : ℕ) (m : MemoryState) → i ≤ 65535 → read_columns (suc n) (pos i) m ≡ (read_columns n (pos (suc i)) m >>= λ cs. done (register_column (get i m.r) ∷ cs))
unfolding read_columns read_register index
row_first n i m h = ap (λ b. (index_if b i >>= λ k. done (get k m.r)) >>= λ v. read_columns n (pos (suc i)) m >>= λ cs. done (register_column v ∷ cs)) (le-leb i 65535 h)

pub row_read : (n i : ℕ) (m : MemoryState) (row : List ColumnType) → i + n ≤ 65536 → read_columns n (pos i) m ≡ done row → IsRow n i m.r row
unfolding read_columns
row_read zero i m row h e = let none_read : [] ≡ row = cc in record { long = ap length (sym none_read); each = λ j lt. absurd (omega arith) }
row_read (suc n) i m row h e = go (read_columns n (pos (suc i)) m) refl (sym (row_first n i m (omega arith)) ∙ e) (λ cs. row_read n (suc i) m cs (omega arith))
  where
    more : (cs : List ColumnType) → IsRow n (suc i) m.r cs → (j : ℕ) → j < suc n → get_or (register_column (get i m.r) ∷ cs) j default ≡ register_column (get (i + j) m.r)
    more cs is zero lt = let k : i ≡ i + 0 = omega arith in ap (λ x. register_column (get x m.r)) k
    more cs is (suc j) lt = let k : suc i + j ≡ i + suc j = omega arith in is.each j (omega arith) ∙ ap (λ x. register_column (get x m.r)) k

    go : (t : Tried (List ColumnType)) → read_columns n (pos (suc i)) m ≡ t → (t >>= λ cs. done (register_column (get i m.r) ∷ cs)) ≡ done row → ((cs : List ColumnType) → read_columns n (pos (suc i)) m ≡ done cs → IsRow n (suc i) m.r cs) → IsRow (suc n) i m.r row
    go (refused k) q e ih = cc
    go (done cs) q e ih =
        let is : register_column (get i m.r) ∷ cs ≡ row = cc in
        subst (λ x. IsRow (suc n) i m.r x) is (record { long = ap suc (ih cs q).long; each = more cs (ih cs q) })

-- ---- the registers' runs

abbrev register_byte : Option RegDataType → ℕ
register_byte o = column_byte (result_column (register_column o))

-- an absent register says nothing
absent_byte : (o : Option RegDataType) (x : ℕ) → o ≡ None → merge_byte (register_byte o) x ≡ x
unfolding column_byte
absent_byte o x e = ap (λ y. merge_byte (register_byte y) x) e ∙ merge-nothing x

-- runs past the columns are not merged
past_all : (i n : ℕ) (bytes : List ℕ) (es : Runs) → From (i + n) es → merge_runs i n es bytes ≡ bytes
unfolding merge_runs
past_all i n bytes [] f = refl
past_all i n bytes (e ∷ es) f = runs_past i n e es bytes f

module _ (i n : ℕ) (rest : Runs) (above : From (class_key 0 i + n) rest) where
  abbrev first : ℕ
  first = class_key 0 i

  module _ (P : ℕ → RegDataType → Type 0) (j : ℕ) (lt : j < n) where
    registers_at : (low : ℕ) (rs : List (Entry RegDataType)) → Rising P low rs → (bytes : List ℕ) → n ≤ length bytes → get_or (merge_runs (class_key 0 i) n (run_map run_register 0 rs ++ rest) bytes) j 0 ≡ merge_byte (register_byte (get (i + j) rs)) (get_or bytes j 0)
    unfolding run_map
    registers_at low [] s bytes fits = ap (λ l. get_or l j 0) (past_all first n bytes rest above) ∙ sym (absent_byte (get (i + j) []) (get_or bytes j 0) (get_past P (i + j) (suc (i + j)) [] (omega arith) tt))
    registers_at low (e ∷ rs) s bytes fits =
        cases (ltb e.key (i + n))
        (λ t. ap (λ l. get_or l j 0) (runs_on first n run _ bytes (omega (arith, key, ltb-true e.key (i + n) t))) ∙ registers_at (suc e.key) rs s.2 (merge_cell first (head_run run) bytes) (omega (arith, cell_long first (head_run run) bytes)) ∙ turn)
        (λ t. let far : i + n ≤ e.key = ltb-false e.key (i + n) t in ap (λ l. get_or l j 0) (runs_past first n run _ bytes (omega (arith, key))) ∙ sym (absent_byte (get (i + j) (e ∷ rs)) (get_or bytes j 0) (get_past P (i + j) e.key (e ∷ rs) (omega arith) (omega arith, s.1, s.2))))
      where
        run : List Cell
        run = run_register (class_key 0 e.key) e.value

        key : key_run run ≡ class_key 0 e.key
        key = register_key (class_key 0 e.key) e.value

        head_is : key_of (head_run run) ≡ class_key 0 e.key
        head_is = head-key run ∙ key

        turn : merge_byte (register_byte (get (i + j) rs)) (get_or (merge_cell first (head_run run) bytes) j 0) ≡ merge_byte (register_byte (get (i + j) (e ∷ rs))) (get_or bytes j 0)
        turn = cases (eqb e.key (i + j))
            (λ t. let same : e.key ≡ i + j = eqb-true e.key (i + j) t in
            absent_byte (get (i + j) rs) _ (get_past P (i + j) (suc e.key) rs (omega arith) s.2)
            ∙ cell_merged first (head_run run) bytes j (head_is ∙ omega (arith, same)) (omega arith)
            ∙ ap (λ x. merge_byte x (get_or bytes j 0)) (register_byte_lem (class_key 0 e.key) e.value)
            ∙ ap (λ o. merge_byte (register_byte o) (get_or bytes j 0)) (sym (get_first (i + j) e rs same)))
            (λ t. let other : e.key ≡ i + j → ⊥ = eqb-false e.key (i + j) t in
            ap₂ (λ o x. merge_byte (register_byte o) x) (sym (get_other (i + j) e rs other)) (cell_kept first (head_run run) bytes j (λ p. other (omega (arith, head_is, p)))))

-- what lies behind the n columns is as it was
behind : (i n j : ℕ) → n ≤ j → (es : Runs) (bytes : List ℕ) → get_or (merge_runs i n es bytes) j 0 ≡ get_or bytes j 0
unfolding merge_runs
behind i n j h [] bytes = refl
behind i n j h (e ∷ es) bytes =
    cases (ltb (key_run e) (i + n))
    (λ t. let less : key_run e < i + n = ltb-true (key_run e) (i + n) t in
    ap (λ l. get_or l j 0) (runs_on i n e es bytes less)
    ∙ behind i n j h es (merge_cell i (head_run e) bytes)
    ∙ cell_kept i (head_run e) bytes j (λ p. omega (arith, head-key e)))
    (λ t. ap (λ l. get_or l j 0) (runs_past i n e es bytes (ltb-false (key_run e) (i + n) t)))

-- ---- the whole

module _ (limit : ℕ) (m : MemoryState) (good : Good limit m) (n i : ℕ) (row : List ColumnType) (within : i + n ≤ 65536) (is : IsRow n i m.r row) where
  row_byte : (j : ℕ) → j < n → column_byte (get_or (result_columns row) j unsaid) ≡ register_byte (get (i + j) m.r)
  unfolding result_columns
  row_byte j lt = ap column_byte (get_or-map result_column row j default ∙ ap result_column (is.each j lt))

  row_end : (j : ℕ) → n ≤ j → column_byte (get_or (result_columns row) j unsaid) ≡ 0
  unfolding result_columns column_byte
  row_end j h = ap column_byte (get_or-map result_column row j default ∙ ap result_column (get_or-eq_default row default {n = j} (omega (arith, is.long))))

  byte_at : (bytes : List ℕ) → n ≤ length bytes → (j : ℕ) → get_or (merge_runs (class_key 0 i) n (runs_of m) bytes) j 0 ≡ merge_byte (column_byte (get_or (result_columns row) j unsaid)) (get_or bytes j 0)
  unfolding runs_of
  byte_at bytes fits j =
      cases (ltb j n)
      (λ t. let lt : j < n = ltb-true j n t in
      registers_at i n _ (cursors_from limit m good (class_key 0 i + n) (omega arith)) _ j lt 0 m.r good.registers bytes fits
      ∙ ap (λ x. merge_byte x (get_or bytes j 0)) (sym (row_byte j lt)))
      (λ t. let far : n ≤ j = ltb-false j n t in
      behind (class_key 0 i) n j far _ bytes
      ∙ sym (merge-nothing (get_or bytes j 0))
      ∙ ap (λ x. merge_byte x (get_or bytes j 0)) (sym (row_end j far)))

row-length : (row : List ColumnType) → length (result_columns row) ≡ length row
unfolding result_columns
row-length row = length-map row result_column

pub merged_row : (cs : List Cell) (a : IntMap) (from : Registers) (before after : List ℕ) (width r : ℕ) (w : Place) (key : ℕ)
    → key ≡ class_key 0 from.first → from.count ≤ length before → w ≡ seek_place cs levels key a.len a.base → after ≡ merge_runs key from.count (entries cs levels w.left w.at) before → r ≡ max width from.count → Merges cs a from before after width r
merged_row cs a from before after width r w key ke fits found is wide = record { widest = wide; whole = whole; says = says }
  where
    i : ℕ
    i = from.first

    n : ℕ
    n = from.count

    whole : after ≡ merge_runs (class_key 0 i) n (entries cs levels a.len a.base) before
    whole =
        is ∙ ap (λ f. merge_runs key n (entries cs levels f.left f.at) before) found ∙ merged_sought cs levels key n before a.len a.base
        ∙ ap (λ k. merge_runs k n (entries cs levels a.len a.base) before) ke

    says : (limit bound : ℕ) (m : MemoryState) (row : List ColumnType) (columns : List ResultColumn) → HoldsMap limit bound cs a m → read_columns n (pos i) m ≡ done row → HasColumns before width columns → HasColumns after r (merge (result_columns row) columns)
    says limit bound m row columns holds read has =
        let it = row_read n i m row from.within read in record {
          wide = merged_length (result_columns row) columns ∙ ap₂ max has.wide (row-length row ∙ it.long) ∙ sym wide;
          stand = λ j.
              ap (λ l. get_or l j 0) (whole ∙ ap (λ es. merge_runs (class_key 0 i) n es before) holds.runs)
              ∙ byte_at limit m holds.good n i row from.within it before fits j
              ∙ ap (λ x. merge_byte (column_byte (get_or (result_columns row) j unsaid)) x) (has.stand j)
              ∙ sym (merged_at (result_columns row) columns j);
        }
