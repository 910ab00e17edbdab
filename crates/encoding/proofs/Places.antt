-- In a held state a cell whose key is that of a register, cursor or table begins its entry: the keys of entries rise, and the cells inside a
-- record or table have lower ones. So a search for that key leads to the cell, whoever found it. Assumes nothing.
use mathlib.Core.Path.{◌≡◌, refl, sym, ap, subst, ◌∙◌}
use mathlib.Core.Bool.{Bool, true, false}
use mathlib.Core.List.{List, [], ◌∷◌, ◌++◌, append-nil, flatten}
use Prim.Native.Nat.{ℕ, zero, suc, ◌+◌, ◌<◌, ◌≤◌}
use native.Mathlib.Omega.{arith}
use native.Mathlib.Decide.{ℕ_discrete}
use lib.ListN.{get_or}
use borrow.Author.Tests.{ltb-true, ltb-false, eq-eqb}
use lib.Dec.{ltb}
use Rattle.model.specs.IntMap.{Entry, Rising}
use Rattle.model.specs.State.{ColumnType, Single, Record, Columns, end, entry, RegDataType, Column, Int, CursorDataType, Normal, Pseudo, TableDataType, MemoryState}
use Rattle.model.specs.Good.{SortedColumn, SortedColumns, GoodRegister, GoodTable, GoodCursor, Good}
use Rattle.area.specs.Cells.{blank}
use Rattle.area.specs.declared.Cell.{Cell}
use Rattle.intmap.specs.Pack.{key_of, class_key}
use Rattle.intmap.specs.Find.{has_entry, seek_place, seek_found}
use Rattle.intmap.specs.Runs.{size, sizes}
use Rattle.intmap.specs.Entries.{Runs, span, entries, key_run}
use Rattle.intmap.proofs.FindLaws.{entry_first, seek_here, seek_past}
use Rattle.intmap.proofs.RunLaws.{size-pos}
use Rattle.encoding.specs.Encode.{run_column, column_runs, run_register, run_cursor, run_table, run_map, runs_of}
use Rattle.encoding.specs.Holds.{Holds}
use Rattle.encoding.proofs.Packing.{column_key, register_key, cursor-key, table-key}

-- the keys of cells inside a record or table are below those of entries
abbrev pub Inner : List Cell → Type 0
Inner [] = Unit {0}
Inner (c ∷ cs) = (key_of c < 65536) × Inner cs

abbrev Within : List Cell → Type 0
Within [] = Unit {0}
Within (c ∷ cs) = Inner cs

-- entries whose keys rise from `low` on, each with such cells behind its first
abbrev Apart : ℕ → Runs → Type 0
Apart low [] = Unit {0}
Apart low (e ∷ es) = (low ≤ key_run e) × Within e × Apart (suc (key_run e)) es

-- ---- a state's runs

inner_join : (a b : List Cell) → Inner a → Inner b → Inner (a ++ b)
inner_join [] b f g = g
inner_join (c ∷ a) b f g = (f.0, inner_join a b f.1 g)

mutual
  unfolding run_column SortedColumn key_run flatten

  inner_column : (c : ColumnType) (k : ℕ) → k ≤ 65535 → SortedColumn c → Inner (run_column k c)
  inner_column (Single d n) k h s = (omega (arith, column_key k (Single d n)), tt)
  inner_column (Record cs) k h s = (omega (arith, column_key k (Record cs)), inner_columns cs 0 s)

  pub inner_columns : (cs : Columns) (low : ℕ) → SortedColumns cs low → Inner (flatten (column_runs cs))
  inner_columns end low s = tt
  inner_columns (entry k c cs) low s = inner_join (run_column k c) (flatten (column_runs cs)) (inner_column c k s.1 s.2) (inner_columns cs (suc k) s.3)

register_within : (key : ℕ) (v : RegDataType) → GoodRegister v → Within (run_register key v)
unfolding run_register run_column SortedColumn
register_within key (Column (Single d n)) good = tt
register_within key (Column (Record cs)) good = inner_columns cs 0 good.sorted
register_within key (Int i) good = tt

cursor-within : (key : ℕ) (v : CursorDataType) → GoodCursor v → Within (run_cursor key v)
unfolding run_cursor
cursor-within key (Normal row) good = tt
cursor-within key (Pseudo i) good = tt

table-within : (key : ℕ) (t : TableDataType) → GoodTable t → Within (run_table key t)
unfolding run_table
table-within key t good = inner_columns t.cols 0 good.sorted

apart_from : (low high : ℕ) (es : Runs) → low ≤ high → Apart high es → Apart low es
apart_from low high [] h s = tt
apart_from low high (e ∷ es) h s = (omega (arith, s.0), s.1, s.2)

-- a class's map, with what comes behind the class
apart-map : {A : Type 0} (run : ℕ → A → List Cell) → ((key : ℕ) (v : A) → key_run (run key v) ≡ key) → (P : A → Type 0) → ((key : ℕ) (v : A) → P v → Within (run key v)) → (class : ℕ) (rest : Runs) → Apart (class_key class 65536) rest
    → (low : ℕ) (es : List (Entry A)) → low ≤ 65536 → Rising (λ k v. (k ≤ 65535) × P v) low es → Apart (class_key class low) (run_map run class es ++ rest)
unfolding run_map
apart-map run keyed P within class rest behind low [] h s = apart_from (class_key class low) (class_key class 65536) rest (omega arith) behind
apart-map run keyed P within class rest behind low (e ∷ es) h s =
    let k = keyed (class_key class e.key) e.value in
    (omega (arith, k, s.0), within (class_key class e.key) e.value s.1.1, apart_from (suc (key_run (run (class_key class e.key) e.value))) (class_key class (suc e.key)) (run_map run class es ++ rest) (omega (arith, k)) (apart-map run keyed P within class rest behind (suc e.key) es (omega (arith, s.1.0)) s.2))

state_apart : (limit : ℕ) (m : MemoryState) → Good limit m → Apart 65536 (runs_of m)
unfolding runs_of
state_apart limit m good =
    apart-map run_register register_key GoodRegister register_within 0 (run_map run_cursor 1 m.p ++ run_map run_table 2 m.t)
    (apart-map run_cursor cursor-key GoodCursor cursor-within 1 (run_map run_table 2 m.t)
    (subst (Apart 196608) (append-nil (run_map run_table 2 m.t)) (apart-map run_table table-key GoodTable table-within 2 [] tt 0 m.t (omega arith) good.tables))
    0 m.p (omega arith) good.cursors)
    0 m.r (omega arith) good.registers

-- ---- the cells

pub inner_at : (cs : List Cell) (n at p : ℕ) → Inner (span cs at n) → at ≤ p → p < at + n → key_of (get_or cs p blank) < 65536
unfolding span
inner_at cs zero at p s from to = absurd (omega arith)
inner_at cs (suc n) at p s from to = go (ℕ_discrete p at) (inner_at cs n (at + 1) p s.1)
  where
    go : Dec (p ≡ at) → (at + 1 ≤ p → p < at + 1 + n → key_of (get_or cs p blank) < 65536) → key_of (get_or cs p blank) < 65536
    go (yes e) ih = subst (λ q. key_of (get_or cs q blank) < 65536) (sym e) s.0
    go (no n) ih = ih (omega (arith, n)) (omega arith)

-- the first cell of a run, and the others
pub first_key : (cs : List Cell) (at z : ℕ) → 1 ≤ z → key_run (span cs at z) ≡ key_of (get_or cs at blank)
first_key cs at zero h = absurd (omega arith)
first_key cs at (suc z) h = unfold key_run span in refl

other_key : (cs : List Cell) (at p z : ℕ) → 1 ≤ z → Within (span cs at z) → at < p → p < at + z → key_of (get_or cs p blank) < 65536
other_key cs at p zero h s lo hi = absurd (omega arith)
other_key cs at p (suc z) h s lo hi = inner_at cs z (at + 1) p (unfold span in s) (omega arith) (omega arith)

-- the cell at p, of the entries from `at` on, begins one
record Begins (cs : List Cell) (d key n at low p : ℕ) : Type 0 where
  from : low ≤ key
  here : (seek_place cs d key n at).at ≡ p
  present : seek_found cs d key n at ≡ true

module _ (cs : List Cell) (d p : ℕ) (outer : 65536 ≤ key_of (get_or cs p blank)) where
  abbrev key : ℕ
  key = key_of (get_or cs p blank)

  begins : (n at low : ℕ) → Apart low (entries cs d n at) → at ≤ p → p < at + sizes (size cs d) n at → Begins cs d key n at low p
  unfolding entries sizes seek_place
  begins zero at low s from to = absurd (omega arith)
  begins (suc n) at low s from to = go (size cs d at) refl (size-pos cs d at) s (begins n (at + size cs d at) (suc (key_run (span cs at (size cs d at)))))
    where
      go : (z : ℕ) → size cs d at ≡ z → 1 ≤ z → (low ≤ key_run (span cs at z)) × Within (span cs at z) × Apart (suc (key_run (span cs at z))) (entries cs d n (at + z))
          → (Apart (suc (key_run (span cs at (size cs d at)))) (entries cs d n (at + size cs d at)) → at + size cs d at ≤ p → p < at + size cs d at + sizes (size cs d) n (at + size cs d at) → Begins cs d key n (at + size cs d at) (suc (key_run (span cs at (size cs d at)))) p)
          → Begins cs d key (suc n) at low p
      go z e pos s ih = by (ℕ_discrete p at) (ltb p (at + z)) refl
        where
          by : Dec (p ≡ at) → (t : Bool) → ltb p (at + z) ≡ t → Begins cs d key (suc n) at low p
          by (yes q) t f =
              let same : key_of (get_or cs at blank) ≡ key = ap (λ x. key_of (get_or cs x blank)) (sym q) in
              let w = seek_here cs d key (suc n) at (get_or cs at blank) (omega arith) refl (omega (arith, same)) in
              record { from = omega (arith, s.0, first_key cs at z pos, same); here = ap (λ x. x.at) (sym w) ∙ sym q; present = ap (has_entry cs key) (sym w) ∙ entry_first cs key n at ∙ eq-eqb (key_of (get_or cs at blank)) key same }
          by (no n) true f = absurd (omega (arith, outer, other_key cs at p z pos s.1 (omega (arith, n)) (ltb-true p (at + z) f)))
          by (no ne) false f =
              let b = ih (subst (λ x. Apart (suc (key_run (span cs at x))) (entries cs d n (at + x))) (sym e) s.2) (omega (arith, e, ltb-false p (at + z) f)) (omega arith) in
              let low : key_of (get_or cs at blank) < key = omega (arith, b.from, first_key cs at (size cs d at) (size-pos cs d at)) in
              let w = seek_past cs d key n at low in
              record { from = omega (arith, s.0, first_key cs at z pos, low); here = ap (λ x. x.at) w ∙ b.here; present = ap (has_entry cs key) w ∙ b.present }

-- what a search for its key finds
pub held_place : {limit bound : ℕ} {cs : List Cell} {base len used : ℕ} {m : MemoryState} → Holds limit bound cs base len used m
    → (p : ℕ) → base ≤ p → p < base + used → 65536 ≤ key_of (get_or cs p blank)
    → ((seek_place cs 9 (key_of (get_or cs p blank)) len base).at ≡ p) × (seek_found cs 9 (key_of (get_or cs p blank)) len base ≡ true)
held_place {limit} {bound} {cs} {base} {len} {used} {m} h p from to outer =
    let b = begins cs 9 p outer len base 65536 (subst (Apart 65536) (sym h.runs) (state_apart limit m h.good)) from (omega (arith, h.takes)) in
    (b.here, b.present)
