-- Equal runs are of equal values: a run is told from what follows it, first of columns, then of registers, cursors and tables; the maps of a
-- state are told apart by their keys, so that states with equal runs have equal maps. Assumes nothing.
use mathlib.Core.Path.{◌≡◌, refl, sym, ap, ap₂, subst, ◌∙◌}
use mathlib.Core.List.{List, [], ◌∷◌, ◌++◌, flatten, append_assoc}
use Prim.Native.Nat.{ℕ, suc, ◌≤◌}
use native.Mathlib.Nat.{le_refl}
use native.Mathlib.Omega.{arith}
use Rattle.model.specs.IntMap.{Entry, Rising}
use Rattle.model.specs.State.{ColumnType, Single, Record, Columns, end, entry, Column, Int, Normal, Pseudo, MemoryState, datatype_code}
use Rattle.model.specs.Good.{Good}
use Rattle.model.proofs.Same.{code-injective}
use Rattle.area.specs.declared.Cell.{Cell}
use Rattle.intmap.specs.Pack.{class_key}
use Rattle.intmap.specs.Entries.{key_run, Runs}
use Rattle.intmap.specs.Signed.{offset}
use Rattle.encoding.specs.Encode.{nullable_code, count, run_column, run_columns, run_register, run_cursor, run_table, run_map, runs_of}
use Rattle.encoding.specs.Holds.{SmallRegister, SmallCursor, SmallNumbers}
use Rattle.intmap.proofs.SignedLaws.{word-injective}
use Rattle.intmap.proofs.PackLaws.{head_injective}
use Rattle.encoding.proofs.Packing.{code_small, nullable_small, nullable_injective}
use Rattle.intmap.proofs.SwapLaws.{From, Under}
use Rattle.encoding.proofs.StateRuns.{registers_under, cursors_under, cursors_from, tables_from}

-- the first cells of two runs that are equal, and what follows them
pub first-is : (c d : Cell) (a b : List Cell) → c ∷ a ≡ d ∷ b → (c.head ≡ d.head) × (c.payload ≡ d.payload) × (a ≡ b)
first-is c d a b e =
    let first : c ≡ d = cc in
    let rest : a ≡ b = cc in
    (ap (λ x. x.head) first, ap (λ x. x.payload) first, rest)

mutual
  unfolding run_column flatten

  pub column_told : (c d : ColumnType) (k j : ℕ) (a b : List Cell) → run_column k c ++ a ≡ run_column j d ++ b → (k ≡ j) × (c ≡ d) × (a ≡ b)
  column_told (Single x m) (Single y n) k j a b e =
      let t = first-is _ _ a b e in
      let h = head_injective 1 (datatype_code x) (nullable_code m) k (omega arith) (code_small x) (nullable_small m) 1 (datatype_code y) (nullable_code n) j (omega arith) (code_small y) (nullable_small n) t.0 in
      (h.3, ap₂ Single (code-injective x y h.1) (nullable_injective m n h.2), t.2)
  column_told (Single x m) (Record y) k j a b e = absurd (omega (arith, (first-is _ _ a (run_columns y ++ b) e).0))
  column_told (Record x) (Single y n) k j a b e = absurd (omega (arith, (first-is _ _ (run_columns x ++ a) b e).0))
  column_told (Record x) (Record y) k j a b e =
      let t = first-is _ _ (run_columns x ++ a) (run_columns y ++ b) e in
      let r = columns_told x y a b t.1 t.2 in
      (omega (arith, t.0), ap Record r.0, r.1)

  pub columns_told : (x y : Columns) (a b : List Cell) → count x ≡ count y → run_columns x ++ a ≡ run_columns y ++ b → (x ≡ y) × (a ≡ b)
  columns_told end end a b n e = (refl, e)
  columns_told end (entry j d ds) a b n e = absurd (omega arith)
  columns_told (entry k c cs) end a b n e = absurd (omega arith)
  columns_told (entry k c cs) (entry j d ds) a b n e =
      let f : run_column k c ++ (run_columns cs ++ a) ≡ run_column j d ++ (run_columns ds ++ b) = sym (append_assoc (run_column k c) (run_columns cs) a) ∙ e ∙ append_assoc (run_column j d) (run_columns ds) b in
      let r = column_told c d k j (run_columns cs ++ a) (run_columns ds ++ b) f in
      let s = columns_told cs ds a b (omega arith) r.2 in
      let p = r.0 in
      let q = r.1 in
      let o = s.0 in
      (λ i. entry (p i) (q i) (o i), s.1)

-- values of which P holds are told by their runs
abbrev pub Tells : {A : Type 0} → (ℕ → A → List Cell) → (A → Type 0) → Type 0
Tells {A} run P = (v u : A) (k j : ℕ) (a b : List Cell) → P v → P u → run k v ++ a ≡ run j u ++ b → (k ≡ j) × (v ≡ u) × (a ≡ b)

module _ (bound : ℕ) (h : bound ≤ offset) where
  pub register_told : Tells run_register (SmallRegister bound)
  unfolding run_register run_column
  register_told (Column c) (Column d) k j a b p q e = let r = column_told c d k j a b e in (r.0, ap Column r.1, r.2)
  register_told (Column (Single x m)) (Int i) k j a b p q e = absurd (omega (arith, (first-is _ _ a b e).0))
  register_told (Column (Record x)) (Int i) k j a b p q e = absurd (omega (arith, (first-is _ _ (run_columns x ++ a) b e).0))
  register_told (Int i) (Column (Single x m)) k j a b p q e = absurd (omega (arith, (first-is _ _ a b e).0))
  register_told (Int i) (Column (Record x)) k j a b p q e = absurd (omega (arith, (first-is _ _ a (run_columns x ++ b) e).0))
  register_told (Int i) (Int l) k j a b p q e =
      let t = first-is _ _ a b e in
      (omega (arith, t.0), ap Int (word-injective bound i l h p q t.1), t.2)

  pub cursor_told : Tells run_cursor (SmallCursor bound)
  unfolding run_cursor
  cursor_told (Normal x) (Normal y) k j a b p q e = let t = first-is _ _ a b e in (omega (arith, t.0), ap Normal t.1, t.2)
  cursor_told (Normal x) (Pseudo i) k j a b p q e = absurd (omega (arith, (first-is _ _ a b e).0))
  cursor_told (Pseudo i) (Normal y) k j a b p q e = absurd (omega (arith, (first-is _ _ a b e).0))
  cursor_told (Pseudo i) (Pseudo l) k j a b p q e =
      let t = first-is _ _ a b e in
      (omega (arith, t.0), ap Pseudo (word-injective bound i l h p q t.1), t.2)

pub table-told : Tells run_table (λ t. Unit {0})
unfolding run_table
table-told v u k j a b p q e =
    let t = first-is _ _ (run_columns v.cols ++ a) (run_columns u.cols ++ b) e in
    let h = head_injective 2 0 (nullable_code v.is_empty) k (omega arith) (omega arith) (nullable_small v.is_empty) 2 0 (nullable_code u.is_empty) j (omega arith) (omega arith) (nullable_small u.is_empty) t.0 in
    let r = columns_told v.cols u.cols a b t.1 t.2 in
    let x = r.0 in
    let y = nullable_injective v.is_empty u.is_empty h.2 in
    (h.3, λ i. record { cols = x i; is_empty = y i }, r.1)

pub injective : {A : Type 0} (run : ℕ → A → List Cell) (P : A → Type 0) → Tells run P → (v u : A) (k j : ℕ) → P v → P u → run k v ≡ run j u → (k ≡ j) × (v ≡ u)
injective run P tells v u k j p q e = let t = tells v u k j [] [] p q (ap (λ l. l ++ []) e) in (t.0, t.1)

-- ---- a map

abbrev NoRun : Runs → Type 0
NoRun [] = Unit {0}
NoRun (r ∷ rs) = ⊥

runs-told : (r s : List Cell) (a b : Runs) → r ∷ a ≡ s ∷ b → (r ≡ s) × (a ≡ b)
runs-told r s a b e =
    let x : r ≡ s = cc in
    let y : a ≡ b = cc in
    (x, y)

module _ {A : Type 0} (run : ℕ → A → List Cell) (P : A → Type 0) (tells : Tells run P) (R : ℕ → A → Type 0) (each : (k : ℕ) (v : A) → R k v → P v) (class : ℕ) where
  pub map_told : (es ds : List (Entry A)) (low low' : ℕ) → Rising R low es → Rising R low' ds → run_map run class es ≡ run_map run class ds → es ≡ ds
  unfolding run_map
  map_told [] [] low low' p q e = refl
  map_told [] (y ∷ ys) low low' p q e = absurd (subst NoRun e tt)
  map_told (x ∷ xs) [] low low' p q e = absurd (subst NoRun (sym e) tt)
  map_told (x ∷ xs) (y ∷ ys) low low' p q e =
      let s = runs-told _ _ (run_map run class xs) (run_map run class ys) e in
      let t = injective run P tells x.value y.value (class_key class x.key) (class_key class y.key) (each x.key x.value p.1) (each y.key y.value q.1) s.0 in
      let k : x.key ≡ y.key = omega (arith, t.0) in
      let v = t.1 in
      let rest = map_told xs ys (suc x.key) (suc y.key) p.2 q.2 s.1 in
      λ i. record { key = k i; value = v i } ∷ rest i

-- ---- a state: its maps are told apart by their keys

cut : (high : ℕ) (a b c d : Runs) → Under high a → Under high b → From high c → From high d → a ++ c ≡ b ++ d → (a ≡ b) × (c ≡ d)
cut high [] [] c d u v f g e = (refl, e)
cut high [] (s ∷ b) [] d u v f g e = absurd (subst NoRun e tt)
cut high [] (s ∷ b) (r ∷ c) d u v f g e = absurd (omega (arith, v.0, ap key_run (runs-told r s c (b ++ d) e).0))
cut high (r ∷ a) [] c [] u v f g e = absurd (subst NoRun (sym e) tt)
cut high (r ∷ a) [] c (s ∷ d) u v f g e = absurd (omega (arith, u.0, ap key_run (runs-told r s (a ++ c) d e).0))
cut high (r ∷ a) (s ∷ b) c d u v f g e =
    let t = runs-told r s (a ++ c) (b ++ d) e in
    let rest = cut high a b c d u.1 v.1 f g t.1 in
    (ap₂ (λ x y. x ∷ y) t.0 rest.0, rest.1)

-- the maps of two states are equal
pub record SameMaps (m n : MemoryState) : Type 0 where
  pub registers : m.r ≡ n.r
  pub cursors : m.p ≡ n.p
  pub tables : m.t ≡ n.t

pub state_told : (limit bound : ℕ) (m n : MemoryState) → Good limit m → Good limit n → SmallNumbers bound m → SmallNumbers bound n → runs_of m ≡ runs_of n → SameMaps m n
unfolding runs_of
state_told limit bound m n good good' small small' e =
    let h : bound ≤ offset = omega arith in
    let one = le_refl 131072 in
    let two = le_refl 196608 in
    let a = cut 131072 _ _ _ _ (registers_under limit m good 131072 one) (registers_under limit n good' 131072 one) (cursors_from limit m good 131072 one) (cursors_from limit n good' 131072 one) e in
    let b = cut 196608 _ _ _ _ (cursors_under limit m good 196608 two) (cursors_under limit n good' 196608 two) (tables_from limit m good 196608 two) (tables_from limit n good' 196608 two) a.1 in
    record {
      registers = map_told run_register (SmallRegister bound) (register_told bound h) _ (λ k v s. s) 0 m.r n.r 0 0 small.registers small'.registers a.0;
      cursors = map_told run_cursor (SmallCursor bound) (cursor_told bound h) _ (λ k v s. s) 1 m.p n.p 0 0 small.cursors small'.cursors b.0;
      tables = map_told run_table (λ t. Unit {0}) table-told _ (λ k v s. tt) 2 m.t n.t 0 0 good.tables good'.tables b.1;
    }

-- the runs are of the maps alone
pub maps_runs : (m n : MemoryState) → SameMaps m n → runs_of m ≡ runs_of n
unfolding runs_of
maps_runs m n s =
    let r = s.registers in
    let p = s.cursors in
    let t = s.tables in
    λ i. run_map run_register 0 (r i) ++ (run_map run_cursor 1 (p i) ++ run_map run_table 2 (t i))

pub same_state : (m n : MemoryState) → m.program_i ≡ n.program_i → SameMaps m n → m ≡ n
same_state m n e s =
    let r = s.registers in
    let p = s.cursors in
    let t = s.tables in
    λ i. record { program_i = e i; r = r i; p = p i; t = t i }
