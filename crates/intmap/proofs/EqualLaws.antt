-- Columns that compare the same have the same cells, and the other way round; so with two maps. Assumes nothing.
use mathlib.Core.Path.{◌≡◌, refl, sym, ap, ◌∙◌}
use mathlib.Core.List.{List, ◌∷◌}
use mathlib.Core.Bool.{Bool, true, false, false≢true}
use Prim.Native.Nat.{ℕ, zero, suc, ◌+◌, ◌-◌, ◌<◌, ◌≤◌}
use native.Mathlib.Omega.{arith}
use native.Mathlib.Decide.{dec_lt}
use lib.ListN.{length, get_or}
use lib.Dec.{eqb}
use borrow.Author.Tests.{eq-eqb, eqb-true}
use Rattle.std.specs.Bool.{MatchBool}
use Rattle.std.specs.Cmp.Derive.{both_true}
use Rattle.area.specs.Cells.{blank}
use Rattle.area.specs.declared.Cell.{Cell}
use Rattle.intmap.specs.Pack.{tag_of}
use Rattle.intmap.specs.Runs.{size, sizes, whole, same_cell, each_same, inside, eq_column, eq_columns, Agree}
use Rattle.intmap.specs.Entries.{Runs, span, entries}
use Rattle.intmap.specs.Map.{levels, runs_at, IsMap, SameCells, Compares}
use Rattle.intmap.specs.declared.IntMap.{IntMap}
use Rattle.intmap.proofs.RunLaws.{size-pos, and_left, and_right, same-cell}
use Rattle.intmap.proofs.SameCells.{agree_part, agree_first, agree_head, size_same}
use Rattle.intmap.proofs.EntryLaws.{entries-same, entries-count}

cells-sound : (x y : Cell) → same_cell x y ≡ true → x ≡ y
cells-sound x y h = same-cell x y (eqb-true _ _ (and_left (eqb x.head y.head) _ h)) (eqb-true _ _ (and_right (eqb x.head y.head) _ h))

cells_same : (x y : Cell) → x ≡ y → same_cell x y ≡ true
cells_same x y e = rw (eq-eqb x.head y.head (ap (λ (c : Cell). c.head) e), eq-eqb x.payload y.payload (ap (λ (c : Cell). c.payload) e))

cons_one : (x y : Cell) (a b : List Cell) → x ∷ a ≡ y ∷ b → x ≡ y
cons_one x y a b e = cc

cons_two : (x y : Cell) (a b : List Cell) → x ∷ a ≡ y ∷ b → a ≡ b
cons_two x y a b e = cc

run-one : (x y : List Cell) (a b : Runs) → x ∷ a ≡ y ∷ b → x ≡ y
run-one x y a b e = cc

run_two : (x y : List Cell) (a b : Runs) → x ∷ a ≡ y ∷ b → a ≡ b
run_two x y a b e = cc

module _ (cs : List Cell) where
  agree_join : (a b n m : ℕ) → Agree cs a cs b n → Agree cs (a + n) cs (b + n) m → Agree cs a cs b (n + m)
  agree_join a b n m f g j lt = go (dec_lt j n)
    where
      go : Dec (j < n) → get_or cs (b + j) blank ≡ get_or cs (a + j) blank
      go (yes h) = f j h
      go (no h) =
          let x : b + n + (j - n) ≡ b + j = omega arith in
          let y : a + n + (j - n) ≡ a + j = omega arith in
          rw (x, y) at (g (j - n) (omega arith))

  agree_one : (a b : ℕ) → get_or cs a blank ≡ get_or cs b blank → Agree cs a cs b 1
  agree_one a b e j lt =
      let z : j ≡ 0 = omega arith in
      let x : b + j ≡ b = omega arith in
      let y : a + j ≡ a = omega arith in
      rw (x, y) (sym e)

  module _ (d : ℕ) (one : (a b : ℕ) → eq_column cs d a b ≡ true → Agree cs a cs b (size cs d a)) where
    each_agree : (n a b : ℕ) → each_same (eq_column cs d) (size cs d) n a b ≡ true → Agree cs a cs b (sizes (size cs d) n a)
    unfolding each_same sizes
    each_agree zero a b h j lt = absurd (omega arith)
    each_agree (suc n) a b h j lt =
        let f = one a b (and_left (eq_column cs d a b) _ h) in
        let z : size cs d b ≡ size cs d a = size_same cs cs d a b f in
        let g : each_same (eq_column cs d) (size cs d) n (a + size cs d a) (b + size cs d a) ≡ true = rw z at (and_right (eq_column cs d a b) _ h) in
        agree_join a b (size cs d a) (sizes (size cs d) n (a + size cs d a)) f (each_agree n (a + size cs d a) (b + size cs d a) g) j lt

    inside_agree : (t : Bool) (n a b : ℕ) → get_or cs a blank ≡ get_or cs b blank → inside t (each_same (eq_column cs d) (size cs d) n (a + 1) (b + 1)) ≡ true → Agree cs a cs b (whole (size cs d) t n a)
    unfolding inside whole
    inside_agree true n a b e h = agree_join a b 1 (sizes (size cs d) n (a + 1)) (agree_one a b e) (each_agree n (a + 1) (b + 1) h)
    inside_agree false n a b e h = agree_one a b e

  pub eq_agree : (d a b : ℕ) → eq_column cs d a b ≡ true → Agree cs a cs b (size cs d a)
  unfolding eq_column size
  eq_agree zero a b h = agree_one a b (cells-sound _ _ h)
  eq_agree (suc d) a b h =
      inside_agree d (eq_agree d) (eqb (tag_of (get_or cs a blank)) 2) (get_or cs a blank).payload a b (cells-sound _ _ (and_left (same_cell (get_or cs a blank) (get_or cs b blank)) _ h)) (and_right (same_cell (get_or cs a blank) (get_or cs b blank)) _ h)

  module _ (d : ℕ) (one : (a b : ℕ) → Agree cs a cs b (size cs d a) → eq_column cs d a b ≡ true) where
    agree_each : (n a b : ℕ) → Agree cs a cs b (sizes (size cs d) n a) → each_same (eq_column cs d) (size cs d) n a b ≡ true
    unfolding each_same sizes
    agree_each zero a b f = refl
    agree_each (suc n) a b f =
        let s = size cs d a in
        let t = sizes (size cs d) n (a + s) in
        let g : Agree cs a cs b s = agree_first cs cs a b (s + t) s (omega arith) f in
        let z : size cs d b ≡ s = size_same cs cs d a b g in
        both_true (one a b g) (rw z (agree_each n (a + s) (b + s) (agree_part cs cs a b (s + t) s t (omega arith) f)))

    agree_inside : (t : Bool) (n a b : ℕ) → Agree cs a cs b (whole (size cs d) t n a) → inside t (each_same (eq_column cs d) (size cs d) n (a + 1) (b + 1)) ≡ true
    unfolding inside whole
    agree_inside true n a b f = agree_each n (a + 1) (b + 1) (agree_part cs cs a b (1 + sizes (size cs d) n (a + 1)) 1 (sizes (size cs d) n (a + 1)) (omega arith) f)
    agree_inside false n a b f = refl

  pub agree_eq : (d a b : ℕ) → Agree cs a cs b (size cs d a) → eq_column cs d a b ≡ true
  unfolding eq_column size
  agree_eq zero a b f = cells_same _ _ (sym (agree_head cs cs a b 1 (omega arith) f))
  agree_eq (suc d) a b f =
      both_true (cells_same _ _ (sym (agree_head cs cs a b (size cs (suc d) a) (size-pos cs (suc d) a) f)))
      (agree_inside d (agree_eq d) (eqb (tag_of (get_or cs a blank)) 2) (get_or cs a blank).payload a b f)

  -- of lists of runs
  pub eqs_entries : (d n a b : ℕ) → eq_columns cs d n a b ≡ true → entries cs d n a ≡ entries cs d n b
  unfolding eq_columns
  eqs_entries d n a b h = sym (entries-same cs cs d n a b (each_agree d (eq_agree d) n a b h))

  span_agree : (n m a b : ℕ) → span cs a n ≡ span cs b m → Agree cs a cs b n
  unfolding span
  span_agree zero m a b e j lt = absurd (omega arith)
  span_agree (suc n) zero a b e j lt = absurd (omega (arith, ap length e))
  span_agree (suc n) (suc m) a b e j lt =
      let h : get_or cs a blank ≡ get_or cs b blank = cons_one _ _ _ _ e in
      let x : suc n ≡ 1 + n = omega arith in
      agree_join a b 1 n (agree_one a b h) (span_agree n m (a + 1) (b + 1) (cons_two _ _ _ _ e)) j (omega arith)

  pub entries_eqs : (d n a b : ℕ) → entries cs d n a ≡ entries cs d n b → eq_columns cs d n a b ≡ true
  unfolding eq_columns each_same entries
  entries_eqs d zero a b e = refl
  entries_eqs d (suc n) a b e =
      both_true (agree_eq d a b (span_agree (size cs d a) (size cs d b) a b (run-one _ _ _ _ e))) (entries_eqs d n (a + size cs d a) (b + size cs d b) (run_two _ _ _ _ e))

-- ---- cells, whatever they stand for

pub cells_all : (cs : List Cell) (a b n : ℕ) (r : Bool) → MatchBool r ((k : ℕ) → k < n → get_or cs (a + k) blank ≡ get_or cs (b + k) blank) ((k : ℕ) × (k < n) × (get_or cs (a + k) blank ≡ get_or cs (b + k) blank → ⊥)) → SameCells cs a b n r
cells_all cs a b n true h = record { yes = λ _ j lt. sym (h j lt); no = λ e. absurd (false≢true (sym e)) }
cells_all cs a b n false h = record { yes = λ e. absurd (false≢true e); no = λ _ agree. h.2 (sym (agree h.0 h.1)) }

-- cells that are the same are so up to any fewer
pub cells_fewer : {cs : List Cell} {a b n k : ℕ} → n ≤ k → SameCells cs a b k true → SameCells cs a b n true
cells_fewer le same = record { yes = λ _ j lt. same.yes refl j (omega (arith, le, lt)); no = λ e. absurd (false≢true (sym e)) }

-- ---- two maps
module _ (cs : List Cell) (a b : IntMap) where
  pub other_len : (a.len ≡ b.len → ⊥) → Compares cs a b false
  other_len ne =
      record {
        sound = λ e. absurd (false≢true e);
        complete = λ e. absurd (ne (sym (entries-count cs levels a.len a.base) ∙ ap length e ∙ entries-count cs levels b.len b.base));
      }

  pub same_len : (r : Bool) → a.len ≡ b.len → r ≡ eq_columns cs levels a.len a.base b.base → Compares cs a b r
  same_len r n e =
      let other : runs_at cs b ≡ entries cs levels a.len b.base = ap (λ (k : ℕ). entries cs levels k b.base) (sym n) in
      record {
        sound = λ t. eqs_entries cs levels a.len a.base b.base (sym e ∙ t) ∙ sym other;
        complete = λ t. e ∙ entries_eqs cs levels a.len a.base b.base (t ∙ other);
      }

  -- the same cells are the same entries
  pub same_entries : a.len ≡ b.len → IsMap cs a → {r : Bool} → SameCells cs a.base b.base a.used r → r ≡ true → Compares cs a b true
  same_entries n is same e =
      record {
        sound = λ _. sym (ap (λ (k : ℕ). entries cs levels k b.base) (sym n) ∙ entries-same cs cs levels a.len a.base b.base (λ j lt. same.yes e j (omega (arith, lt, is.used))));
        complete = λ _. refl;
      }
