-- Which reads of registers one after the other are refused, and what is read otherwise. From the definition alone. Assumes nothing.
use Rattle.state.specs.declared.registers.Registers.{Registers}
use Rattle.refusal.specs.declared.Refusal.TheVariants.{IndexTooLarge}
use Rattle.refusal.specs.Numbers.{number_of}
use Rattle.refusal.specs.declared.Refusal.{Refusal}
use Rattle.std.specs.Prelude.{Ok, Err}
use mathlib.Core.Path.{◌≡◌, refl, sym, ap, ◌∙◌}
use mathlib.Core.Bool.{Bool, true, false}
use mathlib.Core.List.{List, ◌∷◌}
use Prim.Native.Nat.{ℕ, zero, suc, ◌+◌, ◌<◌, ◌≤◌}
use native.Mathlib.Omega.{arith}
use lib.Dec.{leb}
use lib.IntN.{ℤ, pos, negsuc, suc_ℤ}
use borrow.Author.Tests.{le-leb, leb-true}
use Rattle.model.specs.Walk.{Tried, refused, done}
use Rattle.model.specs.IntMap.{get}
use Rattle.model.specs.State.{ColumnType, MemoryState}
use Rattle.model.specs.Access.{◌>>=◌, index_if, index, register_column, read_register, read_columns}
use Rattle.intmap.specs.Get.{index_of, Judges, Index}
use Rattle.intmap.specs.Signed.{int_of}
use Rattle.record_arms.specs.Records.{columns_from, JudgesRange}

-- a register that is read, with those after it
abbrev one : Bool → ℕ → MemoryState → Tried (List ColumnType) → Tried (List ColumnType)
one b k m t = (index_if b k >>= λ i. done (get i m.r)) >>= λ v. t >>= λ cs. done (register_column v ∷ cs)

pub columns-read : (m : MemoryState) (n k : ℕ) → k + n ≤ 65536 → read_columns n (pos k) m ≡ done (columns_from n k m)
unfolding read_columns read_register index columns_from
columns-read m zero k h = refl
columns-read m (suc n) k h =
    ap (λ b. one b k m (read_columns n (pos (suc k)) m)) (le-leb k 65535 (omega arith))
    ∙ ap (λ t. one true k m t) (columns-read m n (suc k) (omega arith))

columns-over : (m : MemoryState) (n k : ℕ) → 0 < n → 65536 < k + n → read_columns n (pos k) m ≡ refused 7
unfolding read_columns read_register index
columns-over m zero k lt h = absurd (omega arith)
columns-over m (suc n) k lt h = go (leb k 65535) refl (columns-over m n (suc k))
  where
    go : (b : Bool) → leb k 65535 ≡ b → (0 < n → 65536 < suc k + n → read_columns n (pos (suc k)) m ≡ refused 7) → one b k m (read_columns n (pos (suc k)) m) ≡ refused 7
    go true e rest = ap (λ t. one true k m t) (rest (omega (arith, leb-true k 65535 e)) (omega arith))
    go false e rest = refl

columns-stop : (m : MemoryState) (n : ℕ) (z : ℤ) (k : ℕ) → (n ≡ 0 → ⊥) → index z ≡ refused k → read_columns n z m ≡ refused k
unfolding read_columns read_register
columns-stop m zero z k some e = absurd (some refl)
columns-stop m (suc n) z k some e = ap (λ t. (t >>= λ i. done (get i m.r)) >>= λ v. read_columns n (suc_ℤ z) m >>= λ cs. done (register_column v ∷ cs)) e

columns-none : (m : MemoryState) (i n : ℕ) → n ≡ 0 → read_columns n (int_of i) m ≡ done (columns_from n 0 m)
unfolding read_columns columns_from
columns-none m i zero h = refl
columns-none m i (suc n) h = absurd (omega arith)

-- an index that is not refused is the number itself
index_pos : (z : ℤ) (k : ℕ) → index z ≡ done k → z ≡ pos k
unfolding index
index_pos (negsuc j) k e = cc
index_pos (pos j) k e = go (leb j 65535) e
  where
    go : (b : Bool) → index_if b j ≡ done k → pos j ≡ pos k
    go true d = cc
    go false d = cc

-- in the words of the code
module _ (i n : ℕ) where
  pub range_none : n ≡ 0 → (r : Registers) → r.first ≡ 0 → r.count ≡ 0 → JudgesRange i n (Ok r)
  range_none h r first count = record { none = λ e. first; says = λ m. columns-none m i n h ∙ ap (λ k. done (columns_from n k m)) (sym first); many = omega (arith, h, count) }

  module _ (some : n ≡ 0 → ⊥) (x : Index) (judges : Judges i x) where
    pub range_bad : (e : Refusal) → x ≡ Err e → JudgesRange i n (Err e)
    range_bad e xe = record { none = λ z. absurd (some z); says = λ m. columns-stop m n (int_of i) (number_of e) some (sym judges.answer ∙ ap index_of xe); many = tt }

    module _ (k : ℕ) (xe : x ≡ Ok k) where
      is : int_of i ≡ pos k
      is = index_pos (int_of i) k (sym judges.answer ∙ ap index_of xe)

      pub range_high : 65536 < k + n → JudgesRange i n (Err IndexTooLarge)
      range_high h = record { none = λ e. absurd (some e); says = λ m. ap (λ z. read_columns n z m) is ∙ columns-over m n k (omega (arith, some)) h; many = tt }

      pub range_within : (r : Registers) → r.first ≡ k → r.count ≡ n → JudgesRange i n (Ok r)
      range_within r first count =
          record {
            none = λ e. absurd (some e);
            says = λ m. ap (λ z. read_columns n z m) is ∙ columns-read m n k (omega (arith, r.within, first, count)) ∙ ap (λ j. done (columns_from n j m)) (sym first);
            many = count;
          }
