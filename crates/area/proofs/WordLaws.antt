-- Laws of specs/Words.antt: how many words there are, and what a store of a word or of a byte does to each. Assumes nothing.
use mathlib.Core.Path.{◌≡◌, refl, sym, ap, ap₂, ◌∙◌}
use mathlib.Core.Logic.{◌⊎◌, inl, inr}
use mathlib.Core.List.{List, [], ◌∷◌, ◌++◌, append_assoc}
use Prim.Native.Nat.{ℕ, zero, suc, ◌+◌, ◌-◌, ◌*◌, ◌/◌, ◌%◌, ◌<◌, ◌≤◌}
use native.Mathlib.Omega.{arith}
use native.Mathlib.Nat.{add-zero, div-div-eq-div-mul}
use native.Mathlib.Decide.{dec_lt}
use lib.ListN.{length, get_or, set, take, drop, replicate, length-set, length-replicate, get_or-replicate, get_or-eq_default}
use lib.Seq.{get_or-set_same, get_or-set_other}
use mir.Syntax.{w64}
use borrow.Rule.Slice.PartMut.{put_mid, Post-is}
use Rattle.std.specs.Int.{to_le_bytes}
use Rattle.std.proofs.lemmas.List.{take-append-drop, take_more_set, drop-set-lt}
use Rattle.area.specs.Words.{tabulate, number, eight, words, with_bytes, WordsNow}

pub length-tabulate : {A : Type 0} (n : ℕ) (f : ℕ → A) → length (tabulate n f) ≡ n
unfolding tabulate
length-tabulate zero f = refl
length-tabulate (suc n) f = ap suc (length-tabulate n (λ k. f (suc k)))

pub get_d_tabulate : {A : Type 0} (n : ℕ) (f : ℕ → A) (i : ℕ) (d : A) → i < n → get_or (tabulate n f) i d ≡ f i
unfolding tabulate
get_d_tabulate zero f i d lt = absurd (omega arith)
get_d_tabulate (suc n) f zero d lt = refl
get_d_tabulate (suc n) f (suc i) d lt = get_d_tabulate n (λ k. f (suc k)) i d (omega arith)

pub tabulate-same : {A : Type 0} (n : ℕ) (f g : ℕ → A) → ((i : ℕ) → i < n → g i ≡ f i) → tabulate n g ≡ tabulate n f
unfolding tabulate
tabulate-same zero f g same = refl
tabulate-same (suc n) f g same = ap₂ ◌∷◌ (same zero (omega arith)) (tabulate-same n (λ k. f (suc k)) (λ k. g (suc k)) (λ i lt. same (suc i) (omega arith)))

-- two that differ at i alone
pub tabulate-set : {A : Type 0} (n : ℕ) (f g : ℕ → A) (i : ℕ) → i < n → ((j : ℕ) → j < n → (j ≡ i → ⊥) → g j ≡ f j) → tabulate n g ≡ set (tabulate n f) i (g i)
unfolding tabulate
tabulate-set zero f g i lt same = absurd (omega arith)
tabulate-set (suc n) f g zero lt same = ap (◌∷◌ (g zero)) (tabulate-same n (λ k. f (suc k)) (λ k. g (suc k)) (λ j l. same (suc j) (omega arith) (λ e. omega arith)))
tabulate-set (suc n) f g (suc i) lt same =
    ap₂ ◌∷◌ (same zero (omega arith) (λ e. omega arith)) (tabulate-set n (λ k. f (suc k)) (λ k. g (suc k)) i (omega arith) (λ j l ne. same (suc j) (omega arith) (λ e. ne (omega arith))))

from : List ℕ → ℕ → ℕ → ℕ
from xs p k = get_or xs (p + k) 0

eight-tabulate : (xs : List ℕ) (p : ℕ) → eight xs p ≡ tabulate 8 (from xs p)
unfolding tabulate from
eight-tabulate xs p = rw (add-zero p)

-- where the eight bytes are the same, their number is
pub eight-same : (xs ys : List ℕ) (p : ℕ) → ((k : ℕ) → k < 8 → get_or ys (p + k) 0 ≡ get_or xs (p + k) 0) → number (eight ys p) ≡ number (eight xs p)
unfolding from
eight-same xs ys p same = ap number (eight-tabulate ys p ∙ tabulate-same 8 (from xs p) (from ys p) same ∙ sym (eight-tabulate xs p))

pub length-words : (xs : List ℕ) → length (words xs) ≡ length xs / 8
unfolding words
length-words xs = length-tabulate (length xs / 8) (λ i. number (eight xs (i * 8)))

-- the bytes of the word at i lie within
pub word_fits : (xs : List ℕ) (i : ℕ) → i < length (words xs) → i * 8 + 8 ≤ length xs
word_fits xs i lt = omega (arith, length-words xs)

pub words-at : (xs : List ℕ) (i : ℕ) → i < length (words xs) → get_or (words xs) i 0 ≡ number (eight xs (i * 8))
unfolding words
words-at xs i lt = get_d_tabulate (length xs / 8) (λ j. number (eight xs (j * 8))) i 0 (omega (arith, length-words xs))

-- a list of bytes as long has as many words
pub words-kept : (xs ys : List ℕ) → length ys ≡ length xs → length (words ys) ≡ length (words xs)
words-kept xs ys e = omega (arith, length-words xs, length-words ys)

-- a store of one byte changes the word that it lies in alone
pub words_byte : (xs : List ℕ) (i v j : ℕ) → (j ≡ i / 8 → ⊥) → get_or (words (set xs i v)) j 0 ≡ get_or (words xs) j 0
words_byte xs i v j ne = go (dec_lt j (length (words xs)))
  where
    len : length (words (set xs i v)) ≡ length (words xs)
    len = words-kept xs (set xs i v) (length-set xs i v)

    go : Dec (j < length (words xs)) → get_or (words (set xs i v)) j 0 ≡ get_or (words xs) j 0
    go (yes lt) =
        words-at (set xs i v) j (omega (arith, len))
        ∙ eight-same xs (set xs i v) (j * 8) (λ k l. get_or-set_other xs i (j * 8 + k) v 0 (λ e. ne (omega arith)))
        ∙ sym (words-at xs j lt)
    go (no ge) = get_or-eq_default (words (set xs i v)) 0 (omega (arith, len)) ∙ sym (get_or-eq_default (words xs) 0 (omega arith))

-- bytes are told by the number that they make
number_inj :
    (n : ℕ) (f g : ℕ → ℕ) →
    ((k : ℕ) → f k < 256) →
    ((k : ℕ) → g k < 256) →
    number (tabulate n f) ≡ number (tabulate n g) →
    (k : ℕ) →
    k < n →
    f k ≡ g k
unfolding tabulate
number_inj zero f g small less e k lt = absurd (omega arith)
number_inj (suc n) f g small less e zero lt = omega (arith, small zero, less zero)
number_inj (suc n) f g small less e (suc k) lt =
    number_inj n (λ m. f (suc m)) (λ m. g (suc m)) (λ m. small (suc m)) (λ m. less (suc m)) (omega (arith, small zero, less zero)) k (omega arith)

-- two words that are the same have the same bytes
pub bytes_same :
    (xs ys : List ℕ) (i j k : ℕ) →
    ((m : ℕ) → get_or xs m 0 < 256) →
    ((m : ℕ) → get_or ys m 0 < 256) →
    i < length (words xs) →
    j < length (words ys) →
    k < 8 →
    get_or (words xs) i 0 ≡ get_or (words ys) j 0 →
    get_or xs (i * 8 + k) 0 ≡ get_or ys (j * 8 + k) 0
unfolding from
bytes_same xs ys i j k small less li lj lt e =
    number_inj 8 (from xs (i * 8)) (from ys (j * 8)) (λ m. small (i * 8 + m)) (λ m. less (j * 8 + m))
    (ap number (sym (eight-tabulate xs (i * 8))) ∙ sym (words-at xs i li) ∙ e ∙ words-at ys j lj ∙ ap number (eight-tabulate ys (j * 8)))
    k
    lt

-- every byte of a cleared area, and so every word
pub cleared_byte : (n p : ℕ) → ◌≡◌ {A = ℕ} (get_or (replicate n 0) p 0) 0
cleared_byte n p = go (dec_lt p n)
  where
    go : Dec (p < n) → ◌≡◌ {A = ℕ} (get_or (replicate n 0) p 0) 0
    go (yes lt) = get_or-replicate n p 0 0 lt
    go (no ge) = get_or-eq_default (replicate n 0) 0 (omega (arith, length-replicate {A = ℕ} n 0))

pub cleared_word : (n i : ℕ) → get_or (words (replicate n 0)) i 0 ≡ 0
cleared_word n i = go (dec_lt i (length (words (replicate n 0))))
  where
    go : Dec (i < length (words (replicate n 0))) → get_or (words (replicate n 0)) i 0 ≡ 0
    go (yes lt) = words-at (replicate n 0) i lt ∙ simp cleared_byte
    go (no ge) = get_or-eq_default (words (replicate n 0)) 0 (omega arith)

pub length-with_bytes : (xs : List ℕ) (p n v : ℕ) → length (with_bytes xs p n v) ≡ length xs
unfolding with_bytes
length-with_bytes xs p zero v = refl
length-with_bytes xs p (suc n) v = length-with_bytes (set xs p (v % 256)) (p + 1) n (v / 256) ∙ length-set xs p (v % 256)

-- a byte that is not written
with_bytes_other : (xs : List ℕ) (p n v j : ℕ) → ((k : ℕ) → k < n → j ≡ p + k → ⊥) → get_or (with_bytes xs p n v) j 0 ≡ get_or xs j 0
unfolding with_bytes
with_bytes_other xs p zero v j ne = refl
with_bytes_other xs p (suc n) v j ne =
    with_bytes_other (set xs p (v % 256)) (p + 1) n (v / 256) j (λ k lt e. ne (suc k) (omega arith) (omega arith))
    ∙ get_or-set_other xs p j (v % 256) 0 (λ e. ne zero (omega arith) (omega arith))

-- the first number that n bytes do not hold
full : ℕ → ℕ
full zero = 1
full (suc n) = 256 * full n

-- n bytes written make v
with_bytes-number : (xs : List ℕ) (p n v : ℕ) → p + n ≤ length xs → v < full n → number (tabulate n (from (with_bytes xs p n v) p)) ≡ v
unfolding with_bytes tabulate from full
with_bytes-number xs p zero v fits small = omega arith
with_bytes-number xs p (suc n) v fits small =
    let ys : List ℕ = set xs p (v % 256) in
    let zs : List ℕ = with_bytes ys (p + 1) n (v / 256) in
    let first : get_or zs (p + 0) 0 ≡ v % 256 =
    rw (add-zero p) (with_bytes_other ys (p + 1) n (v / 256) p (λ k lt e. omega arith) ∙ get_or-set_same xs p (v % 256) 0 (omega arith)) in
    let others : number (tabulate n (λ k. from zs p (suc k))) ≡ v / 256 =
    ap number (tabulate-same n (from zs (p + 1)) (λ k. from zs p (suc k)) (λ k lt. ap (λ q. get_or zs q 0) (omega arith)))
    ∙ with_bytes-number ys (p + 1) n (v / 256) (omega (arith, length-set xs p (v % 256))) (omega arith) in
    omega arith

-- n bytes of v, the least first
low : ℕ → ℕ → List ℕ
low zero v = []
low (suc n) v = v % 256 ∷ low n (v / 256)

with_bytes_low : (xs : List ℕ) (p n v : ℕ) → p + n ≤ length xs → with_bytes xs p n v ≡ take p xs ++ (low n v ++ drop (p + n) xs)
unfolding with_bytes low
with_bytes_low xs p zero v fits = sym (ap (λ k. take p xs ++ drop k xs) (add-zero p) ∙ take-append-drop p xs)
with_bytes_low xs p (suc n) v fits =
    let b : ℕ = v % 256 in
    let front : take (p + 1) (set xs p b) ≡ take p xs ++ b ∷ [] = take_more_set xs p b (omega arith) in
    let back : drop (p + 1 + n) (set xs p b) ≡ drop (p + suc n) xs = drop-set-lt (p + 1 + n) xs p b (omega arith) ∙ ap (λ k. drop k xs) (omega arith) in
    with_bytes_low (set xs p b) (p + 1) n (v / 256) (omega (arith, length-set xs p b))
    ∙ ap₂ (λ l r. l ++ (low n (v / 256) ++ r)) front back
    ∙ append_assoc (take p xs) (b ∷ []) (low n (v / 256) ++ drop (p + suc n) xs)

-- the eight bytes that `to_le_bytes` gives, put from p on
pub put-bytes : (xs ys : List ℕ) (p v : ℕ) → p + 8 ≤ length xs → ys ≡ to_le_bytes w64 v → put_mid p (p + 8 - p) xs ys ≡ with_bytes xs p 8 v
unfolding low
put-bytes xs ys p v fits e =
    let same : low 8 v ≡ to_le_bytes w64 v = simp div-div-eq-div-mul in
    ap₂ (λ l r. take p xs ++ (l ++ r)) (e ∙ sym same) (Post-is p (p + 8) xs (omega arith)) ∙ sym (with_bytes_low xs p 8 v fits)

-- the eight bytes of v written make v the word there
pub words-set : (xs ys : List ℕ) (i v : ℕ) → i < length (words xs) → v < 18446744073709551616 → ys ≡ with_bytes xs (i * 8) 8 v → WordsNow xs ys i v
unfolding words full from
words-set xs ys i v lt small e =
    let len : length ys ≡ length xs = ap length e ∙ length-with_bytes xs (i * 8) 8 v in
    let read : number (eight ys (i * 8)) ≡ v =
    ap number (ap (λ zs. eight zs (i * 8)) e ∙ eight-tabulate (with_bytes xs (i * 8) 8 v) (i * 8))
    ∙ with_bytes-number xs (i * 8) 8 v (word_fits xs i lt) small in
    record {
      same = words-kept xs ys len;
      bytes = len;
      others = λ j out. ap (λ zs. get_or zs j 0) e ∙ with_bytes_other xs (i * 8) 8 v j (λ k small q. apart j k small q out);
      words =
          ap (λ n. tabulate (n / 8) (λ j. number (eight ys (j * 8)))) len
          ∙ tabulate-set (length xs / 8) (λ j. number (eight xs (j * 8))) (λ j. number (eight ys (j * 8))) i (omega (arith, length-words xs))
          (λ j l ne. eight-same xs ys (j * 8) (λ k small. ap (λ zs. get_or zs (j * 8 + k) 0) e ∙ with_bytes_other xs (i * 8) 8 v (j * 8 + k) (λ m s q. ne (omega arith))))
          ∙ ap (set (words xs) i) read;
    }
  where
    apart : (j k : ℕ) → k < 8 → j ≡ i * 8 + k → (j < i * 8) ⊎ (i * 8 + 8 ≤ j) → ⊥
    apart j k small q (inl lt) = omega arith
    apart j k small q (inr le) = omega arith
