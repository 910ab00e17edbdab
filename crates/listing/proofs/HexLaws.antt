-- Hexadecimal bytes, pair by pair. Assumes nothing.
use mathlib.Core.Path.{◌≡◌, refl, sym, ap, ap₂, ◌∙◌}
use mathlib.Core.Bool.{Bool}
use Rattle.std.specs.Prelude.{Option, None, Some, ◌==◌}
use Rattle.std.specs.Bool.{then_some}
use Rattle.std.specs.Simd.{first_chunks}
use mathlib.Core.List.{List, [], ◌∷◌, ◌++◌, append-nil, append_assoc}
use Prim.Native.Nat.{ℕ, zero, suc, ◌+◌, ◌*◌, ◌-◌, ◌/◌, ◌%◌, ◌≤◌, ◌<◌}
use native.Mathlib.Omega.{arith}
use native.Mathlib.Numerals.{add-one}
use lib.Dec.{leb}
use lib.ListN.{length, get_or, set, take, drop, length-drop}
use lib.Seq.{take-suc-set, drop-drop}
use borrow.Author.Tests.{le-leb, lt-leb}
use Rattle.type_info.specs.Ascii.{within}
use Rattle.model.specs.Reader.{◌then◌, only_if, read_if}
use Rattle.model.specs.Numbers.{is_digit, hex_value_if, hex_value, read_hex}
use Rattle.model.specs.ListingText.{read_p4}
use Rattle.model.proofs.TestLaws.{cases, within-true, within_above}
use Rattle.model.proofs.ReaderLaws.{never, some_same}
use Rattle.text.proofs.NumberLaws.{within_below, within_both}
use Rattle.text.proofs.ReadLaws.{then_then, then_same}

-- one digit, by the two ranges
hex_is : (c : ℕ) {x y : Bool} → is_digit c ≡ x → within 97 102 c ≡ y → hex_value_if x y c ≡ hex_value c
unfolding hex_value
hex_is c {x} {y} e f = ap (λ v. hex_value_if x v c) (sym f) ∙ ap (λ v. hex_value_if v (within 97 102 c) c) (sym e)

module _ (c : ℕ) where
  pub hex_digit_lem : 48 ≤ c → c < 58 → Some (c - 48) ≡ hex_value c
  hex_digit_lem h k = hex_is c (within_both 48 57 c h (omega arith)) refl

  pub hex_letter : 57 < c → 97 ≤ c → c < 103 → Some (c - 97 + 10) ≡ hex_value c
  hex_letter o h k = ap Some (omega arith) ∙ hex_is c (within_above 48 57 c o) (within_both 97 102 c h (omega arith))

  pub hex_low : c < 48 → None ≡ hex_value c
  hex_low h = hex_is c (within_below 48 57 c h) (within_below 97 102 c (omega arith))

  pub hex_between : 57 < c → c < 97 → None ≡ hex_value c
  hex_between o h = hex_is c (within_above 48 57 c o) (within_below 97 102 c h)

  pub hex_high : 102 < c → None ≡ hex_value c
  hex_high o = hex_is c (within_above 48 57 c (omega arith)) (within_above 97 102 c o)

  pub hex_small : {x : ℕ} → Some x ≡ hex_value c → x < 16
  hex_small {x} h =
      cases (is_digit c)
      (λ e. let range = (within-true 48 57 c).0 e in omega (arith, some_same (h ∙ sym (hex_is c e refl))))
      (λ e. cases (within 97 102 c)
      (λ f. let range = (within-true 97 102 c).0 f in omega (arith, some_same (h ∙ sym (hex_is c e f))))
      (λ f. never (sym (h ∙ sym (hex_is c e f)))))

-- what is left of the text, behind the bytes so far
unfoldable pub hex_from : List ℕ → List ℕ → ℕ → Option (List ℕ)
hex_from rest bytes n = read_hex rest then λ more. Some (take n bytes ++ more)

pub hex_start : (t bytes : List ℕ) → hex_from t bytes 0 ≡ read_hex t
unfolding hex_from
hex_start t bytes = same (read_hex t)
  where
    same : (o : Option (List ℕ)) → (o then λ more. Some ([] ++ more)) ≡ o
    same None = refl
    same (Some bs) = refl

-- no pair is left
hex_end : (rest bytes : List ℕ) (n : ℕ) → length rest < 2 → then_some (length rest == 0) (take n bytes) ≡ hex_from rest bytes n
unfolding hex_from read_hex
hex_end [] bytes n e = ap Some (sym (append-nil (take n bytes)))
hex_end (c ∷ []) bytes n e = refl
hex_end (c ∷ d ∷ rest) bytes n e = absurd (omega (arith, e))

pair : (c d : ℕ) (t : List ℕ) {x y : Option ℕ} → x ≡ hex_value c → y ≡ hex_value d → read_hex (c ∷ d ∷ t) ≡ (x then λ u. y then λ v. read_hex t then λ bs. Some ((u * 16 + v) ∷ bs))
unfolding read_hex
pair c d t {x} {y} e f = ap (λ o. o then λ u. hex_value d then λ v. read_hex t then λ bs. Some ((u * 16 + v) ∷ bs)) (sym e) ∙ ap (λ o. x then λ u. o then λ v. read_hex t then λ bs. Some ((u * 16 + v) ∷ bs)) (sym f)

module _ (rest more bytes : List ℕ) (n : ℕ) (h : 2 ≤ length rest) (is : more ≡ drop 2 rest) where
  two_left : rest ≡ get_or rest 0 0 ∷ get_or rest 1 0 ∷ more
  two_left = go rest h ∙ ap (λ m. get_or rest 0 0 ∷ get_or rest 1 0 ∷ m) (sym is)
    where
      go : (xs : List ℕ) → 2 ≤ length xs → xs ≡ get_or xs 0 0 ∷ get_or xs 1 0 ∷ drop 2 xs
      go [] l = absurd (omega arith)
      go (c ∷ []) l = absurd (omega arith)
      go (c ∷ d ∷ xs) l = refl

  from_pair : {x y : Option ℕ} → x ≡ hex_value (get_or rest 0 0) → y ≡ hex_value (get_or rest 1 0) → hex_from rest bytes n ≡ ((x then λ u. y then λ v. read_hex more then λ bs. Some ((u * 16 + v) ∷ bs)) then λ bs. Some (take n bytes ++ bs))
  unfolding hex_from
  from_pair e f = ap (λ o. o then λ bs. Some (take n bytes ++ bs)) (ap read_hex two_left ∙ pair (get_or rest 0 0) (get_or rest 1 0) more e f)

  hex_first : None ≡ hex_value (get_or rest 0 0) → None ≡ hex_from rest bytes n
  hex_first e = sym (from_pair e refl)

  hex_second : {x : ℕ} → Some x ≡ hex_value (get_or rest 0 0) → None ≡ hex_value (get_or rest 1 0) → None ≡ hex_from rest bytes n
  hex_second e f = sym (from_pair e f)

  hex_on : {x y : ℕ} → n < length bytes → Some x ≡ hex_value (get_or rest 0 0) → Some y ≡ hex_value (get_or rest 1 0) → hex_from more (set bytes n (x * 16 + y)) (n + 1) ≡ hex_from rest bytes n
  unfolding hex_from
  hex_on {x} {y} l e f =
      let b = x * 16 + y in
      let longer : take (n + 1) (set bytes n b) ≡ take n bytes ++ (b ∷ []) = rw (add-one n) (take-suc-set bytes n b l) in
      then_same (read_hex more) (λ bs. ap (λ p. Some (p ++ bs)) longer ∙ ap Some (append_assoc (take n bytes) (b ∷ []) bs))
      ∙ sym (from_pair e f ∙ then_then (read_hex more) _ _)

-- the pairs of a text, which are its parts of two bytes
part_at : (k n : ℕ) (t d : List ℕ) → n < k → get_or (first_chunks 2 k t) n d ≡ take 2 (drop (n + n) t)
part_at zero n t d lt = absurd (omega arith)
part_at (suc k) zero t d lt = refl
part_at (suc k) (suc n) t d lt = part_at k n (drop 2 t) d (omega arith) ∙ ap (take 2) (drop-drop (n + n) 2 t ∙ ap (λ m. drop m t) (omega arith))

two_of : (t : List ℕ) → (get_or (take 2 t) 0 0 ≡ get_or t 0 0) × (get_or (take 2 t) 1 0 ≡ get_or t 1 0)
two_of [] = (refl, refl)
two_of (c ∷ []) = (refl, refl)
two_of (c ∷ d ∷ t) = (refl, refl)

module _ (t : List ℕ) (ps : List (List ℕ)) (are : ps ≡ first_chunks 2 (length t / 2) t) (n : ℕ) (lt : n < length t / 2) (d bytes : List ℕ) where
  digits_at : (get_or (get_or ps n d) 0 0 ≡ get_or (drop (n + n) t) 0 0) × (get_or (get_or ps n d) 1 0 ≡ get_or (drop (n + n) t) 1 0)
  digits_at = let e = ap (λ l. get_or l n d) are ∙ part_at (length t / 2) n t d lt in let two = two_of (drop (n + n) t) in
      (ap (λ p. get_or p 0 0) e ∙ two.0, ap (λ p. get_or p 1 0) e ∙ two.1)

  left : 2 ≤ length (drop (n + n) t)
  left = omega (arith, length-drop (n + n) t)

  pub pair_first : None ≡ hex_value (get_or (get_or ps n d) 0 0) → None ≡ hex_from (drop (n + n) t) bytes n
  pair_first e = hex_first (drop (n + n) t) _ bytes n left refl (e ∙ ap hex_value digits_at.0)

  pub pair_second : {x : ℕ} → Some x ≡ hex_value (get_or (get_or ps n d) 0 0) → None ≡ hex_value (get_or (get_or ps n d) 1 0) → None ≡ hex_from (drop (n + n) t) bytes n
  pair_second e f = hex_second (drop (n + n) t) _ bytes n left refl (e ∙ ap hex_value digits_at.0) (f ∙ ap hex_value digits_at.1)

  pub pair_on : {x y : ℕ} → n < length bytes → Some x ≡ hex_value (get_or (get_or ps n d) 0 0) → Some y ≡ hex_value (get_or (get_or ps n d) 1 0) → hex_from (drop (n + 1 + (n + 1)) t) (set bytes n (x * 16 + y)) (n + 1) ≡ hex_from (drop (n + n) t) bytes n
  pair_on l e f =
      let next : drop (n + 1 + (n + 1)) t ≡ drop 2 (drop (n + n) t) = ap (λ m. drop m t) (omega arith) ∙ sym (drop-drop 2 (n + n) t) in
      hex_on (drop (n + n) t) _ bytes n left next l (e ∙ ap hex_value digits_at.0) (f ∙ ap hex_value digits_at.1)

pub pairs_end : (t odd bytes : List ℕ) (n k : ℕ) → n ≡ length t / 2 → k ≡ length t / 2 → length odd ≡ length t % 2 → then_some (length odd == 0) (take k bytes) ≡ hex_from (drop (n + n) t) bytes n
pairs_end t odd bytes n k e f g =
    let same : length odd ≡ length (drop (n + n) t) = omega (arith, length-drop (n + n) t) in
    ap₂ (λ a b. then_some (a == 0) (take b bytes)) same (f ∙ sym e) ∙ hex_end (drop (n + n) t) bytes n (omega (arith, length-drop (n + n) t))

-- two digits a byte
pub hex_length : (t bs : List ℕ) → read_hex t ≡ Some bs → length bs + length bs ≡ length t
unfolding read_hex
hex_length [] bs e = ap (λ x. length x + length x) (sym (some_same e))
hex_length (c ∷ []) bs e = never e
hex_length (c ∷ d ∷ t) bs e = go (hex_value c) (hex_value d) (read_hex t) (hex_length t) e
  where
    go : (x y : Option ℕ) (o : Option (List ℕ)) → ((q : List ℕ) → o ≡ Some q → length q + length q ≡ length t) → (x then λ u. y then λ v. o then λ q. Some ((u * 16 + v) ∷ q)) ≡ Some bs → length bs + length bs ≡ suc (suc (length t))
    go None y o h e = never e
    go (Some u) None o h e = never e
    go (Some u) (Some v) None h e = never e
    go (Some u) (Some v) (Some q) h e = let l : length bs ≡ suc (length q) = ap length (sym (some_same e)) in omega (arith, h q refl)

module _ (t : List ℕ) where
  pub p4_long : 510 < length t → None ≡ read_p4 t
  unfolding read_p4 read_if
  p4_long h = go (read_hex t) (hex_length t)
    where
      go : (o : Option (List ℕ)) → ((q : List ℕ) → o ≡ Some q → length q + length q ≡ length t) → None ≡ (o then λ bs. only_if (leb (length bs) 255) (Some bs))
      go None l = refl
      go (Some q) l = ap (λ b. only_if b (Some q)) (sym (lt-leb (length q) 255 (omega (arith, l q refl))))

  pub p4_short : length t ≤ 510 → {o : Option (List ℕ)} → o ≡ read_hex t → o ≡ read_p4 t
  unfolding read_p4 read_if
  p4_short h {o} e = go o (λ q f. hex_length t q (sym e ∙ f)) ∙ ap (λ x. x then λ bs. only_if (leb (length bs) 255) (Some bs)) e
    where
      go : (o : Option (List ℕ)) → ((q : List ℕ) → o ≡ Some q → length q + length q ≡ length t) → o ≡ (o then λ bs. only_if (leb (length bs) 255) (Some bs))
      go None l = refl
      go (Some q) l = ap (λ b. only_if b (Some q)) (sym (le-leb (length q) 255 (omega (arith, l q refl))))
