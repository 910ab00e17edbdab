-- Keys, lines and values at the front of a text, and at an offset. Assumes nothing.
use mathlib.Core.Path.{◌≡◌, refl, sym, ap, ◌∙◌}
use mathlib.Core.Bool.{Bool, true, false, not, cond, and-eq-true_iff, false≢true}
use Rattle.std.specs.Prelude.{Option, None, Some, ◌==◌, position, option_map}
use Rattle.std.specs.List.{prefix_len}
use mathlib.Core.List.{List, [], ◌∷◌, ◌++◌}
use Prim.Native.Nat.{ℕ, suc, ◌+◌, ◌-◌, ◌≤◌, ◌<◌}
use native.Mathlib.Omega.{arith}
use native.Mathlib.Numerals.{add-one}
use lib.Dec.{eqb, ltb}
use lib.ListN.{length, get_or, take, drop, drop_of_length-le, length-drop}
use lib.Seq.{drop-cons, drop-drop}
use lib.Pointwise.{pointwise}
use borrow.Author.Tests.{eq-eqb, ne_eqb, eqb-true, eqb-false, lt-ltb, le-ltb, ltb-true, ltb-false}
use Rattle.type_info.specs.Ascii.{starts_with}
use Rattle.model.specs.Reader.{◌then◌, only_if, ◌>>=◌}
use Rattle.model.specs.Fields.{take_line, take_key, take_value}
use Rattle.model.proofs.TestLaws.{cases}
use Rattle.text.specs.Reads.{Reads}

-- a line, and what stands behind its LF
abbrev is_lf : ℕ → Bool
is_lf b = b == 10

first_place : (b : ℕ) (t : List ℕ) → position is_lf (b ∷ t) ≡ cond (is_lf b) (Some 0) (option_map suc (position is_lf t))
first_place b t =
    let m = prefix_len (λ x. not (is_lf x)) t in
    cases (is_lf b)
    (λ e. rw (e, lt-ltb 0 (length (b ∷ t)) (omega arith)) refl)
    (λ e. cases (ltb m (length t))
    (λ f. rw (e, lt-ltb (1 + m) (length (b ∷ t)) (omega (arith, ltb-true m (length t) f)), f) (ap Some (omega arith)))
    (λ f. rw (e, le-ltb (1 + m) (length (b ∷ t)) (omega (arith, ltb-false m (length t) f)), f) refl))

-- the line and the rest, by the place of the LF
abbrev pub split : List ℕ → Option ℕ → Option (List ℕ × List ℕ)
split t o = o then λ i. Some (take i t, drop (i + 1) t)

pub line_at : (t : List ℕ) → split t (position is_lf t) ≡ take_line t
unfolding take_line
line_at [] = refl
line_at (b ∷ t) = ap (split (b ∷ t)) (first_place b t) ∙ cases (is_lf b) (λ e. rw (e, take_line)) (λ e. rw (e, take_line) (further (position is_lf t) ∙ ap (λ o. o then λ l. Some (b ∷ l.0, l.1)) (line_at t)))
  where
    further : (o : Option ℕ) → split (b ∷ t) (option_map suc o) ≡ (split t o then λ l. Some (b ∷ l.0, l.1))
    further None = refl
    further (Some i) = rw (add-one, add-one) refl

-- a key
abbrev key_if : Bool → List ℕ → Option (Unit {0} × List ℕ)
key_if test t = only_if test (Some (tt, t))

key_taken : (key t : List ℕ) → take_key key t ≡ key_if (pointwise eqb (take (length key) t) key) (drop (length key) t)
unfolding take_key
key_taken [] t = refl
key_taken (k ∷ key) [] = refl
key_taken (k ∷ key) (b ∷ t) =
    cases (eqb k b)
    (λ e. let same : eqb b k ≡ true = eq-eqb b k (sym (eqb-true k b e)) in rw (e, same) (key_taken key t))
    (λ e. let other : eqb b k ≡ false = ne_eqb b k (λ d. eqb-false k b e (sym d)) in rw (e, other))

module _ (key t : List ℕ) where
  abbrev and_line : Option (Unit {0} × List ℕ) → Option (List ℕ × List ℕ)
  and_line o = o then λ x. take_line x.1

  value_is : (test : Bool) → pointwise eqb (take (length key) t) key ≡ test → take_value key t ≡ and_line (key_if test (drop (length key) t))
  unfolding take_value ◌>>=◌
  value_is test e = ap and_line (key_taken key t ∙ ap (λ b. key_if b (drop (length key) t)) e)

  pub no_key : pointwise eqb (take (length key) t) key ≡ false → Reads (take_value key) t t None
  no_key e = record { is = sym (value_is false e); shorter = tt }

  module _ (here : pointwise eqb (take (length key) t) key ≡ true) {line : List ℕ} (is : line ≡ drop (length key) t) {o : Option ℕ} (end : o ≡ position is_lf line) where
    split_is : split line o ≡ take_value key t
    split_is = ap (split line) end ∙ line_at line ∙ ap take_line is ∙ sym (value_is true here)

    pub no_line : o ≡ None → Reads (take_value key) t t None
    no_line e = record { is = ap (split line) (sym e) ∙ split_is; shorter = tt }

    pub value_here : {i : ℕ} {rest value : List ℕ} → o ≡ Some i → i < length line → rest ≡ drop (i + 1) line → value ≡ take i line → Reads (take_value key) t rest (Some value)
    value_here {i} {rest} e h r v = record {
      is = ap (λ x. Some (x, rest)) v ∙ ap (λ x. Some (take i line, x)) r ∙ ap (split line) (sym e) ∙ split_is;
      shorter = omega (arith, ap length is, ap length r, length-drop (i + 1) line, length-drop (length key) t);
    }

-- ---- at an offset

-- a key, byte by byte, where too few are left
module _ (t key : List ℕ) (at i : ℕ) where
  pub key_short : i < length key → length t - at ≤ i → false ≡ starts_with (drop (at + i) t) (drop i key)
  unfolding starts_with
  key_short h l = rw (drop-cons key i 0 h, drop_of_length-le t {i = at + i} (omega arith))

-- a line, byte by byte: what stands before i, and the rest of the line
abbrev pub part : List ℕ → ℕ → ℕ → List ℕ
part t from to = take (to - from) (drop from t)

-- a line behind a byte, and behind others
abbrev pub begun : ℕ → Option (List ℕ × List ℕ) → Option (List ℕ × List ℕ)
begun b o = o then λ l. Some (b ∷ l.0, l.1)

abbrev pub behind : List ℕ → Option (List ℕ × List ℕ) → Option (List ℕ × List ℕ)
behind s o = o then λ l. Some (s ++ l.0, l.1)

unfoldable pub line_from : List ℕ → ℕ → ℕ → Option (List ℕ × List ℕ)
line_from t from i = take_line (drop i t) then λ l. Some (part t from i ++ l.0, l.1)

first_byte : (b : ℕ) (t : List ℕ) → (b ≡ 10 → ⊥) → take_line (b ∷ t) ≡ begun b (take_line t)
unfolding take_line
first_byte b t e = rw (ne_eqb b 10 e, take_line)

-- the line goes on with another byte
module _ (t : List ℕ) (from i : ℕ) where
  line_byte : i < length t → (get_or t i 0 ≡ 10 → ⊥) → take_line (drop i t) ≡ begun (get_or t i 0) (take_line (drop (i + 1) t))
  line_byte h e = rw (drop-cons t i 0 h, add-one i) (first_byte (get_or t i 0) (drop (suc i) t) e)

  pub line_past : i < length t → (get_or t i 0 ≡ 10 → ⊥) → line_from t from i ≡ behind (part t from i) (begun (get_or t i 0) (take_line (drop (i + 1) t)))
  unfolding line_from
  line_past h e = ap (behind (part t from i)) (line_byte h e)

-- a key that stands there, in the words of `str`
key_started : (key t : List ℕ) → take_key key t ≡ key_if (starts_with t key) (drop (length key) t)
unfolding take_key starts_with
key_started [] t = refl
key_started (k ∷ key) [] = refl
key_started (k ∷ key) (b ∷ t) =
    cases (eqb k b)
    (λ e. let same : eqb b k ≡ true = eq-eqb b k (sym (eqb-true k b e)) in rw (e, same) (key_started key t))
    (λ e. let other : eqb b k ≡ false = ne_eqb b k (λ d. eqb-false k b e (sym d)) in rw (e, other))

key_fits : (key t : List ℕ) → starts_with t key ≡ true → length key ≤ length t
unfolding starts_with
key_fits [] t e = omega arith
key_fits (k ∷ key) [] e = absurd (false≢true e)
key_fits (k ∷ key) (b ∷ t) e = omega (arith, key_fits key t ((and-eq-true_iff (eqb b k) (starts_with t key)).0 e).1)

-- a key that is longer than what is left
pub key_long : (t key : List ℕ) (at : ℕ) → length t - at < length key → false ≡ starts_with (drop at t) key
key_long t key at h = cases (starts_with (drop at t) key) (λ e. absurd (omega (arith, key_fits key (drop at t) e, length-drop at t))) (λ e. sym e)

-- the value behind a key is the line there
module _ (t key : List ℕ) (at : ℕ) {r : Bool} (is : r ≡ starts_with (drop at t) key) where
  pub value_line : r ≡ true → take_value key (drop at t) ≡ take_line (drop (at + length key) t)
  unfolding take_value ◌>>=◌
  value_line e =
      ap (λ (o : Option (Unit {0} × List ℕ)). o then λ x. take_line x.1)
      (key_started key (drop at t) ∙ ap (λ b. key_if b (drop (length key) (drop at t))) (sym is ∙ e) ∙ ap (key_if true) (drop-drop (length key) at t))
