-- Words in a text, in any letter case: what std's tests say, in the words of specs/Ascii.antt. Assumes nothing.
use Rattle.std.proofs.Common.{◌≡◌, refl, sym, ap, ap₂, subst, ◌∙◌, Bool, true, false, ◌&&◌, List, [], ◌∷◌, map, ℕ, suc, ◌+◌, ◌<◌, ◌≤◌, length, take, drop, arith, Bor, Some, None, get_or, zero, ◌↔◌, IsTrue}
use Rattle.std.specs.Prelude.{Option}
use Rattle.std.specs.Char.{to_ascii_lowercase}
use Rattle.std.specs.Option.{IfSome, option_map}
use Rattle.std.specs.Iterator.Runs.{Run, IsWindowsRun}
use Rattle.std.proofs.lemmas.List.{take-map, drop-map}
use lib.ListN.{length-map, length-take, length-drop}
use mathlib.Core.Bool.{false≢true, and-eq-true_iff, or-true}
use Rattle.std.proofs.lemmas.Option.{none-some}
use Rattle.std.specs.List.{IsSubsliceAt}
use lib.Dec.{eqb}
use borrow.Author.Tests.{eq-eqb, eqb-true}
use Rattle.std.proofs.lemmas.Grind.{common_steps}
use Rattle.type_info.specs.Ascii.{lower_byte, lowercase, equals, starts_with, contains}
use Rattle.type_info.specs.Affinity.{contains_any_case}

-- std's lower case is that of specs/Ascii.antt
lower_same : (b : ℕ) → to_ascii_lowercase b ≡ lower_byte b
unfolding lower_byte
lower_same b = grind (arith, common_steps)

lowercase_same : (s : List ℕ) → map to_ascii_lowercase s ≡ lowercase s
unfolding lowercase
lowercase_same [] = refl
lowercase_same (b ∷ s) = ap₂ (λ x xs. x ∷ xs) (lower_same b) (lowercase_same s)

-- the word stands at k
abbrev pub Stands : List ℕ → List ℕ → ℕ → Type 0
Stands s word k = map to_ascii_lowercase (take (length word) (drop k s)) ≡ map to_ascii_lowercase word

-- a run over the windows of the word's length that misses it at each
module _ {S : Type 0} {steps : S → Option (Bor (List ℕ)) → S → Type 0} (p : Run steps) (s word : List ℕ) where
  pub windows_miss :
      IsWindowsRun p (length word) s →
      p.whole ≡ true →
      ((k : ℕ) → IfSome (p.at k) (λ x. ¬ (map to_ascii_lowercase x.now ≡ map to_ascii_lowercase word))) →
      (k : ℕ) →
      k + length word ≤ length s →
      ¬ (Stands s word k)
  windows_miss w e miss k inside = go (p.at k) refl
    where
      go : (o : Option (Bor (List ℕ))) → p.at k ≡ o → ¬ (Stands s word k)
      go None f stands =
          let at : option_map (λ x. get_or x.now 0 0) (p.at k) ≡ Some (get_or s k 0) = w.3 k 0 (omega (arith, w.1 e)) in
          absurd (none-some _ (ap (option_map (λ x. get_or x.now 0 0)) (sym f) ∙ at))
      go (Some x) f stands =
          let cut : IfSome (Some x) (λ y. (length y.now ≡ length word) × (k + length word ≤ length s) × IsSubsliceAt (length word) s k y.now) =
          subst (λ o. IfSome o (λ y. (length y.now ≡ length word) × (k + length word ≤ length s) × IsSubsliceAt (length word) s k y.now)) f (w.2 k)
          in
          let off : IfSome (Some x) (λ y. ¬ (map to_ascii_lowercase y.now ≡ map to_ascii_lowercase word)) =
          subst (λ o. IfSome o (λ y. ¬ (map to_ascii_lowercase y.now ≡ map to_ascii_lowercase word))) f (miss k)
          in
          off (ap (map to_ascii_lowercase) cut.2.0 ∙ stands)

-- `starts_with` by the text's front
front_starts : (t w : List ℕ) → take (length w) t ≡ w → starts_with t w ≡ true
unfolding starts_with
front_starts t [] e = refl
front_starts [] (b ∷ w) e = absurd (omega (arith, ap length e))
front_starts (a ∷ t) (b ∷ w) e = rw (eq-eqb a b cc) (front_starts t w cc)

starts_front : (t w : List ℕ) → starts_with t w ≡ true → take (length w) t ≡ w
unfolding starts_with
starts_front t [] e = refl
starts_front [] (b ∷ w) e = absurd (false≢true e)
starts_front (a ∷ t) (b ∷ w) e =
    let h = (and-eq-true_iff (eqb a b) (starts_with t w)).0 e in
    ap₂ (λ x xs. x ∷ xs) (eqb-true a b h.0) (starts_front t w h.1)

-- `contains` by the places
contains_at : (t w : List ℕ) (k : ℕ) → starts_with (drop k t) w ≡ true → contains t w ≡ true
unfolding contains
contains_at [] w zero h = h
contains_at [] w (suc k) h = h
contains_at (a ∷ t) w zero h = rw h refl
contains_at (a ∷ t) w (suc k) h = rw (contains_at t w k h) (or-true (starts_with (a ∷ t) w))

contains_nowhere : (t w : List ℕ) → ((k : ℕ) → starts_with (drop k t) w ≡ false) → contains t w ≡ false
unfolding contains
contains_nowhere [] w h = h 0
contains_nowhere (a ∷ t) w h = rw (h 0) (contains_nowhere t w (λ k. h (suc k)))

-- a place where the word stands is one where it starts what is left
module _ (s word : List ℕ) (k : ℕ) where
  front : take (length (lowercase word)) (drop k (lowercase s)) ≡ map to_ascii_lowercase (take (length word) (drop k s))
  front =
      ap₂ take (ap length (sym (lowercase_same word)) ∙ length-map word to_ascii_lowercase) (ap (drop k) (sym (lowercase_same s)) ∙ drop-map to_ascii_lowercase k s)
      ∙ take-map to_ascii_lowercase (length word) (drop k s)

  stands_starts : Stands s word k → starts_with (drop k (lowercase s)) (lowercase word) ≡ true
  stands_starts h = front_starts (drop k (lowercase s)) (lowercase word) (front ∙ h ∙ lowercase_same word)

  starts_stands : starts_with (drop k (lowercase s)) (lowercase word) ≡ true → Stands s word k
  starts_stands h = sym front ∙ starts_front (drop k (lowercase s)) (lowercase word) h ∙ sym (lowercase_same word)

pub found_word :
    (r : Bool) (s word : List ℕ) →
    0 < length word →
    (r ≡ true → (k : ℕ) × (k + length word ≤ length s) × Stands s word k) →
    (r ≡ false → (k : ℕ) → k + length word ≤ length s → ¬ (Stands s word k)) →
    r ≡ contains_any_case s word
unfolding contains_any_case
found_word true s word some hit miss = let h = hit refl in sym (contains_at (lowercase s) (lowercase word) h.0 (stands_starts s word h.0 h.2))
found_word false s word some hit miss = sym (contains_nowhere (lowercase s) (lowercase word) (λ k. go k (starts_with (drop k (lowercase s)) (lowercase word)) refl))
  where
    go : (k : ℕ) (x : Bool) → starts_with (drop k (lowercase s)) (lowercase word) ≡ x → x ≡ false
    go k false e = refl
    go k true e =
        let h = starts_stands s word k e in
        absurd (miss refl k (omega (arith, ap length h, length-map word to_ascii_lowercase, length-map (take (length word) (drop k s)) to_ascii_lowercase, length-take (length word) (drop k s), length-drop k s)) h)

-- std's equality in any letter case
equals_same : (t : List ℕ) → equals t t ≡ true
unfolding equals
equals_same [] = refl
equals_same (b ∷ t) = rw (eq-eqb b b refl) (equals_same t)

pub same_equals : (t w : List ℕ) → equals t w ≡ true → t ≡ w
unfolding equals
same_equals [] [] e = refl
same_equals [] (b ∷ w) e = absurd (false≢true e)
same_equals (a ∷ t) [] e = absurd (false≢true e)
same_equals (a ∷ t) (b ∷ w) e =
    let h = (and-eq-true_iff (eqb a b) (equals t w)).0 e in
    ap₂ (λ x xs. x ∷ xs) (eqb-true a b h.0) (same_equals t w h.1)

pub same_word : (r : Bool) (s word : List ℕ) → (IsTrue r ↔ (map to_ascii_lowercase s ≡ map to_ascii_lowercase word)) → r ≡ equals (lowercase s) (lowercase word)
same_word true s word h =
    let same : lowercase word ≡ lowercase s = sym (lowercase_same word) ∙ sym (h.0 refl) ∙ lowercase_same s in
    sym (subst (λ t. equals t (lowercase word) ≡ true) same (equals_same (lowercase word)))
same_word false s word h = go (equals (lowercase s) (lowercase word)) refl
  where
    go : (x : Bool) → equals (lowercase s) (lowercase word) ≡ x → false ≡ x
    go false e = refl
    go true e = h.1 (lowercase_same s ∙ same_equals (lowercase s) (lowercase word) e ∙ sym (lowercase_same word))

-- a text equals a word of its length where the word starts it
pub equals_starts : (t word : List ℕ) → length t ≡ length word → starts_with t word ≡ equals t word
unfolding starts_with equals
equals_starts [] [] e = refl
equals_starts [] (w ∷ ws) e = absurd (omega arith)
equals_starts (a ∷ t) [] e = absurd (omega arith)
equals_starts (a ∷ t) (w ∷ ws) e = ap (λ b. eqb a w && b) (equals_starts t ws (omega arith))

-- a text of another length is not the word
pub equals_other : (t word : List ℕ) → (length t ≡ length word → ⊥) → false ≡ equals t word
unfolding equals
equals_other [] [] h = absurd (h refl)
equals_other [] (w ∷ ws) h = refl
equals_other (a ∷ t) [] h = refl
equals_other (a ∷ t) (w ∷ ws) h = both (eqb a w) (equals_other t ws (λ e. h (ap suc e)))
  where
    both : (b : Bool) → false ≡ equals t ws → false ≡ (b && equals t ws)
    both true e = e
    both false e = refl
