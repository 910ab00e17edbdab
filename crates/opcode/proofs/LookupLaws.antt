-- The look-up in a table, entry by entry. Assumes nothing.
use mathlib.Core.Path.{◌≡◌, refl, sym, ap, ◌∙◌}
use mathlib.Core.Bool.{Bool, true, false, ◌&&◌}
use mathlib.Core.List.{List, [], ◌∷◌}
use Prim.Native.Nat.{ℕ, suc, ◌+◌, ◌<◌, ◌≤◌}
use native.Mathlib.Numerals.{add-one}
use native.Mathlib.Omega.{arith}
use denote.Ref.{Bor}
use lib.Dec.{eqb}
use lib.ListN.{length, get_or, drop, drop_of_length-le}
use borrow.Author.Tests.{eq-eqb, ne_eqb}
use lib.Seq.{drop-cons}
use Rattle.std.specs.Prelude.{None, Some}
use Rattle.type_info.specs.Ascii.{starts_with}
use Rattle.model.specs.TextTable.{first_for}
use Rattle.model.specs.IntMap.{get_if}
use Rattle.opcode.specs.Lookup.{named, found_in}

and-false : (b : Bool) {c : Bool} → false ≡ c → false ≡ (b && c)
and-false true e = e
and-false false e = refl

-- a word that is longer than the text
pub too_short : (s word : List ℕ) → length s < length word → false ≡ starts_with s word
unfolding starts_with
too_short s [] h = absurd (omega arith)
too_short [] (w ∷ ws) h = refl
too_short (a ∷ s) (w ∷ ws) h = and-false (eqb a w) (too_short s ws (omega arith))

-- a byte of each, and the rest
module _ (s word : List ℕ) (i : ℕ) (inside : i < length s) (more : i < length word) where
  first_byte : starts_with (drop i s) (drop i word) ≡ (eqb (get_or s i 0) (get_or word i 0) && starts_with (drop (i + 1) s) (drop (i + 1) word))
  unfolding starts_with
  first_byte = rw (drop-cons s i 0 inside, drop-cons word i 0 more, add-one i)

  pub byte_differs : (get_or s i 0 ≡ get_or word i 0 → ⊥) → false ≡ starts_with (drop i s) (drop i word)
  byte_differs d = sym (first_byte ∙ ap (λ b. b && starts_with (drop (i + 1) s) (drop (i + 1) word)) (ne_eqb _ _ d))

  pub byte_agrees : get_or s i 0 ≡ get_or word i 0 → starts_with (drop (i + 1) s) (drop (i + 1) word) ≡ starts_with (drop i s) (drop i word)
  byte_agrees e = sym (first_byte ∙ ap (λ b. b && starts_with (drop (i + 1) s) (drop (i + 1) word)) (eq-eqb _ _ e))

-- the word is read to its end
pub word_read : (t word : List ℕ) (i : ℕ) → length word ≤ i → true ≡ starts_with t (drop i word)
unfolding starts_with
word_read t word i h = rw (drop_of_length-le word h)

-- the entry at i
module _ {A : Type 0} (given : List ℕ) (table : List (Bor (List ℕ) × A)) (i : ℕ) (e : Bor (List ℕ) × A) (inside : i < length table) (is : e ≡ get_or table i e) where
  opened : drop i table ≡ e ∷ drop (i + 1) table
  opened = drop-cons table i e inside ∙ ap (λ x. x ∷ drop (suc i) table) (sym is) ∙ ap (λ k. e ∷ drop k table) (sym (add-one i))

  at_entry : found_in given (drop i table) ≡ get_if (starts_with given e.0.now) e.1 (found_in given (drop (i + 1) table))
  unfolding found_in named first_for
  at_entry = ap (found_in given) opened

  pub entry_found : starts_with given e.0.now ≡ true → Some e.1 ≡ found_in given (drop i table)
  entry_found h = sym (at_entry ∙ ap (λ b. get_if b e.1 (found_in given (drop (i + 1) table))) h)

  pub entry_passed : starts_with given e.0.now ≡ false → found_in given (drop (i + 1) table) ≡ found_in given (drop i table)
  entry_passed h = sym (at_entry ∙ ap (λ b. get_if b e.1 (found_in given (drop (i + 1) table))) h)

-- no entry is left
pub no_entry : {A : Type 0} (given : List ℕ) (table : List (Bor (List ℕ) × A)) (i : ℕ) → length table ≤ i → None ≡ found_in given (drop i table)
unfolding found_in named first_for
no_entry given table i h = rw (drop_of_length-le table h)
