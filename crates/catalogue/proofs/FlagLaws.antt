-- A declared type and a flag, by their bytes. Assumes nothing.
use mathlib.Core.Path.{◌≡◌, refl, sym, ap, ◌∙◌}
use mathlib.Core.Bool.{Bool, true, false}
use Rattle.std.specs.Prelude.{None, Some}
use mathlib.Core.List.{List, [], ◌∷◌}
use Prim.Native.Nat.{ℕ, ◌≤◌, ◌<◌}
use native.Mathlib.Omega.{arith}
use lib.Dec.{eqb}
use lib.ListN.{length, get_or}
use borrow.Author.Tests.{le-leb, lt-leb, eq-eqb, ne_eqb}
use Rattle.type_info.specs.Ascii.{ascii, equals}
use Rattle.type_info.specs.DeclaredType.{all_printable}
use Rattle.model.specs.Reader.{this_or, read_name}
use Rattle.model.specs.CatalogueText.{is_declared, print_flag, read_flag}
use Rattle.model.proofs.TestLaws.{cases}

pub declared_long : (t : List ℕ) → 64 < length t → false ≡ is_declared t
unfolding is_declared
declared_long t h = rw (lt-leb (length t) 64 h)

pub declared_short : (t : List ℕ) → length t ≤ 64 → all_printable t ≡ is_declared t
unfolding is_declared
declared_short t h = rw (le-leb (length t) 64 h)

-- a flag is one byte
two_bytes : (a b c : ℕ) (t : List ℕ) → equals (a ∷ []) (b ∷ c ∷ t) ≡ false
unfolding equals
two_bytes a b c t = cases (eqb a b) (λ e. rw e) (λ e. rw e)

flag_as : (t : List ℕ) {x y : Bool} → equals (48 ∷ []) t ≡ x → equals (49 ∷ []) t ≡ y → this_or x false (this_or y true None) ≡ read_flag t
unfolding read_flag read_name print_flag ascii
flag_as t {x} {y} e h = ap (λ b. this_or b false (this_or y true None)) (sym e) ∙ ap (λ b. this_or (equals (48 ∷ []) t) false (this_or b true None)) (sym h)

pub flag_size : (t : List ℕ) → (length t ≡ 1 → ⊥) → None ≡ read_flag t
unfolding equals
flag_size [] h = flag_as [] refl refl
flag_size (b ∷ []) h = absurd (h refl)
flag_size (b ∷ c ∷ t) h = flag_as (b ∷ c ∷ t) (two_bytes 48 b c t) (two_bytes 49 b c t)

one_byte : (b a : ℕ) {x : Bool} → eqb a b ≡ x → equals (a ∷ []) (b ∷ []) ≡ x
unfolding equals
one_byte b a e = cases (eqb a b) (λ h. rw h) (λ h. rw h) ∙ e

flag_byte : (t : List ℕ) → length t ≡ 1 → {x y : Bool} → eqb 48 (get_or t 0 0) ≡ x → eqb 49 (get_or t 0 0) ≡ y → this_or x false (this_or y true None) ≡ read_flag t
flag_byte [] n e h = absurd (omega (arith, n))
flag_byte (b ∷ []) n e h = flag_as (b ∷ []) (one_byte b 48 e) (one_byte b 49 h)
flag_byte (b ∷ c ∷ t) n e h = absurd (omega (arith, n))

module _ (t : List ℕ) (one : length t ≡ 1) where
  pub flag_zero : get_or t 0 0 ≡ 48 → Some false ≡ read_flag t
  flag_zero e = flag_byte t one (eq-eqb 48 (get_or t 0 0) (sym e)) refl

  pub flag_one : get_or t 0 0 ≡ 49 → Some true ≡ read_flag t
  flag_one e = flag_byte t one (ne_eqb 48 (get_or t 0 0) (λ h. absurd (omega arith))) (eq-eqb 49 (get_or t 0 0) (sym e))

  pub flag_other : (get_or t 0 0 ≡ 48 → ⊥) → (get_or t 0 0 ≡ 49 → ⊥) → None ≡ read_flag t
  flag_other n m = flag_byte t one (ne_eqb 48 (get_or t 0 0) (λ e. n (sym e))) (ne_eqb 49 (get_or t 0 0) (λ e. m (sym e)))
