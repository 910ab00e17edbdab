-- A signed operand as a word. Assumes nothing.
use mathlib.Core.Path.{◌≡◌, refl, sym, ap, ◌∙◌}
use Rattle.std.specs.Prelude.{Option, None, Some, option_map}
use mathlib.Core.List.{List, [], ◌∷◌}
use Prim.Native.Nat.{ℕ, zero, suc, ◌+◌, ◌-◌, ◌≤◌, ◌<◌}
use native.Mathlib.Omega.{arith}
use lib.IntN.{pos, negsuc}
use lib.ListN.{length, get_or, take, drop}
use lib.Seq.{take_all}
use borrow.Author.Tests.{eq-eqb, ne_eqb}
use Rattle.model.specs.Reader.{◌then◌}
use Rattle.model.specs.Fields.{take_value, take_field}
use Rattle.model.specs.Numbers.{negative, signed_if, read_up_to, read_signed}
use Rattle.intmap.specs.Signed.{offset, int_of}
use Rattle.intmap.proofs.SignedLaws.{int_below, int_above}
use Rattle.text.specs.Reads.{Reads}
use Rattle.text.proofs.NumberLaws.{empty-number, up_to_bound}
use Rattle.text.proofs.ReadLaws.{no_value, value_read}
use Rattle.listing.specs.Fields.{SignedAs, ReadsOperand}

signed_minus : (t : List ℕ) → (length t ≡ 0 → ⊥) → get_or t 0 0 ≡ 45 → (read_up_to 2147483648 (take (length t - 1) (drop 1 t)) then negative) ≡ read_signed t
unfolding read_signed
signed_minus [] n e = absurd (n refl)
signed_minus (b ∷ t) n e = rw (take_all (suc (length t) - 1) t (omega arith)) (ap (λ x. signed_if x b t) (sym (eq-eqb b 45 e)))

signed_plus : (t : List ℕ) → (get_or t 0 0 ≡ 45 → ⊥) → (read_up_to 2147483647 t then λ n. Some (pos n)) ≡ read_signed t
unfolding read_signed
signed_plus [] e = ap (λ o. o then λ n. Some (pos n)) (sym (empty-number [] 2147483647 refl))
signed_plus (b ∷ t) e = ap (λ x. signed_if x b t) (sym (ne_eqb b 45 e))

-- no text begins with a sign where there is none
pub no_sign : (t : List ℕ) → length t < 1 → get_or t 0 0 ≡ 45 → ⊥
no_sign [] h e = absurd (omega arith)
no_sign (b ∷ t) h e = absurd (omega arith)

minus_word : (n : ℕ) → (n ≡ 0 → ⊥) → n ≤ 2147483648 → Some (int_of (offset - n)) ≡ negative n
unfolding negative
minus_word zero z h = absurd (z refl)
minus_word (suc k) z h = ap Some (int_below (offset - suc k) (omega arith) ∙ ap negsuc (omega arith))

plus_word : (n : ℕ) → Some (int_of (offset + n)) ≡ Some (pos n)
plus_word n = ap Some (int_above (offset + n) (omega arith) ∙ ap pos (omega arith))

module _ (t : List ℕ) (more : length t ≡ 0 → ⊥) where
  module _ (sign : get_or t 0 0 ≡ 45) where
    pub minus_bad : None ≡ read_up_to 2147483648 (take (length t - 1) (drop 1 t)) → SignedAs t None
    minus_bad h = record { is = ap (λ o. o then negative) h ∙ signed_minus t more sign; operand = tt }

    pub minus_zero : {n : ℕ} → Some n ≡ read_up_to 2147483648 (take (length t - 1) (drop 1 t)) → n ≡ 0 → SignedAs t None
    unfolding negative
    minus_zero h z = record { is = ap negative (sym z) ∙ ap (λ o. o then negative) h ∙ signed_minus t more sign; operand = tt }

    pub minus_good : {n : ℕ} → Some n ≡ read_up_to 2147483648 (take (length t - 1) (drop 1 t)) → (n ≡ 0 → ⊥) → SignedAs t (Some (offset - n))
    minus_good {n} h z =
        let small = up_to_bound 2147483648 (take (length t - 1) (drop 1 t)) h in
        record {
          is = minus_word n z small ∙ ap (λ o. o then negative) h ∙ signed_minus t more sign;
          operand = record { above = omega arith; below = omega (arith, z) };
        }

module _ (t : List ℕ) (sign : get_or t 0 0 ≡ 45 → ⊥) where
  pub plus_bad : None ≡ read_up_to 2147483647 t → SignedAs t None
  plus_bad h = record { is = ap (λ o. o then λ n. Some (pos n)) h ∙ signed_plus t sign; operand = tt }

  pub plus_good : {n : ℕ} → Some n ≡ read_up_to 2147483647 t → SignedAs t (Some (offset + n))
  plus_good {n} h =
      let small = up_to_bound 2147483647 t h in
      record {
        is = plus_word n ∙ ap (λ o. o then λ n. Some (pos n)) h ∙ signed_plus t sign;
        operand = record { above = omega arith; below = omega arith };
      }

-- an operand's field
module _ (key : List ℕ) {t rest : List ℕ} {v : Option (List ℕ)} (h : Reads (take_value key) t rest v) where
  pub operand_absent : {last : List ℕ} → v ≡ None → ReadsOperand (take_field key read_signed) t last None
  operand_absent e = record { reads = no_value key h read_signed e; operand = tt }

  pub operand_read : {bs : List ℕ} {o : Option ℕ} → v ≡ Some bs → SignedAs bs o → ReadsOperand (take_field key read_signed) t rest o
  operand_read {o = o} e s = record { reads = value_read key h read_signed (option_map int_of o) e s.is; operand = s.operand }
