-- Texts written one behind another, where the whole has room: a field, which is a key, its value and LF, and fields in a row. Assumes nothing.
use Rattle.std.proofs.Common.{◌≡◌, ℕ, ◌+◌, ◌≤◌, List, [], ◌∷◌, ◌++◌, length, sym, ap, ◌∙◌, arith, append_assoc, append-nil, add_assoc, length-append}
use mathlib.Core.List.{flatten}
use Rattle.model.specs.Fields.{print_field}
use Rattle.answer.specs.Writing.{patch, Room, Put}
use Rattle.answer.specs.declared.Writer.{Writer}
use Rattle.answer.proofs.PatchLaws.{patch_length, patch_patch}

-- ---- two texts

pub put_long : {w v : Writer} {text : List ℕ} → Room w text → Put w v text → length v.out.now ≡ length w.out.now
put_long {w} {v} {text} room p = ap length p.is ∙ patch_length w.out.now w.at text room.fits

module _ {w : Writer} (a b : List ℕ) (room : Room w (a ++ b)) where
  both : w.at + length a + length b ≤ length w.out.now
  both = omega (arith, room.fits, length-append a b)

  pub two_first : Room w a
  two_first = record { fits = omega (arith, both) }

  module _ {v : Writer} (first : Put w v a) where
    pub two_rest : Room v b
    two_rest = record { fits = omega (arith, both, first.next, put_long two_first first) }

    pub two_put : {u : Writer} → Put v u b → Put w u (a ++ b)
    two_put {u} second = record {
      same_buffer = second.same_buffer ∙ first.same_buffer;
      is = second.is ∙ ap (λ x. patch x v.at b) first.is ∙ ap (λ k. patch (patch w.out.now w.at a) k b) first.next ∙ patch_patch w.out.now w.at a b both;
      next = omega (arith, second.next, first.next, length-append a b);
    }

-- ---- a field

pub field-length : (key v : List ℕ) → length (print_field key v) ≡ length key + length v + 1
unfolding print_field
field-length key v = length-append key (v ++ (10 ∷ [])) ∙ ap (λ n. length key + n) (length-append v (10 ∷ [])) ∙ sym (add_assoc (length key) (length v) 1)

module _ {w : Writer} (key v : List ℕ) (room : Room w (print_field key v)) where
  pub field_key : Room w key
  unfolding print_field
  field_key = two_first key (v ++ (10 ∷ [])) room

  module _ {w₁ : Writer} (first : Put w w₁ key) where
    field_rest : Room w₁ (v ++ (10 ∷ []))
    unfolding print_field
    field_rest = two_rest key (v ++ (10 ∷ [])) room first

    pub field_value : Room w₁ v
    field_value = two_first v (10 ∷ []) field_rest

    module _ {w₂ : Writer} (second : Put w₁ w₂ v) where
      pub field_end : Room w₂ (10 ∷ [])
      field_end = two_rest v (10 ∷ []) field_rest second

      pub field_put : {w₃ : Writer} → Put w₂ w₃ (10 ∷ []) → Put w w₃ (print_field key v)
      unfolding print_field
      field_put third = two_put key (v ++ (10 ∷ [])) room first (two_put v (10 ∷ []) field_rest second third)

-- ---- fields in a row

pub flat_length : (f : List ℕ) (fs : List (List ℕ)) → length (flatten (f ∷ fs)) ≡ length f + length (flatten fs)
unfolding flatten
flat_length f fs = length-append f (flatten fs)

pub flat_more : (fs : List (List ℕ)) (v : List ℕ) → flatten (fs ++ (v ∷ [])) ≡ flatten fs ++ v
unfolding flatten
flat_more [] v = append-nil v
flat_more (f ∷ fs) v = ap (λ x. f ++ x) (flat_more fs v) ∙ sym (append_assoc f (flatten fs) v)

module _ {w : Writer} (f : List ℕ) (fs : List (List ℕ)) (room : Room w (flatten (f ∷ fs))) where
  pub flat_first : Room w f
  unfolding flatten
  flat_first = two_first f (flatten fs) room

  module _ {v : Writer} (first : Put w v f) where
    pub flat_rest : Room v (flatten fs)
    unfolding flatten
    flat_rest = two_rest f (flatten fs) room first

    pub flat_put : {u : Writer} → Put v u (flatten fs) → Put w u (flatten (f ∷ fs))
    unfolding flatten
    flat_put rest = two_put f (flatten fs) room first rest

-- and no more
pub flat_last : {w v : Writer} {f : List ℕ} → Put w v f → Put w v (flatten (f ∷ []))
unfolding flatten
flat_last {w} {v} {f} p = rw (append-nil f) p
