-- The first five lines, and the whole answer: refused where it is too long, and otherwise written. Assumes nothing.
use Rattle.std.proofs.Common.{◌≡◌, ℕ, ◌+◌, ◌≤◌, ◌<◌, List, [], ◌∷◌, ◌++◌, length, drop, refl, sym, ap, ap₂, subst, ◌∙◌, arith, zero-add, length-append}
use Rattle.std.specs.Prelude.{Result, Ok, Err}
use mathlib.Core.List.{flatten, map}
use lib.ListN.{length-map}
use borrow.Author.Tests.{le-leb, lt-leb}
use Rattle.refusal.specs.declared.Refusal.{Refusal}
use Rattle.refusal.specs.declared.Refusal.TheVariants.{AnswerTooLong}
use Rattle.type_info.specs.Ascii.{ascii}
use Rattle.model.specs.Answer.{Answer}
use Rattle.model.specs.Numbers.{print_natural}
use Rattle.model.specs.Fields.{print_field}
use Rattle.model.specs.AnswerText.{print_answer}
use Rattle.model.specs.Call.{done_if, print_into, leave}
use Rattle.counters.specs.declared.Counters.{Counters}
use Rattle.answer.specs.Writing.{patch, Room, Put, Sized}
use Rattle.answer.specs.Text.{column_in, columns_text, head_text, answer_with, Leaves, Writes}
use Rattle.answer.specs.declared.Writer.{Writer}
use Rattle.answer.proofs.FieldLaws.{two_rest, two_put, field-length, flat_length, flat_more}
use Rattle.answer.proofs.ColumnLaws.{columns_back}

-- ---- the first five lines

counted : (key : List ℕ) (n d : ℕ) → Sized (print_natural n) 10 d → length (print_field key (print_natural n)) ≡ length key + d + 1
counted key n d s = omega (arith, field-length key (print_natural n), s.is)

module _ (n : ℕ) (c : Counters) where
  pub head_sized : (p q s t u : ℕ) → Sized (print_natural n) 10 p → Sized (print_natural c.charged) 10 q → Sized (print_natural c.loopstops) 10 s → Sized (print_natural c.gasstops) 10 t → Sized (print_natural c.repeats) 10 u → Sized (head_text n c) 98 (p + q + s + t + u + 48)
  unfolding head_text ascii
  head_sized p q s t u a b d e f =
      let f₁ = print_field (ascii "columns=") (print_natural n) in
      let f₂ = print_field (ascii "charged=") (print_natural c.charged) in
      let f₃ = print_field (ascii "loopstops=") (print_natural c.loopstops) in
      let f₄ = print_field (ascii "gasstops=") (print_natural c.gasstops) in
      let f₅ = print_field (ascii "repeats=") (print_natural c.repeats) in
      let l₁ : length f₁ ≡ 8 + p + 1 = counted (ascii "columns=") n p a in
      let l₂ : length f₂ ≡ 8 + q + 1 = counted (ascii "charged=") c.charged q b in
      let l₃ : length f₃ ≡ 10 + s + 1 = counted (ascii "loopstops=") c.loopstops s d in
      let l₄ : length f₄ ≡ 9 + t + 1 = counted (ascii "gasstops=") c.gasstops t e in
      let l₅ : length f₅ ≡ 8 + u + 1 = counted (ascii "repeats=") c.repeats u f in record {
        is = omega (arith, flat_length f₁ (f₂ ∷ f₃ ∷ f₄ ∷ f₅ ∷ []), flat_length f₂ (f₃ ∷ f₄ ∷ f₅ ∷ []), flat_length f₃ (f₄ ∷ f₅ ∷ []), flat_length f₄ (f₅ ∷ []), flat_length f₅ [], none_left);
        small = omega (arith, a.small, b.small, d.small, e.small, f.small);
      }
    where
      none_left : length (flatten {A = ℕ} []) ≡ 0
      none_left = unfold flatten in refl

-- ---- the whole answer

module _ (c : Counters) (bytes : List ℕ) where
  answer_is : print_answer (answer_with c (map column_in bytes)) ≡ head_text (length bytes) c ++ columns_text 0 bytes
  unfolding print_answer head_text columns_text
  answer_is =
      ap (λ w. flatten (print_field (ascii "columns=") (print_natural w) ∷ print_field (ascii "charged=") (print_natural c.charged) ∷ print_field (ascii "loopstops=") (print_natural c.loopstops) ∷ print_field (ascii "gasstops=") (print_natural c.gasstops) ∷ print_field (ascii "repeats=") (print_natural c.repeats) ∷ columns_text 0 bytes ∷ [])) (length-map bytes column_in)
      ∙ flat_more (print_field (ascii "columns=") (print_natural (length bytes)) ∷ print_field (ascii "charged=") (print_natural c.charged) ∷ print_field (ascii "loopstops=") (print_natural c.loopstops) ∷ print_field (ascii "gasstops=") (print_natural c.gasstops) ∷ print_field (ascii "repeats=") (print_natural c.repeats) ∷ []) (columns_text 0 bytes)

  answer_long : length (print_answer (answer_with c (map column_in bytes))) ≡ length (head_text (length bytes) c) + length (columns_text 0 bytes)
  answer_long = ap length answer_is ∙ length-append (head_text (length bytes) c) (columns_text 0 bytes)

too_long : (a : Answer) (out : List ℕ) → length out < length (print_answer a) → Leaves a out out (Err AnswerTooLong)
too_long a out h = record { is = sym (unfold print_into leave in (ap (λ b. leave out (done_if 5 b (print_answer a))) (lt-leb (length (print_answer a)) (length out) h))) }

fits_there : (a : Answer) (out o : List ℕ) (r : ℕ) → length (print_answer a) ≤ length out → o ≡ patch out 0 (print_answer a) → r ≡ 0 + length (print_answer a) → Leaves a out o (Ok r)
fits_there a out o r h e f = record { is = ap₂ (λ n x. record { number = 0; size = n; answer = x }) (f ∙ zero-add (length (print_answer a))) (e ∙ patched) ∙ sym left }
  where
    patched : patch out 0 (print_answer a) ≡ print_answer a ++ drop (length (print_answer a)) out
    patched = unfold patch in (ap (λ k. print_answer a ++ drop k out) (zero-add (length (print_answer a))))

    left : leave out (print_into (length out) a) ≡ record { number = 0; size = length (print_answer a); answer = print_answer a ++ drop (length (print_answer a)) out }
    left = unfold print_into leave in (ap (λ b. leave out (done_if 5 b (print_answer a))) (le-leb (length (print_answer a)) (length out) h))

module _ (c : Counters) (bytes : List ℕ) where
  -- of the columns that the bytes stand for
  writes : (entry exit : List ℕ) (r : Result ℕ Refusal) → Leaves (answer_with c (map column_in bytes)) entry exit r → Writes bytes c entry exit r
  writes entry exit r leaves = record { whole = leaves; says = λ columns has. subst (λ x. Leaves (answer_with c x) entry exit r) (columns_back bytes columns has) leaves }

  module _ {out : List ℕ} {h n : ℕ} (s : Sized (head_text (length bytes) c) 98 h) (t : Sized (columns_text 0 bytes) 128000 n) where
    pub writes_long : length out < h + n → Writes bytes c out out (Err AnswerTooLong)
    writes_long k = writes out out (Err AnswerTooLong) (too_long (answer_with c (map column_in bytes)) out (omega (arith, answer_long c bytes, s.is, t.is)))

    module _ (k : h + n ≤ length out) {w : Writer} (start : w.at ≡ 0) (whole : w.out.now ≡ out) where
      both_fit : Room w (head_text (length bytes) c ++ columns_text 0 bytes)
      both_fit = record { fits = omega (arith, length-append (head_text (length bytes) c) (columns_text 0 bytes), s.is, t.is, ap length whole) }

      module _ {v : Writer} (first : Put w v (head_text (length bytes) c)) where
        pub columns_fit : Room v (columns_text 0 bytes)
        columns_fit = two_rest (head_text (length bytes) c) (columns_text 0 bytes) both_fit first

        pub writes_fits : {u : Writer} {exit : List ℕ} → Put v u (columns_text 0 bytes) → exit ≡ u.out.now → Writes bytes c out exit (Ok u.at)
        writes_fits {u} {exit} second e =
            let p : Put w u (head_text (length bytes) c ++ columns_text 0 bytes) = two_put (head_text (length bytes) c) (columns_text 0 bytes) both_fit first second in
            let text : head_text (length bytes) c ++ columns_text 0 bytes ≡ print_answer (answer_with c (map column_in bytes)) = sym (answer_is c bytes) in
            writes out exit (Ok u.at)
            (fits_there (answer_with c (map column_in bytes)) out exit u.at (omega (arith, answer_long c bytes, s.is, t.is))
            (e ∙ p.is ∙ ap₂ (λ x i. patch x i (head_text (length bytes) c ++ columns_text 0 bytes)) whole start ∙ ap (patch out 0) text)
            (p.next ∙ ap₂ (λ i x. i + length x) start text))
