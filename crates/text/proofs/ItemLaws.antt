-- Items in a row, read until the text ends, and how many there are. Assumes nothing.
use mathlib.Core.Path.{◌≡◌, refl, sym, ap, ◌∙◌}
use Rattle.std.specs.Prelude.{Option, None, Some}
use mathlib.Core.List.{List, [], ◌∷◌, ◌++◌, append-nil, append_assoc}
use Prim.Native.Nat.{ℕ, zero, suc, ◌+◌, ◌-◌, ◌≤◌, ◌<◌}
use native.Mathlib.Omega.{arith}
use native.Mathlib.Numerals.{add-one}
use native.Mathlib.Nat.{sub-zero}
use lib.Dec.{leb}
use lib.ListN.{length, length-append}
use borrow.Author.Tests.{le-leb, lt-leb}
use Rattle.model.specs.Walk.{Tried, refused, done}
use Rattle.model.specs.Access.{◌>>=◌}
use Rattle.model.specs.Call.{or_refused, done_if}
use Rattle.model.specs.Reader.{◌then◌, Reader}
use Rattle.model.specs.Fields.{items_up_to, read_items}
use Rattle.text.specs.Reads.{with_rest, Reads}
use Rattle.text.specs.Counts.{length_of}
use Rattle.text.proofs.ReadLaws.{then_then, then_same, read_shorter}

module _ {A : Type 0} (item : ℕ → Reader A) where
  -- of the text t, k items were read, and `rest` is not yet
  pub record ItemsRead (t rest : List ℕ) (k : ℕ) (before : List A) : Type 0 where
    pub count : length before ≡ k
    pub each : k + length rest ≤ length t
    pub all : (items_up_to item (length t - k) k rest then λ more. Some (before ++ more)) ≡ read_items item t

  pub record SomeRead (t rest : List ℕ) (k : ℕ) : Type 0 where
    pub before : List A
    pub read : ItemsRead t rest k before

  no_more : (most k : ℕ) (rest : List ℕ) → length rest ≡ 0 → items_up_to item most k rest ≡ Some []
  unfolding items_up_to
  no_more zero k [] e = refl
  no_more (suc most) k [] e = refl
  no_more most k (b ∷ rest) e = absurd (omega (arith, e))

  one_more : (most k : ℕ) (t : List ℕ) → 0 < most → (length t ≡ 0 → ⊥) → items_up_to item most k t ≡ (item k t then λ x. items_up_to item (most - 1) (suc k) x.1 then λ more. Some (x.0 ∷ more))
  unfolding items_up_to
  one_more zero k t h l = absurd (omega arith)
  one_more (suc most) k [] h l = absurd (l refl)
  one_more (suc most) k (b ∷ t) h l = let e : suc most - 1 ≡ most = omega arith in rw e

  pub items_start : (t : List ℕ) → ItemsRead t t 0 []
  unfolding read_items
  items_start t = record { count = refl; each = omega arith; all = rw (sub-zero (length t)) (same (items_up_to item (length t) 0 t)) }
    where
      same : (o : Option (List A)) → (o then λ more. Some ([] ++ more)) ≡ o
      same None = refl
      same (Some xs) = refl

  module _ {t rest : List ℕ} {k : ℕ} {before : List A} (h : ItemsRead t rest k before) where
    pub items_end : length rest ≡ 0 → read_items item t ≡ Some before
    items_end e = sym h.all ∙ ap (λ o. o then λ more. Some (before ++ more)) (no_more (length t - k) k rest e) ∙ ap Some (append-nil before)

    module _ (some : length rest ≡ 0 → ⊥) {last : List ℕ} {o : Option A} (r : Reads (item k) rest last o) where
      opened : ((with_rest last o then λ x. items_up_to item (length t - k - 1) (suc k) x.1 then λ more. Some (x.0 ∷ more)) then λ more. Some (before ++ more)) ≡ read_items item t
      opened = ap (λ o. (o then λ x. items_up_to item (length t - k - 1) (suc k) x.1 then λ more. Some (x.0 ∷ more)) then λ more. Some (before ++ more)) r.is ∙ sym (ap (λ o. o then λ more. Some (before ++ more)) (one_more (length t - k) k rest (omega (arith, h.each, some)) some)) ∙ h.all

      pub items_bad : o ≡ None → read_items item t ≡ None
      items_bad e = sym opened ∙ ap (λ o. (with_rest last o then λ x. items_up_to item (length t - k - 1) (suc k) x.1 then λ more. Some (x.0 ∷ more)) then λ more. Some (before ++ more)) e

      pub items_next : {a : A} → o ≡ Some a → ItemsRead t last (k + 1) (before ++ (a ∷ []))
      items_next {a} e =
          let d : length t - suc k ≡ length t - k - 1 = omega arith in
          let more = items_up_to item (length t - k - 1) (suc k) last in
          record {
            count = length-append before (a ∷ []) ∙ ap (λ n. n + 1) h.count;
            each = omega (arith, h.each, read_shorter r e);
            all = rw (add-one k, d) (then_same more (λ xs. ap Some (append_assoc before (a ∷ []) xs)))
                ∙ sym (then_then more _ _)
                ∙ ap (λ o. (with_rest last o then λ x. items_up_to item (length t - k - 1) (suc k) x.1 then λ more. Some (x.0 ∷ more)) then λ more. Some (before ++ more)) (sym e)
                ∙ opened;
          }

-- How many were read, or the refusal: `number` where the text is ill-formed, 3 where there are more than `most`.
module _ {A : Type 0} (number most : ℕ) where
  abbrev pub judged : Option (List A) → Tried (List A)
  judged o = or_refused number o >>= λ xs. done_if 3 (leb (length xs) most) xs

  pub count_refused : {o : Option (List A)} → o ≡ None → refused number ≡ length_of (judged o)
  count_refused e = ap (λ o. length_of (judged o)) (sym e)

  module _ {o : Option (List A)} {xs : List A} (e : o ≡ Some xs) {k : ℕ} (n : length xs ≡ k) where
    count_as : length_of (done_if 3 (leb k most) xs) ≡ length_of (judged o)
    count_as = ap (λ m. length_of (done_if 3 (leb m most) xs)) (sym n) ∙ ap (λ o. length_of (judged o)) (sym e)

    pub count_over : most < k → refused 3 ≡ length_of (judged o)
    count_over h = ap (λ b. length_of (done_if 3 b xs)) (sym (lt-leb k most h)) ∙ count_as

    pub count_is : k ≤ most → done k ≡ length_of (judged o)
    count_is h = ap done (sym n) ∙ ap (λ b. length_of (done_if 3 b xs)) (sym (le-leb k most h)) ∙ count_as
