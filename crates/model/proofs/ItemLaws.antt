-- Laws of items in a row: so many of them, and as many as the text has. Assumes nothing.
use mathlib.Core.Path.{◌≡◌, refl, sym, ap, ◌∙◌, subst}
use Rattle.std.specs.Prelude.{Some}
use mathlib.Core.List.{List, [], ◌∷◌, ◌++◌, append_assoc, append-nil}
use Prim.Native.Nat.{ℕ, zero, suc, ◌+◌, ◌≤◌}
use native.Mathlib.Omega.{arith}
use lib.ListN.{length, length-append}
use Rattle.type_info.specs.All.{All, all_nil, all_cons}
use Rattle.model.specs.Reader.{◌then◌, Reader}
use Rattle.model.specs.Fields.{take_items, items_up_to, read_items, print_items}
use Rattle.model.specs.TextClaims.{Exactly, Takes}
use Rattle.model.proofs.ReaderLaws.{never, some_same, then_some, exactly, Yields, takes_from, yields, yields_as, give_yields, give_gives, then_yields, then_gives}

-- Items in a row, each of which is exactly taken.
module _ {A : Type 0} (item : ℕ → Reader A) (Valid : A → Type 0) (print : ℕ → A → List ℕ) (law : (k : ℕ) → Takes (item k) Valid (print k)) where
  -- so many of them
  none_yield : (k : ℕ) {xs : List A} → All Valid xs → length xs ≡ 0 → Yields (take_items item 0 k) (print_items print k xs) xs
  unfolding take_items print_items
  none_yield k all_nil e = give_yields
  none_yield k (all_cons v w) e = absurd (omega arith)

  more_yield : (n k : ℕ) {xs : List A} → Takes (take_items item n (suc k)) (λ xs. (length xs ≡ n) × All Valid xs) (print_items print (suc k)) → All Valid xs → length xs ≡ suc n → Yields (take_items item (suc n) k) (print_items print k xs) xs
  unfolding take_items print_items
  more_yield n k rest all_nil e = absurd (omega arith)
  more_yield n k rest (all_cons {x = x} {xs = more} v w) e =
      yields_as (ap (λ s. print k x ++ s) (append-nil (print_items print (suc k) more)))
      (then_yields (law k) _ v (then_yields rest _ (omega arith, w) give_yields))

  pub items_take : (n k : ℕ) → Takes (take_items item n k) (λ xs. (length xs ≡ n) × All Valid xs) (print_items print k)
  unfolding take_items print_items
  items_take zero k = takes_from (λ xs h. none_yield k h.1 h.0) (give_gives _ λ u. ((refl, all_nil), refl))
  items_take (suc n) k = takes_from
      (λ xs h. more_yield n k (items_take n (suc k)) h.1 h.0)
      (then_gives (law k) _ λ x v. then_gives (items_take n (suc k)) _ λ more w. give_gives _ λ u.
      ((ap suc w.0, all_cons v w.1), sym (append_assoc (print k x) (print_items print (suc k) more) u)))

  -- until the text ends
  none_left_lem : (most k : ℕ) → items_up_to item most k [] ≡ Some []
  unfolding items_up_to
  none_left_lem zero k = refl
  none_left_lem (suc most) k = refl

  one_more : (most k : ℕ) (t : List ℕ) → 1 ≤ length t → items_up_to item (suc most) k t ≡ (item k t then λ x. items_up_to item most (suc k) x.1 then λ more. Some (x.0 ∷ more))
  unfolding items_up_to
  one_more most k [] h = absurd (omega arith)
  one_more most k (b ∷ t) h = refl

  none_back : (k : ℕ) {xs : List A} → Some [] ≡ Some xs → All Valid xs × ([] ≡ print_items print k xs)
  unfolding print_items
  none_back k e = subst (λ xs. All Valid xs × ([] ≡ print_items print k xs)) (some_same e) (all_nil, refl)

  up_to_back : (most k : ℕ) (t : List ℕ) {xs : List A} → items_up_to item most k t ≡ Some xs → All Valid xs × (t ≡ print_items print k xs)
  unfolding items_up_to print_items
  up_to_back zero k [] e = none_back k e
  up_to_back zero k (b ∷ t) e = never e
  up_to_back (suc most) k [] e = none_back k e
  up_to_back (suc most) k (b ∷ t) e =
      then_some (item k (b ∷ t)) e λ x is next.
      then_some (items_up_to item most (suc k) x.1) next λ more rest same.
      let (v, split) = ((law k).is (b ∷ t) x.0 x.1).0 is in
      let (w, text) = up_to_back most (suc k) x.1 rest in
      subst (λ xs. All Valid xs × (b ∷ t ≡ print_items print k xs)) (some_same same) (all_cons v w, split ∙ ap (λ s. print k x.0 ++ s) text)

  -- an item takes a byte at least
  module _ (longer : (k : ℕ) (v : A) → 1 ≤ length (print k v)) where
    up_to_print : (most k : ℕ) {xs : List A} → All Valid xs → length (print_items print k xs) ≤ most → items_up_to item most k (print_items print k xs) ≡ Some xs
    unfolding print_items
    up_to_print most k all_nil h = none_left_lem most k
    up_to_print zero k (all_cons {x = x} {xs = more} v w) h = absurd (omega (arith, longer k x, length-append (print k x) (print_items print (suc k) more)))
    up_to_print (suc most) k (all_cons {x = x} {xs = more} v w) h =
        let size : length (print k x ++ print_items print (suc k) more) ≡ length (print k x) + length (print_items print (suc k) more) = length-append (print k x) (print_items print (suc k) more) in
        one_more most k (print k x ++ print_items print (suc k) more) (omega (arith, longer k x))
        ∙ ap (λ o. o then λ y. items_up_to item most (suc k) y.1 then λ ys. Some (y.0 ∷ ys)) ((yields (law k) v).is (print_items print (suc k) more))
        ∙ ap (λ o. o then λ ys. Some (x ∷ ys)) (up_to_print most (suc k) w (omega (arith, longer k x)))

    pub items_exact : Exactly (read_items item) (All Valid) (print_items print 0)
    unfolding read_items
    items_exact = exactly (λ xs w. up_to_print (length (print_items print 0 xs)) 0 w (omega arith)) (λ t xs e. up_to_back (length t) 0 t e)
