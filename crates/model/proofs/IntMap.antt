-- Maps keep their order, and a property of their entries, under `insert`, `remove`, `update` and `numbered`; what `get` finds has the
-- property, and is what was inserted; and how the sum over the values changes. Assumes nothing.
use mathlib.Core.Path.{◌≡◌, refl, sym, ap, ap₂, subst, ◌∙◌}
use mathlib.Core.Bool.{Bool, true, false}
use Rattle.std.specs.Prelude.{None, Some}
use Rattle.std.proofs.lemmas.Option.{none-some}
use mathlib.Core.List.{List, [], ◌∷◌}
use Prim.Native.Nat.{ℕ, suc, ◌+◌, ◌≤◌, ◌<◌, compare, Ordering}
use native.Mathlib.Omega.{arith}
use borrow.Author.Tests.{leb-true, leb-false, eqb-true, eqb-false, eq-eqb, ne_eqb}
use lib.Dec.{eqb, is_le, compare_is_eq}
use lib.ListN.{length}
use Rattle.model.specs.IntMap.{Entry, ◌⇒◌, get_if, get, insert_by, insert, remove_if, remove, update_if, update, numbered, total, Rising, Sorted}
use Rattle.model.specs.Good.{Each, OnSome}

-- the three orders that `insert` tells apart
pub compare_lt : (a b : ℕ) → compare a b ≡ Ordering.lt → a < b
compare_lt a b q = omega (arith, leb-true a b (ap is_le q), eqb-false a b (ap compare_is_eq q))

pub compare_eq : (a b : ℕ) → compare a b ≡ Ordering.eq → a ≡ b
compare_eq a b q = eqb-true a b (ap compare_is_eq q)

pub compare_gt : (a b : ℕ) → compare a b ≡ Ordering.gt → b < a
compare_gt a b q = leb-false a b (ap is_le q)

-- a key is found at itself, and not at another
eqb_self : (k : ℕ) → eqb k k ≡ true
eqb_self k = eq-eqb k k refl

eqb_less : (j k : ℕ) → j < k → eqb j k ≡ false
eqb_less j k h = ne_eqb j k (λ p. omega arith)

module _ {A : Type 0} (P : ℕ → A → Type 0) where
  pub rising_from : {low high : ℕ} → low ≤ high → (es : List (Entry A)) → Rising P high es → Rising P low es
  rising_from h [] s = tt
  rising_from h (e ∷ es) s = (omega (arith, s.0), s.1, s.2)

  pub rising_sorted : (es : List (Entry A)) → Rising P 0 es → Sorted es
  rising_sorted es s = go 0 es s
    where
      go : (low : ℕ) (es : List (Entry A)) → Rising P low es → Rising (λ k v. Unit {0}) low es
      go low [] s = tt
      go low (e ∷ es) s = (s.0, tt, go (suc e.key) es s.2)

  pub rising_insert : (k : ℕ) (v : A) → P k v → (low : ℕ) → low ≤ k → (es : List (Entry A)) → Rising P low es → Rising P low (insert k v es)
  unfolding insert
  rising_insert k v p low h [] s = (h, p, tt)
  rising_insert k v p low h (e ∷ es) s =
      by (compare k e.key) refl (λ g. rising_insert k v p (suc e.key) g es s.2)
    where
      by : (o : Ordering) → compare k e.key ≡ o → (e.key < k → Rising P (suc e.key) (insert k v es)) → Rising P low (insert_by o (k ⇒ v) e es (insert k v es))
      by Ordering.lt q rest = (h, p, (compare_lt k e.key q, s.1, s.2))
      by Ordering.eq q rest = (h, p, subst (λ x. Rising P (suc x) es) (sym (compare_eq k e.key q)) s.2)
      by Ordering.gt q rest = (s.0, s.1, rest (compare_gt k e.key q))

  pub rising_remove : (k low : ℕ) (es : List (Entry A)) → Rising P low es → Rising P low (remove k es)
  unfolding remove
  rising_remove k low [] s = tt
  rising_remove k low (e ∷ es) s = by (eqb e.key k) (rising_remove k (suc e.key) es s.2)
    where
      by : (b : Bool) → Rising P (suc e.key) (remove k es) → Rising P low (remove_if b e es (remove k es))
      by true rest = rising_from (omega (arith, s.0)) es s.2
      by false rest = (s.0, s.1, rest)

  pub rising_update : (k : ℕ) (g : A → A) → ((j : ℕ) (v : A) → P j v → P j (g v)) → (low : ℕ) (es : List (Entry A)) → Rising P low es → Rising P low (update k g es)
  unfolding update
  rising_update k g keeps low [] s = tt
  rising_update k g keeps low (e ∷ es) s = (s.0, by (eqb e.key k), rising_update k g keeps (suc e.key) es s.2)
    where
      by : (b : Bool) → P e.key (update_if b g e.value)
      by true = keeps e.key e.value s.1
      by false = s.1

  pub rising_get : (k low : ℕ) (es : List (Entry A)) → Rising P low es → OnSome (P k) (get k es)
  unfolding get
  rising_get k low [] s = tt
  rising_get k low (e ∷ es) s = by (eqb e.key k) refl (rising_get k (suc e.key) es s.2)
    where
      by : (b : Bool) → eqb e.key k ≡ b → OnSome (P k) (get k es) → OnSome (P k) (get_if b e.value (get k es))
      by true q rest = subst (λ x. P x e.value) (eqb-true e.key k q) s.1
      by false q rest = rest

  pub rising_numbered : (bound k : ℕ) (vs : List A) → Each (λ v. (j : ℕ) → j < bound → P j v) vs → k + length vs ≤ bound → Rising P k (numbered k vs)
  unfolding numbered
  rising_numbered bound k [] s h = tt
  rising_numbered bound k (v ∷ vs) s h = (omega arith, s.0 k (omega arith), rising_numbered bound (suc k) vs s.1 (omega arith))

-- a key below all others, and a key that is present
module _ {A : Type 0} (P : ℕ → A → Type 0) (k : ℕ) where
  below_other : (j low : ℕ) → k < low → low ≤ j → eqb j k ≡ false
  below_other j low h l = ne_eqb j k (λ p. omega arith)

  get_below : (low : ℕ) → k < low → (es : List (Entry A)) → Rising P low es → get k es ≡ None
  unfolding get
  get_below low h [] s = refl
  get_below low h (e ∷ es) s = ap (λ b. get_if b e.value (get k es)) (below_other e.key low h s.0) ∙ get_below (suc e.key) (omega (arith, s.0)) es s.2

  update_below : (g : A → A) (low : ℕ) → k < low → (es : List (Entry A)) → Rising P low es → update k g es ≡ es
  unfolding update
  update_below g low h [] s = refl
  update_below g low h (e ∷ es) s =
      ap₂ ◌∷◌ (ap (λ b. e.key ⇒ update_if b g e.value) (below_other e.key low h s.0)) (update_below g (suc e.key) (omega (arith, s.0)) es s.2)

  -- `insert` over a present value changes it in place
  pub insert_present : (w v : A) (low : ℕ) (es : List (Entry A)) → Rising P low es → get k es ≡ Some v → insert k w es ≡ update k (λ _. w) es
  unfolding get insert update
  insert_present w v low [] s h = absurd (none-some v h)
  insert_present w v low (e ∷ es) s h = by (compare k e.key) refl (insert_present w v (suc e.key) es s.2)
    where
      skipped : eqb e.key k ≡ false → get k es ≡ Some v
      skipped other = sym (ap (λ b. get_if b e.value (get k es)) other) ∙ h

      by : (o : Ordering) → compare k e.key ≡ o → (get k es ≡ Some v → insert k w es ≡ update k (λ _. w) es) → insert_by o (k ⇒ w) e es (insert k w es) ≡ e.key ⇒ update_if (eqb e.key k) (λ _. w) e.value ∷ update k (λ _. w) es
      by Ordering.lt q rest = absurd (none-some v (sym (get_below (suc e.key) (omega (arith, compare_lt k e.key q)) es s.2) ∙ skipped (below_other e.key e.key (compare_lt k e.key q) (omega arith))))
      by Ordering.eq q rest =
          ap₂ ◌∷◌
          (ap₂ (λ j b. j ⇒ update_if b (λ _. w) e.value) (compare_eq k e.key q) (sym (eq-eqb e.key k (sym (compare_eq k e.key q)))))
          (sym (update_below (λ _. w) (suc e.key) (omega (arith, compare_eq k e.key q)) es s.2))
      by Ordering.gt q rest =
          ap₂ ◌∷◌ (ap (λ b. e.key ⇒ update_if b (λ _. w) e.value) (sym (eqb_less e.key k (compare_gt k e.key q)))) (rest (skipped (eqb_less e.key k (compare_gt k e.key q))))

-- what `get` finds after `insert`
module _ {A : Type 0} (k : ℕ) (v : A) where
  pub get_insert_same : (es : List (Entry A)) → get k (insert k v es) ≡ Some v
  unfolding get insert
  get_insert_same [] = ap (λ b. get_if b v None) (eqb_self k)
  get_insert_same (e ∷ es) = by (compare k e.key) refl (get_insert_same es)
    where
      by : (o : Ordering) → compare k e.key ≡ o → get k (insert k v es) ≡ Some v → get k (insert_by o (k ⇒ v) e es (insert k v es)) ≡ Some v
      by Ordering.lt q rest = ap (λ b. get_if b v (get k (e ∷ es))) (eqb_self k)
      by Ordering.eq q rest = ap (λ b. get_if b v (get k es)) (eqb_self k)
      by Ordering.gt q rest = ap (λ b. get_if b e.value (get k (insert k v es))) (eqb_less e.key k (compare_gt k e.key q)) ∙ rest

  pub get_insert_other : (j : ℕ) → (k ≡ j → ⊥) → (es : List (Entry A)) → get j (insert k v es) ≡ get j es
  unfolding get insert
  get_insert_other j other [] = ap (λ b. get_if b v None) (ne_eqb k j other)
  get_insert_other j other (e ∷ es) = by (compare k e.key) refl (get_insert_other j other es)
    where
      by : (o : Ordering) → compare k e.key ≡ o → get j (insert k v es) ≡ get j es → get j (insert_by o (k ⇒ v) e es (insert k v es)) ≡ get j (e ∷ es)
      by Ordering.lt q rest = ap (λ b. get_if b v (get j (e ∷ es))) (ne_eqb k j other)
      by Ordering.eq q rest =
          ap (λ b. get_if b v (get j es)) (ne_eqb k j other) ∙ sym (ap (λ b. get_if b e.value (get j es)) (ne_eqb e.key j (λ p. other (compare_eq k e.key q ∙ p))))
      by Ordering.gt q rest = ap (λ o. get_if (eqb e.key j) e.value o) rest

module _ {A : Type 0} (f : A → ℕ) where
  -- the new value is one of those summed
  pub total_insert : (k : ℕ) (v : A) (es : List (Entry A)) → f v ≤ total f (insert k v es)
  unfolding total insert
  total_insert k v [] = omega arith
  total_insert k v (e ∷ es) = by (compare k e.key) (total_insert k v es)
    where
      by : (o : Ordering) → f v ≤ total f (insert k v es) → f v ≤ total f (insert_by o (k ⇒ v) e es (insert k v es))
      by Ordering.lt h = omega arith
      by Ordering.eq h = omega arith
      by Ordering.gt h = omega arith

  pub total_remove : (k : ℕ) (es : List (Entry A)) → total f (remove k es) ≤ total f es
  unfolding total remove
  total_remove k [] = omega arith
  total_remove k (e ∷ es) = by (eqb e.key k) (total_remove k es)
    where
      by : (b : Bool) → total f (remove k es) ≤ total f es → total f (remove_if b e es (remove k es)) ≤ f e.value + total f es
      by true h = omega arith
      by false h = omega arith

  pub total_update : (k : ℕ) (g : A → A) → ((v : A) → f (g v) ≤ f v) → (es : List (Entry A)) → total f (update k g es) ≤ total f es
  unfolding total update
  total_update k g less [] = omega arith
  total_update k g less (e ∷ es) = omega (arith, by (eqb e.key k), total_update k g less es)
    where
      by : (b : Bool) → f (update_if b g e.value) ≤ f e.value
      by true = less e.value
      by false = omega arith
