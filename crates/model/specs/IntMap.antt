-- Maps from numbers: `IntMap` of intmap.rs as the list of its present entries, keys rising.
-- 01, "The walk": "States are equal when their present entries are equal; absent entries at the end mean nothing." Assumes nothing.
use Rattle.std.specs.Prelude.{Bool, true, false, List, [], ◌∷◌, eqb, Option, None, Some}
use Prim.Native.Nat.{ℕ, suc, ◌+◌, ◌≤◌, compare, Ordering}

pub record Entry (A : Type 0) : Type 0 where
  pub key : ℕ
  pub value : A

module _ {A : Type 0} where
  infix 80 ◌⇒◌
  abbrev pub ◌⇒◌ : ℕ → A → Entry A
  k ⇒ v = record { key = k; value = v }

  abbrev pub get_if : Bool → A → Option A → Option A
  get_if true v rest = Some v
  get_if false v rest = rest

  -- `get`, once the index is judged
  unfoldable pub get : ℕ → List (Entry A) → Option A
  get k [] = None
  get k (e ∷ es) = get_if (eqb e.key k) e.value (get k es)

  abbrev pub insert_by : Ordering → Entry A → Entry A → List (Entry A) → List (Entry A) → List (Entry A)
  insert_by Ordering.lt new e es rest = new ∷ e ∷ es
  insert_by Ordering.eq new e es rest = new ∷ es
  insert_by Ordering.gt new e es rest = e ∷ rest

  -- `insert`: before the first greater key, or in place of the entry with the same key
  unfoldable pub insert : ℕ → A → List (Entry A) → List (Entry A)
  insert k v [] = k ⇒ v ∷ []
  insert k v (e ∷ es) = insert_by (compare k e.key) (k ⇒ v) e es (insert k v es)

  abbrev pub remove_if : Bool → Entry A → List (Entry A) → List (Entry A) → List (Entry A)
  remove_if true e es rest = es
  remove_if false e es rest = e ∷ rest

  -- `remove`
  unfoldable pub remove : ℕ → List (Entry A) → List (Entry A)
  remove k [] = []
  remove k (e ∷ es) = remove_if (eqb e.key k) e es (remove k es)

  abbrev pub update_if : Bool → (A → A) → A → A
  update_if true f v = f v
  update_if false f v = v

  -- a store through `get_mut`: a present value is changed, an absent one stays absent
  unfoldable pub update : ℕ → (A → A) → List (Entry A) → List (Entry A)
  update k f [] = []
  update k f (e ∷ es) = e.key ⇒ update_if (eqb e.key k) f e.value ∷ update k f es

  -- the values under the keys from k on; `from_dense_record` and `from_elem` start at 0
  unfoldable pub numbered : ℕ → List A → List (Entry A)
  numbered k [] = []
  numbered k (v ∷ vs) = k ⇒ v ∷ numbered (suc k) vs

  -- the sum of a number for each value
  unfoldable pub total : (A → ℕ) → List (Entry A) → ℕ
  total f [] = 0
  total f (e ∷ es) = f e.value + total f es

  -- the keys rise strictly, from `low` on at the least, and P holds of each entry
  abbrev pub Rising : (ℕ → A → Type 0) → ℕ → List (Entry A) → Type 0
  Rising P low [] = Unit {0}
  Rising P low (e ∷ es) = (low ≤ e.key) × P e.key e.value × Rising P (suc e.key) es

  abbrev pub Sorted : List (Entry A) → Type 0
  Sorted es = Rising (λ k v. Unit {0}) 0 es
