-- A map of the walk and its runs: `get`, `insert`, `remove` and `update` on the one are `lookup` and `swap` on the other, for values of any
-- type with a run under each key, and for any class. Assumes nothing.
use mathlib.Core.Path.{◌≡◌, refl, sym, ap, ap₂, ◌∙◌}
use mathlib.Core.Bool.{Bool, true, false}
use Rattle.std.specs.Prelude.{Option, None, Some, option_map}
use Rattle.std.proofs.lemmas.Option.{none-some, same_Some}
use mathlib.Core.List.{List, [], ◌∷◌}
use Prim.Native.Nat.{ℕ, suc, ◌<◌, ◌≤◌, compare, Ordering}
use native.Mathlib.Omega.{arith}
use lib.Dec.{eqb}
use borrow.Author.Tests.{eq-eqb, ne_eqb}
use Rattle.model.specs.IntMap.{Entry, ◌⇒◌, get_if, get, insert_by, insert, remove_if, remove, update_if, update, Rising}
use Rattle.model.specs.Good.{OnSome}
use Rattle.model.proofs.IntMap.{compare_lt, compare_eq, compare_gt}
use Rattle.area.specs.declared.Cell.{Cell}
use Rattle.intmap.specs.Pack.{class_key}
use Rattle.intmap.specs.Entries.{Runs, key_run}
use Rattle.encoding.specs.Encode.{run_map}
use Rattle.intmap.specs.Swap.{swap, lookup}
use Rattle.intmap.proofs.SwapLaws.{From, Under, swap_less, swap_same, swap_from, lookup_less, lookup_same, lookup_from}

-- a key and the first entry of a map
module _ {A : Type 0} (k : ℕ) (e : Entry A) (es : List (Entry A)) where
  module _ (h : e.key ≡ k) where
    pub get_first : get k (e ∷ es) ≡ Some e.value
    unfolding get
    get_first = ap (λ b. get_if b e.value (get k es)) (eq-eqb e.key k h)

    remove_first : remove k (e ∷ es) ≡ es
    unfolding remove
    remove_first = ap (λ b. remove_if b e es (remove k es)) (eq-eqb e.key k h)

    update_first : (f : A → A) → update k f (e ∷ es) ≡ e.key ⇒ f e.value ∷ update k f es
    unfolding update
    update_first f = ap (λ b. e.key ⇒ update_if b f e.value ∷ update k f es) (eq-eqb e.key k h)

  module _ (h : e.key ≡ k → ⊥) where
    pub get_other : get k (e ∷ es) ≡ get k es
    unfolding get
    get_other = ap (λ b. get_if b e.value (get k es)) (ne_eqb e.key k h)

    remove_other : remove k (e ∷ es) ≡ e ∷ remove k es
    unfolding remove
    remove_other = ap (λ b. remove_if b e es (remove k es)) (ne_eqb e.key k h)

    update_other : (f : A → A) → update k f (e ∷ es) ≡ e ∷ update k f es
    unfolding update
    update_other f = ap (λ b. e.key ⇒ update_if b f e.value ∷ update k f es) (ne_eqb e.key k h)

module _ {A : Type 0} (P : ℕ → A → Type 0) (k : ℕ) where
  -- every key is above k
  pub get_past : (low : ℕ) (es : List (Entry A)) → k < low → Rising P low es → get k es ≡ None
  unfolding get
  get_past low [] h s = refl
  get_past low (e ∷ es) h s = get_other k e es (omega (arith, s.0)) ∙ get_past (suc e.key) es (omega (arith, s.0)) s.2

  remove_past : (low : ℕ) (es : List (Entry A)) → k < low → Rising P low es → remove k es ≡ es
  unfolding remove
  remove_past low [] h s = refl
  remove_past low (e ∷ es) h s = remove_other k e es (omega (arith, s.0)) ∙ ap (λ l. e ∷ l) (remove_past (suc e.key) es (omega (arith, s.0)) s.2)

  -- what is absent stays absent, and what is present is overwritten
  pub update_absent : (f : A → A) (es : List (Entry A)) → get k es ≡ None → update k f es ≡ es
  unfolding update get
  update_absent f [] g = refl
  update_absent f (e ∷ es) g = by (eqb e.key k) g (update_absent f es)
    where
      by : (b : Bool) → get_if b e.value (get k es) ≡ None → (get k es ≡ None → update k f es ≡ es) → e.key ⇒ update_if b f e.value ∷ update k f es ≡ e ∷ es
      by true g rest = absurd (none-some e.value (sym g))
      by false g rest = ap (λ l. e ∷ l) (rest g)

  pub update_present : (f : A → A) (v : A) (low : ℕ) (es : List (Entry A)) → Rising P low es → get k es ≡ Some v → update k f es ≡ insert k (f v) es
  unfolding insert
  update_present f v low [] s g = absurd (none-some v (unfold get in g))
  update_present f v low (e ∷ es) s g = by (compare k e.key) refl (update_present f v (suc e.key) es s.2)
    where
      by : (o : Ordering) → compare k e.key ≡ o → (get k es ≡ Some v → update k f es ≡ insert k (f v) es) → update k f (e ∷ es) ≡ insert_by o (k ⇒ f v) e es (insert k (f v) es)
      by Ordering.lt c rest = absurd (none-some v (sym (get_past e.key (e ∷ es) (compare_lt k e.key c) (omega arith, s.1, s.2)) ∙ g))
      by Ordering.eq c rest =
          let q : e.key ≡ k = sym (compare_eq k e.key c) in
          let w : e.value ≡ v = same_Some e.value v (sym (get_first k e es q) ∙ g) in
          update_first k e es q f ∙ ap₂ (λ x y. x ∷ y) (ap₂ (λ x y. x ⇒ f y) q w) (update_absent f es (get_past (suc e.key) es (omega arith) s.2))
      by Ordering.gt c rest =
          let n : e.key ≡ k → ⊥ = omega (arith, compare_gt k e.key c) in
          update_other k e es n f ∙ ap (λ l. e ∷ l) (rest (sym (get_other k e es n) ∙ g))

  -- a change that leaves what is there as it is
  update_none : (es : List (Entry A)) → update k (λ v. v) es ≡ es
  unfolding update
  update_none [] = refl
  update_none (e ∷ es) = ap₂ (λ v l. e.key ⇒ v ∷ l) (by (eqb e.key k)) (update_none es)
    where
      by : (b : Bool) → update_if b (λ v. v) e.value ≡ e.value
      by true = refl
      by false = refl

  pub update_fixed : (f : A → A) (low : ℕ) (es : List (Entry A)) → Rising P low es → OnSome (λ v. f v ≡ v) (get k es) → update k f es ≡ es
  update_fixed f low es s h = by (get k es) refl h
    where
      by : (o : Option A) → get k es ≡ o → OnSome (λ v. f v ≡ v) o → update k f es ≡ es
      by None g h = update_absent f es g
      by (Some v) g h = update_present f v low es s g ∙ ap (λ x. insert k x es) h ∙ sym (update_present (λ v. v) v low es s g) ∙ update_none es

-- runs under keys that rise with the entries' own, and what a search finds among them
module _ {A : Type 0} (run : ℕ → A → List Cell) (keyed : (key : ℕ) (v : A) → key_run (run key v) ≡ key) (at : ℕ → ℕ) where
  abbrev pub runs_by : List (Entry A) → Runs
  runs_by [] = []
  runs_by (e ∷ es) = run (at e.key) e.value ∷ runs_by es

  pub insert_by_lem : ((i j : ℕ) → i < j → at i < at j) → (k : ℕ) (v : A) (es : List (Entry A)) → swap (at k) (run (at k) v ∷ []) (runs_by es) ≡ runs_by (insert k v es)
  unfolding insert
  insert_by_lem rises k v [] = swap_from (at k) (run (at k) v ∷ []) [] tt
  insert_by_lem rises k v (e ∷ es) = by (compare k e.key) refl (insert_by_lem rises k v es)
    where
      key : key_run (run (at e.key) e.value) ≡ at e.key
      key = keyed (at e.key) e.value

      by : (o : Ordering) → compare k e.key ≡ o → swap (at k) (run (at k) v ∷ []) (runs_by es) ≡ runs_by (insert k v es)
          → swap (at k) (run (at k) v ∷ []) (run (at e.key) e.value ∷ runs_by es) ≡ runs_by (insert_by o (k ⇒ v) e es (insert k v es))
      by Ordering.lt c rest = swap_from (at k) _ _ (omega (arith, key, rises k e.key (compare_lt k e.key c)))
      by Ordering.eq c rest = swap_same (at k) _ _ (key ∙ ap at (sym (compare_eq k e.key c))) _
      by Ordering.gt c rest = swap_less (at k) _ _ (omega (arith, key, rises e.key k (compare_gt k e.key c))) _ ∙ ap (λ l. run (at e.key) e.value ∷ l) rest

  module _ (rises : (i j : ℕ) → i < j → at i < at j) (k : ℕ) (P : ℕ → A → Type 0) where
    pub lookup_by : (low : ℕ) (es : List (Entry A)) → Rising P low es → lookup (at k) (runs_by es) ≡ option_map (run (at k)) (get k es)
    lookup_by low [] s = lookup_from (at k) [] tt ∙ ap (option_map (run (at k))) (sym (get_past P k (suc k) [] (omega arith) tt))
    lookup_by low (e ∷ es) s = by (compare k e.key) refl (lookup_by (suc e.key) es s.2)
      where
        by : (o : Ordering) → compare k e.key ≡ o → lookup (at k) (runs_by es) ≡ option_map (run (at k)) (get k es)
            → lookup (at k) (run (at e.key) e.value ∷ runs_by es) ≡ option_map (run (at k)) (get k (e ∷ es))
        by Ordering.lt c rest =
            let h = compare_lt k e.key c in
            lookup_from (at k) _ (omega (arith, keyed (at e.key) e.value, rises k e.key h)) ∙ ap (option_map (run (at k))) (sym (get_past P k e.key (e ∷ es) h (omega arith, s.1, s.2)))
        by Ordering.eq c rest =
            let h = compare_eq k e.key c in
            lookup_same (at k) _ _ (keyed (at e.key) e.value ∙ ap at (sym h)) ∙ ap (λ x. Some (run (at x) e.value)) (sym h) ∙ ap (option_map (run (at k))) (sym (get_first k e es (sym h)))
        by Ordering.gt c rest =
            let h = compare_gt k e.key c in
            lookup_less (at k) _ _ (omega (arith, keyed (at e.key) e.value, rises e.key k h)) ∙ rest ∙ ap (option_map (run (at k))) (sym (get_other k e es (omega arith)))

module _ {A : Type 0} (run : ℕ → A → List Cell) (keyed : (key : ℕ) (v : A) → key_run (run key v) ≡ key) (class : ℕ) where
  map_by : (es : List (Entry A)) → runs_by run keyed (class_key class) es ≡ run_map run class es
  unfolding run_map
  map_by [] = refl
  map_by (e ∷ es) = ap (λ l. run (class_key class e.key) e.value ∷ l) (map_by es)

  -- an entry's run, and its key
  abbrev run_entry : Entry A → List Cell
  run_entry e = run (class_key class e.key) e.value

  entry_key : (e : Entry A) → key_run (run_entry e) ≡ class_key class e.key
  entry_key e = keyed (class_key class e.key) e.value

  pub from_map : (low : ℕ) (es : List (Entry A)) → low ≤ class_key class 0 → From low (run_map run class es)
  unfolding run_map
  from_map low [] h = tt
  from_map low (e ∷ es) h = omega (arith, entry_key e)

  pub under_map : (Q : A → Type 0) (high low : ℕ) (es : List (Entry A)) → class_key class 65536 ≤ high → Rising (λ k v. (k ≤ 65535) × Q v) low es → Under high (run_map run class es)
  unfolding run_map
  under_map Q high low [] h s = tt
  under_map Q high low (e ∷ es) h s = (omega (arith, s.1.0, entry_key e), under_map Q high (suc e.key) es h s.2)

  module _ (k : ℕ) where
    abbrev its : ℕ
    its = class_key class k

    pub insert_map : (v : A) (es : List (Entry A)) → swap (class_key class k) (run (class_key class k) v ∷ []) (run_map run class es) ≡ run_map run class (insert k v es)
    insert_map v es = ap (swap its (run its v ∷ [])) (sym (map_by es)) ∙ insert_by_lem run keyed (class_key class) (λ i j lt. omega arith) k v es ∙ map_by (insert k v es)

    module _ (P : ℕ → A → Type 0) where
      pub lookup_map : (low : ℕ) (es : List (Entry A)) → Rising P low es → lookup (class_key class k) (run_map run class es) ≡ option_map (run (class_key class k)) (get k es)
      lookup_map low es s = ap (lookup its) (sym (map_by es)) ∙ lookup_by run keyed (class_key class) (λ i j lt. omega arith) k P low es s

      pub remove_map : (low : ℕ) (es : List (Entry A)) → Rising P low es → swap (class_key class k) [] (run_map run class es) ≡ run_map run class (remove k es)
      unfolding run_map
      remove_map low [] s = swap_from its [] [] tt ∙ ap (run_map run class) (sym (remove_past P k (suc k) [] (omega arith) tt))
      remove_map low (e ∷ es) s = by (compare k e.key) refl (remove_map (suc e.key) es s.2)
        where
          by : (o : Ordering) → compare k e.key ≡ o → swap its [] (run_map run class es) ≡ run_map run class (remove k es)
              → swap its [] (run_entry e ∷ run_map run class es) ≡ run_map run class (remove k (e ∷ es))
          by Ordering.lt c rest =
              let h = compare_lt k e.key c in
              swap_from its [] _ (omega (arith, entry_key e)) ∙ ap (run_map run class) (sym (remove_past P k e.key (e ∷ es) h (omega arith, s.1, s.2)))
          by Ordering.eq c rest =
              let h = compare_eq k e.key c in
              swap_same its _ _ (omega (arith, entry_key e)) [] ∙ ap (run_map run class) (sym (remove_first k e es (sym h)))
          by Ordering.gt c rest =
              let h = compare_gt k e.key c in
              swap_less its _ _ (omega (arith, entry_key e)) [] ∙ ap (λ l. run_entry e ∷ l) rest ∙ ap (run_map run class) (sym (remove_other k e es (omega arith)))

      pub update_map : (f : A → A) (v : A) (low : ℕ) (es : List (Entry A)) → Rising P low es → get k es ≡ Some v → swap (class_key class k) (run (class_key class k) (f v) ∷ []) (run_map run class es) ≡ run_map run class (update k f es)
      update_map f v low es s g = insert_map (f v) es ∙ ap (run_map run class) (sym (update_present P k f v low es s g))
