-- The code's table says what a definition's table says, in whatever order: one law for any table, one for the texts of one length. Assumes nothing.
use mathlib.Core.Path.{◌≡◌, refl, sym, ap, ◌∙◌}
use mathlib.Core.Bool.{Bool, true, false, not, ◌&&◌, ◌||◌, true≢false, and-eq-true_iff}
use Rattle.std.specs.Prelude.{Option, None}
use mathlib.Core.List.{List, [], ◌∷◌, map}
use Prim.Native.Nat.{ℕ}
use denote.Ref.{Bor}
use lib.Dec.{eqb}
use lib.ListN.{length}
use borrow.Author.Tests.{eqb-true, eqb-false}
use Rattle.type_info.specs.Ascii.{ascii, equals, starts_with}
use Rattle.type_info.proofs.Words.{equals_starts, equals_other}
use Rattle.model.specs.IntMap.{get_if}
use Rattle.model.specs.TextTable.{Named, first_for, texts}
use Rattle.model.proofs.TestLaws.{cases}
use Rattle.opcode.specs.Lookup.{named, found_in}
use Rattle.opcode.proofs.Arms.{NoneOf, one_of, others}

-- the texts that start with `text` all start with `word`, or none does
unfoldable settles : List ℕ → List ℕ → Bool
settles text [] = true
settles [] (w ∷ ws) = false
settles (a ∷ text) (w ∷ ws) = not (eqb a w) || settles text ws

settled : (given text word : List ℕ) → starts_with given text ≡ true → settles text word ≡ true → starts_with given word ≡ starts_with text word
unfolding settles starts_with
settled given text [] h k = refl
settled given [] (w ∷ ws) h k = absurd (true≢false (sym k))
settled [] (a ∷ text) (w ∷ ws) h k = absurd (true≢false (sym h))
settled (b ∷ given) (a ∷ text) (w ∷ ws) h k =
    let (first, rest) = (and-eq-true_iff (eqb b a) (starts_with given text)).0 h in
    ap (λ x. eqb x w && starts_with given ws) (eqb-true b a first) ∙ step (eqb a w) k (settled given text ws rest)
  where
    step :
        (x : Bool) →
        (not x || settles text ws) ≡ true →
        (settles text ws ≡ true → starts_with given ws ≡ starts_with text ws) →
        (x && starts_with given ws) ≡ (x && starts_with text ws)
    step true s i = i s
    step false s i = refl

-- so with every text of a table: it has one answer for all that start with `text`
unfoldable settles_each : {A : Type 0} → List ℕ → List (Named A) → Bool
settles_each text [] = true
settles_each text (n ∷ ns) = settles text n.text && settles_each text ns

one_answer :
    {A : Type 0} (given text : List ℕ) (ns : List (Named A)) →
    starts_with given text ≡ true →
    settles_each text ns ≡ true →
    first_for starts_with given ns ≡ first_for starts_with text ns
unfolding settles_each first_for
one_answer given text [] h e = refl
one_answer given text (n ∷ ns) h e =
    let (first, rest) = (and-eq-true_iff (settles text n.text) (settles_each text ns)).0 e in
    ap (λ b. get_if b n.value (first_for starts_with given ns)) (settled given text n.text h first) ∙
    ap (get_if (starts_with text n.text) n.value) (one_answer given text ns h rest)

-- so with every one of some texts, in two tables
unfoldable all_settle : {A C : Type 0} → List (Named A) → List (Named C) → List (List ℕ) → Bool
all_settle es ns [] = true
all_settle es ns (t ∷ ts) = (settles_each t es && settles_each t ns) && all_settle es ns ts

module _ {A : Type 0} where
  -- the texts of one length
  abbrev pub keep_if : Bool → Named A → List (Named A) → List (Named A)
  keep_if true n more = n ∷ more
  keep_if false n more = more

  unfoldable pub of_length : ℕ → List (Named A) → List (Named A)
  of_length l [] = []
  of_length l (n ∷ more) = keep_if (eqb (length n.text) l) n (of_length l more)

  -- among them, to start with a text is to equal it
  pub by_length : (given : List ℕ) (ns : List (Named A)) → first_for starts_with given (of_length (length given) ns) ≡ first_for equals given ns
  unfolding of_length first_for
  by_length given [] = refl
  by_length given (n ∷ ns) =
      cases (eqb (length n.text) (length given))
      (λ e.
      ap (λ b. first_for starts_with given (keep_if b n (of_length (length given) ns))) e ∙
      ap (λ b. get_if b n.value (first_for starts_with given (of_length (length given) ns))) (equals_starts given n.text (sym (eqb-true _ _ e))) ∙
      ap (get_if (equals given n.text) n.value) (by_length given ns))
      (λ e.
      ap (λ b. first_for starts_with given (keep_if b n (of_length (length given) ns))) e ∙
      by_length given ns ∙
      ap (λ b. get_if b n.value (first_for equals given ns)) (equals_other given n.text (λ d. eqb-false _ _ e (sym d))))

  -- every text has one of these lengths
  unfoldable pub lengths_in : List ℕ → List (Named A) → Bool
  lengths_in ks [] = true
  lengths_in ks (n ∷ ns) = one_of (length n.text) ks && lengths_in ks ns

  none_so_long : (ks : List ℕ) (l : ℕ) (ns : List (Named A)) → lengths_in ks ns ≡ true → NoneOf l ks → of_length l ns ≡ []
  unfolding lengths_in of_length
  none_so_long ks l [] e h = refl
  none_so_long ks l (n ∷ ns) e h =
      let (first, rest) = (and-eq-true_iff (one_of (length n.text) ks) (lengths_in ks ns)).0 e in
      ap (λ b. keep_if b n (of_length l ns)) (others l (length n.text) ks h first) ∙ none_so_long ks l ns rest h

-- what becomes of a value of the code, and of one of the definition
module _ {A B C : Type 0} (told_by : Option C → B) (said_by : Option A → B) (nothing : told_by None ≡ said_by None) where
  -- the answers of both tables
  abbrev told : List (Named C) → List ℕ → B
  told es text = told_by (first_for starts_with text es)

  abbrev said : List (Named A) → List ℕ → B
  said ns text = said_by (first_for starts_with text ns)

  -- they are alike for a text that starts with one of those where they are tested
  by_texts :
      {D : Type 0} (es : List (Named C)) (ns : List (Named A)) (given : List ℕ) (ts : List (Named D)) →
      map (told es) (texts ts) ≡ map (said ns) (texts ts) →
      all_settle es ns (texts ts) ≡ true →
      (first_for starts_with given ts ≡ None → told es given ≡ said ns given) →
      told es given ≡ said ns given
  unfolding texts all_settle first_for
  by_texts es ns given [] e s otherwise = otherwise refl
  by_texts es ns given (t ∷ ts) e s otherwise =
      let (both, rest) = (and-eq-true_iff (settles_each t.text es && settles_each t.text ns) (all_settle es ns (texts ts))).0 s in
      let (first, second) = (and-eq-true_iff (settles_each t.text es) (settles_each t.text ns)).0 both in
      let here : told es t.text ≡ said ns t.text = cc in
      let later : map (told es) (texts ts) ≡ map (said ns) (texts ts) = cc in
      cases (starts_with given t.text)
      (λ h. ap told_by (one_answer given t.text es h first) ∙ here ∙ sym (ap said_by (one_answer given t.text ns h second)))
      (λ h. by_texts es ns given ts later rest (λ n. otherwise (ap (λ b. get_if b t.value (first_for starts_with given ts)) h ∙ n)))

  -- the one test of a table: the answers are alike at every text of both, and these settle all others
  unfoldable pub Agrees : List (Bor (List ℕ) × C) → List (Named A) → Type 0
  unfolding named texts first_for starts_with settles settles_each all_settle of_length ascii
  Agrees table ns =
      let es = named table in
      ◌≡◌ {A = List B × List B × Bool}
      (map (told es) (texts es), map (told es) (texts ns), all_settle es ns (texts es) && all_settle es ns (texts ns))
      (map (said ns) (texts es), map (said ns) (texts ns), true)

  module _ (given : List ℕ) (ns : List (Named A)) where
    pub look_up : (table : List (Bor (List ℕ) × C)) {r : Option C} → r ≡ found_in given table → Agrees table ns → told_by r ≡ said ns given
    unfolding found_in Agrees
    look_up table is e =
        let es = named table in
        let (first, second) = (and-eq-true_iff (all_settle es ns (texts es)) (all_settle es ns (texts ns))).0 (ap (λ p. p.2) e) in
        ap told_by is ∙
        by_texts es ns given es (ap (λ p. p.0) e) first
        (λ untold. by_texts es ns given ns (ap (λ p. p.1) e) second
        (λ unsaid. ap told_by untold ∙ nothing ∙ sym (ap said_by unsaid)))

  -- only texts of the given length, or none
  module _ (given : List ℕ) (ns : List (Named A)) where
    pub look_up_length : (table : List (Bor (List ℕ) × C)) (l : ℕ) {r : Option C} → r ≡ found_in given table → length given ≡ l → Agrees table (of_length l ns) → told_by r ≡ said_by (first_for equals given ns)
    look_up_length table l is same e =
        look_up given (of_length l ns) table is e ∙ ap said_by (ap (λ k. first_for starts_with given (of_length k ns)) (sym same) ∙ by_length given ns)

    pub look_up_none : (ks : List ℕ) → lengths_in ks ns ≡ true → NoneOf (length given) ks → told_by None ≡ said_by (first_for equals given ns)
    unfolding first_for
    look_up_none ks e h =
        nothing ∙ ap (λ k. said_by (first_for starts_with given k)) (sym (none_so_long ks (length given) ns e h)) ∙ ap said_by (by_length given ns)
