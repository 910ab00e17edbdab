-- Laws of readers: how `Exactly` and `Takes` follow for a reader that is put together from others. Assumes nothing.
use mathlib.Core.Path.{◌≡◌, refl, sym, ap, ◌∙◌, subst}
use mathlib.Core.Logic.{◌↔◌}
use mathlib.Core.Bool.{Bool, true, false, false≢true}
use Rattle.std.specs.Prelude.{Option, None, Some}
use mathlib.Core.List.{List, [], ◌∷◌, ◌++◌, append_assoc, append-nil}
use Prim.Native.Nat.{ℕ}
use Rattle.type_info.specs.Ascii.{equals}
use Rattle.type_info.proofs.Words.{same_equals}
use Rattle.model.specs.Reader.{◌then◌, only_if, ended, read_if, this_or, read_name, Reader, ◌>>=◌, given, give, whole}
use Rattle.model.specs.TextClaims.{Exactly, Takes}
use Rattle.model.proofs.TestLaws.{cases}

-- no condition
abbrev pub Any : {A : Type 0} → A → Type 0
Any a = Unit

-- what a result says of its parts
pub never : {A P : Type 0} {a : A} → None ≡ Some a → P
never e = cc

pub some_same : {A : Type 0} {a b : A} → Some a ≡ Some b → a ≡ b
some_same e = cc

pub then_some : {A B P : Type 0} {f : A → Option B} {b : B} (o : Option A) → (o then f) ≡ Some b → ((a : A) → o ≡ Some a → f a ≡ Some b → P) → P
then_some None e next = never e
then_some (Some a) e next = next a refl e

pub only_if-true : {A : Type 0} {b : Bool} {o : Option A} → b ≡ true → only_if b o ≡ o
only_if-true {o = o} e = ap (λ x. only_if x o) e

pub only_if-some : {A : Type 0} {a : A} (b : Bool) {o : Option A} → only_if b o ≡ Some a → (b ≡ true) × (o ≡ Some a)
only_if-some true e = (refl, e)
only_if-some false e = never e

-- Readers of whole texts.
module _ {A : Type 0} {read : List ℕ → Option A} {Valid : A → Type 0} {print : A → List ℕ} where
  pub exactly : ((v : A) → Valid v → read (print v) ≡ Some v) → ((t : List ℕ) (v : A) → read t ≡ Some v → Valid v × (t ≡ print v)) → Exactly read Valid print
  exactly reads only = record { is = λ t v. (only t v, λ h. ap read h.1 ∙ reads v h.0) }

  pub reads : Exactly read Valid print → {v : A} → Valid v → read (print v) ≡ Some v
  reads e {v} h = (e.is (print v) v).1 (h, refl)

  pub only : Exactly read Valid print → {t : List ℕ} {v : A} → read t ≡ Some v → Valid v × (t ≡ print v)
  only e {t} {v} h = (e.is t v).0 h

-- with a test on what is read
module _ {A : Type 0} {read : List ℕ → Option A} {Valid : A → Type 0} {print : A → List ℕ} where
  pub if_exact : {Wanted : A → Type 0} {test : A → Bool} → Exactly read Valid print → ((a : A) → (Valid a × (test a ≡ true)) ↔ Wanted a) → Exactly (read_if test read) Wanted print
  unfolding read_if
  if_exact {test = test} e w = exactly
      (λ v h. let g = (w v).1 h in ap (λ o. o then λ a. only_if (test a) (Some a)) (reads e g.0) ∙ only_if-true g.1)
      (λ t v h. then_some (read t) h λ a is kept.
      let (passed, same) = only_if-some (test a) kept in
      let here = only e (is ∙ same) in
      ((w v).0 (here.0, ap test (sym (some_same same)) ∙ passed), here.1))

module _ {A : Type 0} (name : A → List ℕ) where
  name_only : (list : List A) (t : List ℕ) (v : A) → read_name name list t ≡ Some v → t ≡ name v
  unfolding read_name
  name_only [] t v e = never e
  name_only (a ∷ list) t v e =
      cases (equals (name a) t)
      (λ y. sym (same_equals (name a) t y) ∙ ap name (some_same (ap (λ b. this_or b a (read_name name list t)) (sym y) ∙ e)))
      (λ y. name_only list t v (ap (λ b. this_or b a (read_name name list t)) (sym y) ∙ e))

  -- a value by its name
  pub name_exact : (list : List A) → ((a : A) → read_name name list (name a) ≡ Some a) → Exactly (read_name name list) Any name
  name_exact list found = exactly (λ v _. found v) (λ t v e. (tt, name_only list t v e))

-- Readers of what stands first. A reader yields b from a text, whatever stands behind it; what it gives from a text has a property.
pub record Yields {A : Type 0} (r : Reader A) (s : List ℕ) (b : A) : Type 0 where
  pub is : (u : List ℕ) → r (s ++ u) ≡ Some (b, u)

pub record Gives {A : Type 0} (r : Reader A) (Q : A → List ℕ → List ℕ → Type 0) : Type 0 where
  pub is : (t : List ℕ) (b : A) (u : List ℕ) → r t ≡ Some (b, u) → Q b t u

module _ {A : Type 0} {r : Reader A} {Valid : A → Type 0} {print : A → List ℕ} where
  pub takes_from : ((v : A) → Valid v → Yields r (print v) v) → Gives r (λ v t u. Valid v × (t ≡ print v ++ u)) → Takes r Valid print
  takes_from y g = record { is = λ t v u. (g.is t v u, λ h. ap r h.1 ∙ (y v h.0).is u) }

  pub yields : Takes r Valid print → {v : A} → Valid v → Yields r (print v) v
  yields law {v} h = record { is = λ u. (law.is (print v ++ u) v u).1 (h, refl) }

  pub gives : {Q : A → List ℕ → List ℕ → Type 0} → Takes r Valid print → ((v : A) → Valid v → (u : List ℕ) → Q v (print v ++ u) u) → Gives r Q
  gives {Q} law q = record { is = λ t v u e. let (valid, split) = (law.is t v u).0 e in subst (λ s. Q v s u) (sym split) (q v valid u) }

-- the whole text
module _ {A : Type 0} {r : Reader A} {Valid : A → Type 0} {print : A → List ℕ} where
  pub whole_exact : Takes r Valid print → Exactly (whole r) Valid print
  unfolding whole
  whole_exact law = exactly
      (λ v h. ap (λ s. whole r s) (sym (append-nil (print v))) ∙ ap (λ o. o then λ x. only_if (ended x.1) (Some x.0)) ((yields law h).is []))
      (λ t v e. then_some (r t) e λ x is kept.
      let (over, same) = only_if-some (ended x.1) kept in
      let here = (law.is t x.0 x.1).0 is in
      let v-is = some_same same in
      (subst Valid v-is here.0, here.1 ∙ ap (λ s. print x.0 ++ s) (nothing x.1 over) ∙ append-nil (print x.0) ∙ ap print v-is))
    where
      nothing : (s : List ℕ) → ended s ≡ true → s ≡ []
      nothing [] e = refl
      nothing (b ∷ s) e = absurd (false≢true e)

pub yields_as : {A : Type 0} {r : Reader A} {s s' : List ℕ} {a : A} → s ≡ s' → Yields r s a → Yields r s' a
yields_as {r = r} {a = a} e y = subst (λ x. Yields r x a) e y

-- nothing taken
module _ {A : Type 0} {o : Option A} where
  pub given_yields : {a : A} → o ≡ Some a → Yields (given o) [] a
  unfolding given
  given_yields e = record { is = λ u. ap (λ x. x then λ a. Some (a, u)) e }

  pub given_gives : {Q : A → List ℕ → List ℕ → Type 0} → ((a : A) → o ≡ Some a → (u : List ℕ) → Q a u u) → Gives (given o) Q
  unfolding given
  given_gives {Q} q = record {
    is = λ t b u e.
        then_some o e λ a is pair.
        let same : ◌≡◌ {A = A × List ℕ} (a, t) (b, u) = some_same pair in
        subst (λ (x : A × List ℕ). Q x.0 t x.1) same (q a is t);
  }

module _ {A : Type 0} where
  pub give_yields : {a : A} → Yields (give a) [] a
  give_yields = given_yields refl

  pub give_gives : {Q : A → List ℕ → List ℕ → Type 0} (a : A) → ((u : List ℕ) → Q a u u) → Gives (give a) Q
  give_gives {Q} a q = given_gives λ b e u. subst (λ x. Q x u u) (some_same e) (q u)

-- one reader, then another
module _ {A B : Type 0} {r : Reader A} {Valid : A → Type 0} {print : A → List ℕ} (law : Takes r Valid print) (f : A → Reader B) where
  pub then_yields : {a : A} {b : B} {s : List ℕ} → Valid a → Yields (f a) s b → Yields (r >>= f) (print a ++ s) b
  unfolding ◌>>=◌
  then_yields {a} {b} {s} h y = record {
    is = λ u.
        ap (r >>= f) (append_assoc (print a) s u) ∙ ap (λ o. o then λ x. f x.0 x.1) ((yields law h).is (s ++ u)) ∙ y.is u;
  }

  pub then_gives : {Q : B → List ℕ → List ℕ → Type 0} → ((a : A) → Valid a → Gives (f a) (λ b t u. Q b (print a ++ t) u)) → Gives (r >>= f) Q
  unfolding ◌>>=◌
  then_gives {Q} q = record {
    is = λ t b u e.
        then_some (r t) e λ x is more.
        let here = (law.is t x.0 x.1).0 is in
        subst (λ s. Q b s u) (sym here.1) ((q x.0 here.0).is x.1 b u more);
  }
