-- Readers in a row: the second reads what the first left. Assumes nothing.
use mathlib.Core.Path.{◌≡◌, refl, sym, ap, ◌∙◌, subst}
use mathlib.Core.Bool.{Bool, true, false}
use Rattle.std.specs.Prelude.{Option, None, Some, OnSome, option_copied, MatchOption}
use Rattle.std.specs.Bool.{then_some}
use denote.Ref.{Bor}
use mathlib.Core.List.{List}
use Prim.Native.Nat.{ℕ, ◌<◌}
use native.Mathlib.Omega.{arith}
use lib.ListN.{length}
use Rattle.model.specs.Reader.{◌then◌, only_if, read_if, Reader, ◌>>=◌, given}
use Rattle.model.specs.Fields.{take_value, take_field}
use Rattle.text.specs.Reads.{with_rest, Reads}

-- what is read, and what is made of it
pub then_then : {A B C : Type 0} (o : Option A) (f : A → Option B) (g : B → Option C) → ((o then f) then g) ≡ (o then λ a. f a then g)
then_then None f g = refl
then_then (Some a) f g = refl

pub then_same : {A B : Type 0} (o : Option A) {f g : A → Option B} → ((a : A) → f a ≡ g a) → (o then f) ≡ (o then g)
then_same None h = refl
then_same (Some a) h = h a

later : {A : Type 0} (o : Option A) (t rest last : List ℕ) → length rest < length t → OnSome o (length last < length rest) → OnSome o (length last < length t)
later None t rest last h k = tt
later (Some x) t rest last h k = omega arith

known : {A : Type 0} (o : Option A) {P : Type 0} → P → OnSome o P
known None p = tt
known (Some x) p = p

-- one reader, then another that takes something, or that takes nothing and gives a value
module _ {A : Type 0} {r : Reader A} {t rest : List ℕ} {o : Option A} (h : Reads r t rest o) where
  pub read_shorter : {a : A} → o ≡ Some a → length rest < length t
  read_shorter e = subst (λ x. OnSome x (length rest < length t)) e h.shorter

  -- where nothing was read, what is left is of no account
  pub read_nothing : {last : List ℕ} → o ≡ None → Reads r t last None
  read_nothing e = record { is = ap (with_rest rest) (sym e) ∙ h.is; shorter = tt }

  module _ {B : Type 0} (f : A → Reader B) where
    then_as : {p : Option A} → o ≡ p → (with_rest rest p then λ y. f y.0 y.1) ≡ (r >>= f) t
    unfolding ◌>>=◌
    then_as e = ap (λ x. with_rest rest x then λ y. f y.0 y.1) (sym e) ∙ ap (λ x. x then λ y. f y.0 y.1) h.is

    pub read_none : {last : List ℕ} → o ≡ None → Reads (r >>= f) t last None
    read_none e = record { is = then_as e; shorter = tt }

    pub read_next : {a : A} {last : List ℕ} {p : Option B} → o ≡ Some a → Reads (f a) rest last p → Reads (r >>= f) t last p
    read_next {p = p} e k = record { is = k.is ∙ then_as e; shorter = later p t rest _ (read_shorter e) k.shorter }

    pub read_given : {a : A} (b : Option B) → o ≡ Some a → f a ≡ given b → Reads (r >>= f) t rest b
    unfolding given
    read_given b e k = record { is = sym (ap (λ g. g rest) k) ∙ then_as e; shorter = known b (read_shorter e) }

-- what is read of a field's value
module _ (key : List ℕ) {t rest : List ℕ} {v : Option (List ℕ)} (h : Reads (take_value key) t rest v) {A : Type 0} (read : List ℕ → Option A) where
  pub no_value : {last : List ℕ} → v ≡ None → Reads (take_field key read) t last None
  unfolding take_field
  no_value e = read_none h _ e

  pub value_read : {bs : List ℕ} (o : Option A) → v ≡ Some bs → o ≡ read bs → Reads (take_field key read) t rest o
  unfolding take_field
  value_read o e k = read_given h (λ value. given (read value)) o e (ap given (sym k))

-- what passes a test
pub some_if : {A : Type 0} (b : Bool) (x : A) → then_some b x ≡ only_if b (Some x)
some_if true x = refl
some_if false x = refl

pub copied_if : (b : Bool) (x : Bor (List ℕ)) → option_copied (then_some b x) ≡ then_some b x.now
copied_if true x = refl
copied_if false x = refl

-- bytes that are kept where they pass a test
module _ (key : List ℕ) {t rest : List ℕ} (test : List ℕ → Bool) {Q : Bor (List ℕ) → Bool → Type 0} (tells : (x : Bor (List ℕ)) (b : Bool) → Q x b → b ≡ test x.now) where
  pub value_kept :
      (v r : Option (Bor (List ℕ))) → Reads (take_value key) t rest (option_copied v) →
      MatchOption v (r ≡ None) (λ x. (b : Bool) × Q x b × (r ≡ then_some b x)) →
      Reads (take_field key (read_if test Some)) t rest (option_copied r)
  unfolding read_if
  value_kept None r h e = subst (λ o. Reads (take_field key (read_if test Some)) t rest (option_copied o)) (sym e) (no_value key h (read_if test Some) refl)
  value_kept (Some x) r h (b, q, e) =
      value_read key h (read_if test Some) (option_copied r) refl (ap option_copied e ∙ copied_if b x ∙ ap (λ u. then_some u x.now) (tells x b q) ∙ some_if (test x.now) x.now)
