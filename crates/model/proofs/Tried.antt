-- What is done twice alike is the same; a property of what is tried, unless it is refused, and how it passes through `>>=`. Assumes nothing.
use mathlib.Core.Path.{◌≡◌, subst}
use Prim.Native.Nat.{ℕ}
use Rattle.model.specs.Walk.{Tried, refused, done}
use Rattle.model.specs.Access.{◌>>=◌}

pub done-same : {A : Type 0} {a b : A} → done a ≡ done b → a ≡ b
done-same e = cc

pub data Kept {A : Type 0} (P : A → Type 0) : Tried A → Type 0 where
  refusal : {k : ℕ} → Kept P (refused k)
  value : {a : A} → P a → Kept P (done a)

infixl 20 ◌>>◌
pub ◌>>◌ : {A B : Type 0} {P : A → Type 0} {Q : B → Type 0} {t : Tried A} {f : A → Tried B} → Kept P t → ((a : A) → P a → Kept Q (f a)) → Kept Q (t >>= f)
refusal >> g = refusal
value {a = a} p >> g = g a p

pub anything : {A : Type 0} (t : Tried A) → Kept (λ a. Unit {0}) t
anything (refused k) = refusal
anything (done a) = value tt

abbrev KeptAt : {A : Type 0} → (A → Type 0) → Tried A → Type 0
KeptAt P (refused k) = Unit {0}
KeptAt P (done a) = P a

at : {A : Type 0} {P : A → Type 0} {t : Tried A} → Kept P t → KeptAt P t
at refusal = tt
at (value p) = p

pub kept : {A : Type 0} {P : A → Type 0} {t : Tried A} {a : A} → Kept P t → t ≡ done a → P a
kept {P = P} h e = subst (KeptAt P) e (at h)
