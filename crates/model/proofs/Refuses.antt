-- What is tried is done, or refused with a number of which N holds; and how that passes through `>>=`. Assumes nothing.
use mathlib.Core.Path.{◌≡◌, subst}
use Prim.Native.Nat.{ℕ}
use Rattle.model.specs.Walk.{Tried, refused, done}
use Rattle.model.specs.Access.{◌>>=◌}

pub data Refuses (N : ℕ → Type 0) {A : Type 0} : Tried A → Type 0 where
  refusal : {k : ℕ} → N k → Refuses N (refused k)
  value : {a : A} → Refuses N (done a)

infixl 20 ◌>>◌
pub ◌>>◌ : {N : ℕ → Type 0} {A B : Type 0} {t : Tried A} {f : A → Tried B} → Refuses N t → ((a : A) → Refuses N (f a)) → Refuses N (t >>= f)
refusal h >> g = refusal h
value {a = a} >> g = g a

abbrev At : (ℕ → Type 0) → {A : Type 0} → Tried A → Type 0
At N (refused k) = N k
At N (done a) = Unit {0}

at : {N : ℕ → Type 0} {A : Type 0} {t : Tried A} → Refuses N t → At N t
at (refusal h) = h
at value = tt

pub refused_by : {N : ℕ → Type 0} {A : Type 0} {t : Tried A} {k : ℕ} → Refuses N t → t ≡ refused k → N k
refused_by {N = N} h e = subst (At N) e (at h)
