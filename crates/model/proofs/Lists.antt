-- Elements of a list and their places. Assumes nothing.
use mathlib.Core.Path.{◌≡◌, ap}
use mathlib.Core.Logic.{inl, inr}
use Rattle.std.specs.Prelude.{Some, slice_get}
use Rattle.std.proofs.lemmas.Option.{none-some, same_Some}
use mathlib.Core.List.{List, [], ◌∷◌}
use Prim.Native.Nat.{ℕ, zero, suc}
use Rattle.model.specs.Walk.{◌∈◌}

pub element_at : {A : Type 0} (xs : List A) (k : ℕ) (x : A) → slice_get xs k ≡ Some x → x ∈ xs
element_at [] k x e = none-some _ e
element_at (y ∷ ys) zero x e = inl (same_Some _ _ e)
element_at (y ∷ ys) (suc k) x e = inr (element_at ys k x e)

pub place_of : {A : Type 0} (xs : List A) (x : A) → x ∈ xs → (k : ℕ) × (slice_get xs k ≡ Some x)
place_of [] x h = absurd h
place_of (y ∷ ys) x (inl e) = (zero, ap Some e)
place_of (y ∷ ys) x (inr h) = let p = place_of ys x h in (suc p.0, p.1)
