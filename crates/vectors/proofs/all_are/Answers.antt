-- `all_are`: where each byte is the one before it, each is the first. Assumes nothing.
use mathlib.Core.Path.{refl, sym, ap, subst, ◌∙◌}
use native.Mathlib.Omega.{arith}
use lib.Pointwise.{pointwise}
use Rattle.std.proofs.Math.Seq.{take-length}
use Rattle.std.proofs.Common.{◌≡◌, Bool, true, ℕ, suc, zero, ◌-◌, ◌<◌, ◌≤◌, List, [], ◌∷◌, length, take, drop, IsTrue, nat_eq, slice_index_or}
use Rattle.std.proofs.lemmas.Bool.{eqb-true}
use Rattle.intmap.proofs.RunLaws.{and_left, and_right}
use Rattle.vectors.proofs.all_are.Goals as goal

steps : (x : ℕ) (xs : List ℕ) → pointwise nat_eq xs (take (length xs) (x ∷ xs)) ≡ true → (k d : ℕ) → k < suc (length xs) → slice_index_or (x ∷ xs) k d ≡ x
steps x xs e zero d lt = refl
steps x [] e (suc k) d lt = absurd (omega arith)
steps x (y ∷ ys) e (suc k) d lt = steps y ys (and_right (nat_eq y x) _ e) k d (omega arith) ∙ eqb-true y x (and_left (nat_eq y x) _ e)

same : (s : List ℕ) (byte : ℕ) (r : Bool) → 1 ≤ length s → slice_index_or s 0 0 ≡ byte → r ≡ pointwise nat_eq (take (length s - 1) (drop 1 s)) (take (length (take (length s - 1) (drop 1 s))) s) → IsTrue r → (k d : ℕ) → k < length s → slice_index_or s k d ≡ byte
same [] byte r h e is t k d lt = absurd (omega arith)
same (x ∷ xs) byte r h e is t k d lt =
    let whole : take (length (x ∷ xs) - 1) xs ≡ xs = ap (λ n. take n xs) (omega arith) ∙ take-length xs in
    steps x xs (subst (λ l. pointwise nat_eq l (take (length l) (x ∷ xs)) ≡ true) whole (sym is ∙ t)) k d lt ∙ e

pub returns-then-first-byte : goal.returns-then-first-byte
returns-then-first-byte c = same _ _ _ c.in-len1-up.len_at_least c.if-first-byte.true c.eq.ensures
