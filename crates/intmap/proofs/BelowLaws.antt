-- What `all` answers over the numbers below n: that it is so of each, or that it is not of one. Assumes nothing.
use Rattle.std.proofs.Common.{◌<◌, ℕ, Bool, true, false, length, subst, ◌∙◌, arith}
use Rattle.std.proofs.Math.Nat.{zero-add}
use Rattle.std.specs.Bool.{MatchBool}
use Rattle.std.specs.List.{AllWithin, HoldsAt, range_with_len}
use Rattle.std.proofs.lemmas.List.FromFn.{get_or-range_with_len, length-range_with_len}

module _ (Yes No : ℕ → Type 0) (n : ℕ) where
  pub all_below : (r : Bool) → MatchBool r (AllWithin Yes (range_with_len 0 n) 0 (length (range_with_len 0 n))) ((k : ℕ) × (k < length (range_with_len 0 n)) × HoldsAt No (range_with_len 0 n) k) → MatchBool r ((k : ℕ) → k < n → Yes k) ((k : ℕ) × (k < n) × No k)
  all_below true h = λ k lt. subst Yes (get_or-range_with_len 0 n k 0 lt ∙ zero-add k) (h k 0 (omega arith) (omega (arith, lt, length-range_with_len 0 n)))
  all_below false h =
      let lt : h.0 < n = omega (arith, h.1, length-range_with_len 0 n) in
      (h.0, lt, subst No (get_or-range_with_len 0 n h.0 0 lt ∙ zero-add h.0) (h.2 0))
