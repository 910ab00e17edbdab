-- What is left of `are_plain`. Assumes nothing.
use Rattle.std.proofs.Common.{◌≡◌, ◌+◌, ℕ, get_or, refl, arith, rules, tests}
use Rattle.std.proofs.lemmas.Iterator.{cases_from_all, YieldsList-from_range}
use Rattle.area.specs.Cells.{blank, cells}
use Rattle.intmap.specs.Pack.{tag_of}
use Rattle.intmap.proofs.BelowLaws.{all_below}
use Rattle.intmap.proofs.OverLaws.{are_plain}
use Rattle.intmap.proofs.are_plain.Goals as goal

pub returns : goal.returns
returns c =
    let a = c.args in
    let record_at = λ (k : ℕ). tag_of (get_or (cells a.area.now) (a.at + k) blank) ≡ 2 in
    are_plain _ _ _ _ (all_below (λ k. record_at k → ⊥) record_at a.n _ (cases_from_all _ _ _ (λ k. record_at k → ⊥) record_at c.all.ensures.ran (YieldsList-from_range 0 a.n a.n refl (omega arith)) (λ x q k. search (rules, tests)) (λ x q k. search (rules, tests))))
