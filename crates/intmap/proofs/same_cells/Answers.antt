-- What is left of `same_cells`. Assumes nothing.
use Rattle.std.proofs.Common.{◌≡◌, ◌+◌, ℕ, get_or, refl, arith, rules, tests}
use Rattle.std.proofs.lemmas.Iterator.{cases_from_all, YieldsList-from_range}
use Rattle.area.specs.Cells.{blank, cells}
use Rattle.intmap.proofs.BelowLaws.{all_below}
use Rattle.intmap.proofs.EqualLaws.{cells_all}
use Rattle.intmap.proofs.same_cells.Goals as goal

pub returns : goal.returns
returns c =
    let a = c.args in
    let same = λ (k : ℕ). get_or (cells a.area.now) (a.a + k) blank ≡ get_or (cells a.area.now) (a.b + k) blank in
    cells_all _ _ _ _ _ (all_below same (λ k. same k → ⊥) a.n _ (cases_from_all _ _ _ same (λ k. same k → ⊥) c.all.ensures.ran (YieldsList-from_range 0 a.n a.n refl (omega arith)) (λ x q k. search (rules, tests)) (λ x q k. search (rules, tests))))
