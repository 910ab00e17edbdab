-- What is left of `link_records`, by the invariant of Invariants.antt. Assumes nothing.
use mathlib.Core.Path.{refl, sym, ◌∙◌}
use native.Mathlib.Omega.{arith}
use Rattle.root_block.proofs.LinkLaws.{linked_all-turn, linked_all_end}
use Rattle.root_block.proofs.link_records.Goals as goal

pub loop-i-preserved : goal.loop-i-preserved
loop-i-preserved c =
    let l = c.loop-i.invariant in
    let put = c.link_record.ensures in (
      omega arith,
      record { same = put.same ∙ l.1.same; bytes = put.bytes ∙ l.1.bytes; rest = λ j le. put.rest j (omega (arith, l.1.same)) ∙ l.1.rest j le; cells = refl },
      linked_all-turn _ _ _ c.loop-i-test.true put.cells ∙ l.2,
    )

pub returns : goal.returns
returns c =
    let l = c.loop-i.invariant in
    record { same = l.1.same; bytes = l.1.bytes; rest = l.1.rest; cells = sym (linked_all_end _ _ c.loop-i-test.false) ∙ l.2 }
