-- `in_place::next_row` by the range of the operation. Assumes nothing.
use mathlib.Core.Path.{sym, ap, ◌∙◌}
use borrow.Author.Rules.{rules}
use denote.Enum.Bare.{same_true, differs_false}
use Rattle.opcode.specs.Opcode.{arm_of}
use Rattle.opcode.specs.contracts.Operation.{the_type}
use Rattle.opcode.specs.declared.Operation.TheVariants.{Other, Column}
use Rattle.state.proofs.OwnLaws.{then_some_by}
use Rattle.in_place.specs.InPlace.{HandlesNear}
use Rattle.in_place.proofs.HandleLaws.{none_handles, none_of, jump_handles, register_handles, column_handles}
use Rattle.in_place.proofs.next_row.Goals as goal

pub returns-then-eq : goal.returns-then-eq
returns-then-eq c = none_handles (ap arm_of (same_true the_type (search rules) _ Other (sym c.eq.ensures ∙ c.if-eq.true))) c.listed.ensures

pub returns-then-lt : goal.returns-then-lt
returns-then-lt c = jump_handles c.jump.ensures

pub returns-then-lt-2 : goal.returns-then-lt-2
returns-then-lt-2 c =
    rw c.then_some.ensures
    (then_some_by (HandlesNear _ _ _ _ _ _ _ _ _ _) _ (λ t. register_handles c.listed-2.ensures t c.in_ok-next.was c.register.ensures) (λ f. none_of (c.register.ensures.near.no f)))

pub returns : goal.returns
returns c =
    rw c.then_some-2.ensures
    (then_some_by (HandlesNear _ _ _ _ _ _ _ _ _ _) _ (λ t. column_handles (ap arm_of (differs_false the_type (search rules) _ Column (sym c.ne.ensures ∙ c.if-ne.false))) c.listed-2.ensures t c.in_ok-next.was c.column.ensures) (λ f. none_of (c.column.ensures.no f)))
