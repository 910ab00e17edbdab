-- `Walk::handle_row`: handled as far as the operation can give, and followed. Assumes nothing.
use mathlib.Core.Path.{refl, ap, ◌∙◌}
use borrow.Author.Rules.{rules}
use lib.Dec.{ltb}
use Rattle.opcode.specs.declared.Operation.{Operation}
use Rattle.explain.specs.Narrow.{is_falling, is_branching, repeats}
use Rattle.walk.proofs.TurnLaws.{is-byte, test-there, may_handle, handled_turning, operation-here, handled_may, turns_handled, turns_refused, handles_then, falling_walking, turns_falling, falling_refused, falls_then, branching_turning, branching_may, turns_branching, branching_refused, branches_then}
use Rattle.walk.proofs.Walk.handle_row.Goals as goal

pub handle_falling-fallen-requires : goal.handle_falling-fallen-requires
handle_falling-fallen-requires c =
    let may = may_handle c.requires.0.counting.standing.holds _ (is-byte _ c.requires.0.counting.small) (is-byte _ c.requires.0.counting.less) c.requires.0.counting.raised _ c.requires.0.counting.same in
    (may.0, may.1, may.2, may.3, test-there is_falling c.requires.1 c.is_falling.ensures c.if-is_falling.true)

pub go_on-requires : goal.go_on-requires
go_on-requires c = falling_walking c.requires.0.counting.standing _ c.requires.0.counting.charged _ _ (is-byte _ c.requires.0.counting.small) (is-byte _ c.requires.0.counting.less) (search rules) c.requires.0.counting.raised (c.handle_falling-fallen.auto.area ∙ c.requires.0.counting.long) _ refl _ c.requires.0.counting.was (falls_then c.requires.0.counting.same c.handle_falling-fallen.ensures)

pub returns-in-Ok : goal.returns-in-Ok
returns-in-Ok c = record { says = λ xs ys w g. turns_falling g.standing _ g.charged _ _ (is-byte _ g.small) (is-byte _ g.less) (search rules) g.raised (c.handle_falling-fallen.auto.area ∙ g.long) _ refl _ g.was (falls_then g.same c.handle_falling-fallen.ensures) c.in-Ok.is _ _ _ g.few c.go_on.ensures }

pub returns-in-Err : goal.returns-in-Err
returns-in-Err c = record { says = λ xs ys w g. falling_refused g.standing _ g.charged _ _ (is-byte _ g.small) (is-byte _ g.less) (search rules) g.raised (c.handle_falling-fallen.auto.area ∙ g.long) _ refl _ g.was (falls_then g.same c.handle_falling-fallen.ensures) c.in-Err.is g.few }

pub handle_branching-step-requires : goal.handle_branching-step-requires
handle_branching-step-requires c =
    let may = may_handle c.requires.0.counting.standing.holds _ (is-byte _ c.requires.0.counting.small) (is-byte _ c.requires.0.counting.less) c.requires.0.counting.raised _ c.requires.0.counting.same in
    (may.0, may.1, may.2, test-there is_branching c.requires.1 c.is_branching.ensures c.if-is_branching.true)

pub follow_ways-requires : goal.follow_ways-requires
follow_ways-requires c = (branching_turning c.requires.0.counting.standing _ c.requires.0.counting.charged _ _ (is-byte _ c.requires.0.counting.small) (is-byte _ c.requires.0.counting.less) (search rules) c.requires.0.counting.raised (c.handle_branching-step.auto.area ∙ c.requires.0.counting.long) _ refl _ c.requires.0.counting.was (branches_then c.requires.0.counting.same c.handle_branching-step.ensures), branching_may c.requires.0.counting.standing _ c.requires.0.counting.charged _ _ (is-byte _ c.requires.0.counting.small) (is-byte _ c.requires.0.counting.less) (search rules) c.requires.0.counting.raised (c.handle_branching-step.auto.area ∙ c.requires.0.counting.long) _ refl _ c.requires.0.counting.was (branches_then c.requires.0.counting.same c.handle_branching-step.ensures) c.in-Ok-step.is)

pub returns-in-Ok-step : goal.returns-in-Ok-step
returns-in-Ok-step c = record { says = λ xs ys w g. turns_branching g.standing _ g.charged _ _ (is-byte _ g.small) (is-byte _ g.less) (search rules) g.raised (c.handle_branching-step.auto.area ∙ g.long) _ refl _ g.was (branches_then g.same c.handle_branching-step.ensures) c.in-Ok-step.is (c.repeats.ensures ∙ ap (λ (o : Operation). repeats o (ltb 0 c.args.handled)) (operation-here _ _ c.requires.1 g.same)) _ _ _ g.few c.follow_ways.ensures }

pub returns-in-Err-step : goal.returns-in-Err-step
returns-in-Err-step c = record { says = λ xs ys w g. branching_refused g.standing _ g.charged _ _ (is-byte _ g.small) (is-byte _ g.less) (search rules) g.raised (c.handle_branching-step.auto.area ∙ g.long) _ refl _ g.was (branches_then g.same c.handle_branching-step.ensures) c.in-Err-step.is g.few }

pub handle-given-requires : goal.handle-given-requires
handle-given-requires c = may_handle c.requires.0.counting.standing.holds _ (is-byte _ c.requires.0.counting.small) (is-byte _ c.requires.0.counting.less) c.requires.0.counting.raised _ c.requires.0.counting.same

pub follow-requires : goal.follow-requires
follow-requires c = (handled_turning c.requires.0.counting.standing _ c.requires.0.counting.charged _ _ (is-byte _ c.requires.0.counting.small) (is-byte _ c.requires.0.counting.less) (search rules) c.requires.0.counting.raised (c.handle-given.auto.area ∙ c.requires.0.counting.long) _ refl _ _ c.requires.0.counting.was (handles_then c.requires.0.counting.same c.handle-given.ensures), handled_may c.requires.0.counting.standing _ c.requires.0.counting.charged _ _ (is-byte _ c.requires.0.counting.small) (is-byte _ c.requires.0.counting.less) (search rules) c.requires.0.counting.raised (c.handle-given.auto.area ∙ c.requires.0.counting.long) _ refl _ _ c.requires.0.counting.was (handles_then c.requires.0.counting.same c.handle-given.ensures) _ c.in-Ok-given.is)

pub returns-in-Ok-given : goal.returns-in-Ok-given
returns-in-Ok-given c = record { says = λ xs ys w g. turns_handled g.standing _ g.charged _ _ (is-byte _ g.small) (is-byte _ g.less) (search rules) g.raised (c.handle-given.auto.area ∙ g.long) _ refl _ _ g.was (handles_then g.same c.handle-given.ensures) _ c.in-Ok-given.is _ _ _ _ g.few c.follow.ensures }

pub returns-in-Err-given : goal.returns-in-Err-given
returns-in-Err-given c = record { says = λ xs ys w g. turns_refused g.standing _ g.charged _ _ (is-byte _ g.small) (is-byte _ g.less) (search rules) g.raised (c.handle-given.auto.area ∙ g.long) _ refl _ _ g.was (handles_then g.same c.handle-given.ensures) _ g.few c.in-Err-given.is }
