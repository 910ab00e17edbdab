-- `register_arms::agg_final` refuses what is not UTF-8, and stores what the aggregate gives at its end. Assumes nothing.
use Rattle.refusal.specs.declared.Refusal.TheVariants.{NotUtf8}
use mathlib.Core.Path.{◌≡◌, refl, sym, ◌∙◌}
use borrow.Author.Rules.{rules}
use Rattle.std.specs.Prelude.{None, Some, Err}
use Rattle.state.proofs.ArmLaws.{register_arm_as, register_arm_refuses, register_arm_same}
use Rattle.state.proofs.Stores.{untouched}
use Rattle.register_arms.proofs.RegisterLaws.{final_refused, final_integer, final_real, final_other, final_stays}
use Rattle.register_arms.proofs.agg_final.Goals as goal

pub returns-in_err-p4 : goal.returns-in_err-p4
returns-in_err-p4 c =
    let e : c.from_residual.result ≡ Err NotUtf8 = search rules in
    let none : c.read_p4.result ≡ None = search rules in
    rw e (record { same = untouched; kept = λ e was. refl; is = register_arm_refuses NotUtf8 (λ meaning l s j bound m h. final_refused _ meaning l c.args.x s j m (sym c.read_p4.ensures ∙ none)) })

pub returns-in-Integer : goal.returns-in-Integer
returns-in-Integer c =
    let some : c.read_p4.result ≡ Some c.in_ok-p4.p4 = search rules in
    record { same = c.store_single.ensures.same; kept = c.store_single.ensures.kept; is = register_arm_as c.store_single.ensures.is (λ meaning l s j m. final_integer _ meaning l c.args.x s j m c.in_ok-p4.p4 (sym c.read_p4.ensures ∙ some) c.in-Integer.is) }

pub returns-in-Real : goal.returns-in-Real
returns-in-Real c =
    let some : c.read_p4.result ≡ Some c.in_ok-p4.p4 = search rules in
    record { same = c.store_single-in-Real.ensures.same; kept = c.store_single-in-Real.ensures.kept; is = register_arm_as c.store_single-in-Real.ensures.is (λ meaning l s j m. final_real _ meaning l c.args.x s j m c.in_ok-p4.p4 (sym c.read_p4.ensures ∙ some) c.in-Real.is) }

pub returns-in-OtherRow : goal.returns-in-OtherRow
returns-in-OtherRow c =
    let some : c.read_p4.result ≡ Some c.in_ok-p4.p4 = search rules in
    record { same = c.other_row.ensures.same; kept = c.other_row.ensures.kept; is = register_arm_as c.other_row.ensures.is (λ meaning l s j m. final_other _ meaning l c.args.x s j m c.in_ok-p4.p4 (sym c.read_p4.ensures ∙ some) c.in-OtherRow.is) }

pub returns-in-Sum : goal.returns-in-Sum
returns-in-Sum c =
    let some : c.read_p4.result ≡ Some c.in_ok-p4.p4 = search rules in
    record { same = untouched; kept = λ e was. refl; is = register_arm_same c.requires (λ meaning l s j bound m h. final_stays _ meaning l c.args.x s j m c.in_ok-p4.p4 (sym c.read_p4.ensures ∙ some) c.in-Sum.is) }
