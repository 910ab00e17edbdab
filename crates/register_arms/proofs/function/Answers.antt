-- `register_arms::function` refuses what is not UTF-8, and stores the function's value. Assumes nothing.
use Rattle.refusal.specs.declared.Refusal.TheVariants.{NotUtf8}
use mathlib.Core.Path.{◌≡◌, refl, sym, ◌∙◌}
use borrow.Author.Rules.{rules}
use Rattle.std.specs.Prelude.{None, Some, Err}
use Rattle.state.proofs.ArmLaws.{register_arm_as, register_arm_refuses, register_arm_same}
use Rattle.state.proofs.Stores.{untouched}
use Rattle.register_arms.proofs.RegisterLaws.{function_refused, function_unknown, function_rowid, function_text, function_days, function_seconds}
use Rattle.register_arms.proofs.function.Goals as goal

pub returns-in_err-p4 : goal.returns-in_err-p4
returns-in_err-p4 c =
    let e : c.from_residual.result ≡ Err NotUtf8 = search rules in
    let none : c.read_p4.result ≡ None = search rules in
    rw e (record { same = untouched; kept = λ e was. refl; is = register_arm_refuses NotUtf8 (λ meaning l s j bound m h. function_refused _ meaning l c.args.x s j m (sym c.read_p4.ensures ∙ none)) })

pub returns-in_default : goal.returns-in_default
returns-in_default c =
    let some : c.read_p4.result ≡ Some c.in_ok-p4.p4 = search rules in
    record { same = untouched; kept = λ e was. refl; is = register_arm_same c.requires (λ meaning l s j bound m h. function_unknown _ meaning l c.args.x s j m c.in_ok-p4.p4 (sym c.read_p4.ensures ∙ some) c.in_default.is) }

pub returns-in-Rowid : goal.returns-in-Rowid
returns-in-Rowid c =
    let some : c.read_p4.result ≡ Some c.in_ok-p4.p4 = search rules in
    record { same = c.store_single.ensures.same; kept = c.store_single.ensures.kept; is = register_arm_as c.store_single.ensures.is (λ meaning l s j m. function_rowid _ meaning l c.args.x s j m c.in_ok-p4.p4 (sym c.read_p4.ensures ∙ some) c.in-Some.value c.in-Some.is c.in-Rowid.is) }

pub returns-in-Text : goal.returns-in-Text
returns-in-Text c =
    let some : c.read_p4.result ≡ Some c.in_ok-p4.p4 = search rules in
    record { same = c.store_single-in-Text.ensures.same; kept = c.store_single-in-Text.ensures.kept; is = register_arm_as c.store_single-in-Text.ensures.is (λ meaning l s j m. function_text _ meaning l c.args.x s j m c.in_ok-p4.p4 (sym c.read_p4.ensures ∙ some) c.nullable_by.result c.nullable_by.ensures c.in-Some.value c.in-Some.is c.in-Text.is) }

pub returns-in-Days : goal.returns-in-Days
returns-in-Days c =
    let some : c.read_p4.result ≡ Some c.in_ok-p4.p4 = search rules in
    record { same = c.store_single-in-Days.ensures.same; kept = c.store_single-in-Days.ensures.kept; is = register_arm_as c.store_single-in-Days.ensures.is (λ meaning l s j m. function_days _ meaning l c.args.x s j m c.in_ok-p4.p4 (sym c.read_p4.ensures ∙ some) c.nullable_by-in-Days.result c.nullable_by-in-Days.ensures c.in-Some.value c.in-Some.is c.in-Days.is) }

pub returns-in-Seconds : goal.returns-in-Seconds
returns-in-Seconds c =
    let some : c.read_p4.result ≡ Some c.in_ok-p4.p4 = search rules in
    record { same = c.store_single-in-Seconds.ensures.same; kept = c.store_single-in-Seconds.ensures.kept; is = register_arm_as c.store_single-in-Seconds.ensures.is (λ meaning l s j m. function_seconds _ meaning l c.args.x s j m c.in_ok-p4.p4 (sym c.read_p4.ensures ∙ some) c.nullable_by-in-Seconds.result c.nullable_by-in-Seconds.ensures c.in-Some.value c.in-Some.is c.in-Seconds.is) }
