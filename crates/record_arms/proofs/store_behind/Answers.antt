-- `record_arms::store_behind` judges index, depth and cells, and stores what it built. Assumes nothing.
use mathlib.Core.Path.{◌≡◌, refl, sym, subst, ◌∙◌}
use borrow.Author.Rules.{rules}
use Rattle.std.specs.Prelude.{None, Some, Err}
use Rattle.refusal.specs.declared.Refusal.TheVariants.{TooManyCells}
use native.Mathlib.Omega.{arith}
use Rattle.refusal.proofs.Passed.{passed}
use Rattle.state.proofs.Stores.{untouched, same_then}
use Rattle.record_arms.specs.Records.{BuildsRecord}
use Rattle.record_arms.proofs.DeepLaws.{flat_registers}
use Rattle.record_arms.proofs.RecordLaws.{record_index, record_deep, record_many, record_full, built_room, built_fits, record_stored}
use Rattle.record_arms.proofs.store_behind.Goals as goal

pub returns-in_err-judge_index : goal.returns-in_err-judge_index
returns-in_err-judge_index c = rw (passed _ _ c.from_residual.ensures.1) (record { same = untouched; kept = λ e was. refl; is = record_index _ _ _ _ _ _ c.args.registers.within _ c.judge_index.ensures _ c.in_err-judge_index.was })

pub returns-then-too_deep : goal.returns-then-too_deep
returns-then-too_deep c = record { same = untouched; kept = λ e was. refl; is = record_deep _ _ _ _ _ _ c.args.registers.within _ c.judge_index.ensures _ c.in_ok-judge_index.was (sym c.too_deep.ensures ∙ c.if-too_deep.true) }

pub returns-then-store-registers : goal.returns-then-store-registers
returns-then-store-registers c = record { same = untouched; kept = λ e was. refl; is = record_many _ _ _ _ _ _ c.args.registers.within _ c.judge_index.ensures _ c.in_ok-judge_index.was (sym c.too_deep.ensures ∙ c.if-too_deep.false) c.if-store-registers.true }

pub build_record-requires : goal.build_record-requires
build_record-requires c = (c.requires, omega (arith, c.if-store-registers.false), flat_registers _ c.args.store.now.map _ _ (sym c.too_deep.ensures ∙ c.if-too_deep.false))

pub store_run-requires : goal.store_run-requires
store_run-requires c = let done = c.build_record.ensures in let some : c.build_record.result ≡ Some c.in_ok-p.p = search rules in
    let built = subst (BuildsRecord _ _ _ _ _ _) some done.is in
    rw (done.same.limit, done.map) (built_room _ _ _ _ _ _ c.args.registers.within _ c.judge_index.ensures _ c.in_ok-judge_index.was (sym c.too_deep.ensures ∙ c.if-too_deep.false) _ _ built c.requires, record { whole = refl; above = built.answer.above; fits = built_fits _ _ _ _ _ _ c.args.registers.within _ c.judge_index.ensures _ c.in_ok-judge_index.was (sym c.too_deep.ensures ∙ c.if-too_deep.false) _ _ built c.requires })

pub returns-in_err-p : goal.returns-in_err-p
returns-in_err-p c =
    let e : c.from_residual-in_err-p.result ≡ Err TooManyCells = search rules in
    let none : c.build_record.result ≡ None = search rules in
    rw e (record { same = c.build_record.ensures.same; kept = λ e was. c.build_record.ensures.map; is = record_full _ _ _ _ _ _ c.args.registers.within _ c.judge_index.ensures _ c.in_ok-judge_index.was (sym c.too_deep.ensures ∙ c.if-too_deep.false) _ (subst (BuildsRecord _ _ _ _ _ _) none c.build_record.ensures.is) })

pub returns : goal.returns
returns c = let done = c.build_record.ensures in
    let some : c.build_record.result ≡ Some c.in_ok-p.p = search rules in let st = rw (done.same.limit, done.map) at c.store_run.ensures.is in
    record { same = same_then done.same c.store_run.ensures.same; kept = λ e was. c.store_run.ensures.kept e was ∙ done.map; is = record_stored _ _ _ _ _ _ c.args.registers.within _ c.judge_index.ensures _ c.in_ok-judge_index.was (sym c.too_deep.ensures ∙ c.if-too_deep.false) _ _ (subst (BuildsRecord _ _ _ _ _ _) some c.build_record.ensures.is) c.requires _ _ st }
