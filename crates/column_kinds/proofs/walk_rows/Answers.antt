-- `column_kinds::walk_rows` begins on the first row, if there is one. Assumes nothing.
use native.Mathlib.Omega.{arith}
use Rattle.refusal.proofs.Passed.{passed}
use Rattle.column_kinds.proofs.StartLaws.{may_run, walks_none, walks_refused, walks_ended}
use Rattle.column_kinds.proofs.walk_rows.Goals as goal

pub returns-then-n-eq0 : goal.returns-then-n-eq0
returns-then-n-eq0 c = walks_none c.requires _ c.new.ensures _ c.default.ensures c.if-n-eq0.true

pub run-requires : goal.run-requires
run-requires c = may_run c.requires _ c.new.ensures _ c.default.ensures (omega (arith, c.if-n-eq0.false)) _ c.new-map.ensures

pub returns-in_err-run : goal.returns-in_err-run
returns-in_err-run c = rw (passed _ _ c.from_residual.ensures.1) (walks_refused c.requires _ c.new.ensures _ c.default.ensures (omega (arith, c.if-n-eq0.false)) _ c.new-map.ensures _ _ _ _ c.in_err-run.ensures.0)

pub returns : goal.returns
returns c = walks_ended c.requires _ c.new.ensures _ c.default.ensures (omega (arith, c.if-n-eq0.false)) _ c.new-map.ensures _ _ _ _ c.in_ok-run.ensures.0
