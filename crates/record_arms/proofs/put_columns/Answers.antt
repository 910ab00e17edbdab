-- What is left of `put_columns`, by the invariant of Invariants.antt. Assumes nothing.
use native.Mathlib.Omega.{arith}
use Rattle.record_arms.proofs.BuildLaws.{going_first, going_puttable, going_full, going_on}
use Rattle.record_arms.proofs.put_columns.Goals as goal

pub loop-k-init : goal.loop-k-init
loop-k-init c = going_first _ _ _ _ _ _ (omega (arith, c.requires.0.used, c.requires.1)) c.requires.2

pub put_column-requires : goal.put_column-requires
put_column-requires c = let pre = c.requires in
    (going_puttable _ _ _ _ _ _ _ _ _ _ c.loop-k.invariant pre.3 pre.0.small (pre.4 _ (omega arith) (omega arith)), omega (arith, c.args.registers.within), omega (arith, c.args.registers.within))

pub returns-in_err-from : goal.returns-in_err-from
returns-in_err-from c = rw c.from_residual.ensures (going_full _ _ _ _ _ _ _ _ _ _ c.loop-k.invariant _ _ c.put_column.ensures _ (omega arith) c.in_err-from.was)

pub loop-k-preserved : goal.loop-k-preserved
loop-k-preserved c = going_on _ _ _ _ _ _ _ _ _ _ c.loop-k.invariant _ _ c.put_column.ensures _ c.in_ok-from.was
