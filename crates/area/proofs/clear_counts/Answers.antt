-- `area::clear_counts` writes 0 to the bytes of the counts. Assumes nothing.
use native.Mathlib.Omega.{arith}
use lib.ListN.{length-take, length-drop}
use Prim.Native.Nat.{ℕ}
use Rattle.area.proofs.CountLaws.{cleared_part}
use Rattle.area.proofs.clear_counts.Goals as goal

pub returns : goal.returns
returns c = cleared_part _ _ _ _ _ c.requires.within (omega (arith, length-take {A = ℕ}, length-drop {A = ℕ})) (c.fill.ensures.after (λ y e. e))
