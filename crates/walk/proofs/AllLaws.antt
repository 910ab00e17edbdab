-- What follows a row's handling, whatever it gave. Assumes nothing.
use Rattle.state.specs.declared.Ways.{Ways}
use mathlib.Core.Bool.{Bool}
use Rattle.std.specs.Prelude.{Option, Result}
use mathlib.Core.List.{List}
use Rattle.refusal.specs.declared.Refusal.{Refusal}
use Prim.Native.Nat.{ℕ}
use Rattle.state.specs.declared.MemoryState.{MemoryState}
use Rattle.merge.specs.declared.columns.Columns.{Columns}
use Rattle.walk.specs.Loop.{FollowsWays, Follows}
use Rattle.explain.specs.declared.Handling.TheVariants as handling
use Rattle.walk.specs.declared.Program.{Program}
use Rattle.walk.specs.declared.Walk.{Walk}

module _ (p : Program) (xs : List ℕ) (cols : Columns 2000) (w v : Walk) where
  module _ (ways : Ways) (r : Bool) where
    pub all_ways : (ys : List ℕ) (t : Result (Option MemoryState) Refusal) → FollowsWays p xs ys w v ways.branch ways.stays r t → Follows p xs ys cols cols w v (handling.Ways ways r) t
    all_ways ys t f = record { says = λ g blocks ls n past m o held counted tells stays. f.says g blocks cols ls n past o held counted tells stays; bytes = f.bytes }
