-- The theorems about every walk: the claims of specs/WalkClaims.antt hold. Assumes nothing.
use mathlib.Core.Path.{◌≡◌}
use mathlib.Core.Bool.{Bool}
use Rattle.std.specs.Prelude.{Option}
use Prim.Native.Nat.{ℕ}
use Rattle.model.specs.Walk.{Tried, Ways, Notes, answered, notes_of, walk}
use Rattle.model.specs.WalkClaims.{Sound, RepeatsCounted, Quiet, Limits, TakenUp, Coverage, RunClaims}
use Rattle.model.proofs.Limits.{paid, thrice}
use Rattle.model.proofs.Chains.{chained}
use Rattle.model.proofs.TakenUp.{all_taken}
use Rattle.model.proofs.Cover.{covers}
use Rattle.model.proofs.Runs.{run_add, run_all, paused_walk, ended_walk, paused_spent, ended_spent}

module _
    {M R : Type 0}
    (eq : M → M → Bool)
    (row_of : M → Option ℕ)
    (ways : Bool → M → Tried (Ways M R))
    (units : M → ℕ)
    (gas : ℕ)
    (fresh : M)
    (space : ℕ)
  where
    -- every walk keeps the limits, answered or refused
    pub limits : Limits row_of ways fresh gas (notes_of (walk eq row_of ways units gas fresh space))
    limits =
        let p = paid eq row_of ways units gas fresh space in
        record {
          charge = p.most;
          gone = p.gone;
          thrice = thrice eq row_of ways units gas fresh space;
          chained = chained eq row_of ways units fresh gas space;
        }

    -- every answered walk took up each branch that it accepted, once
    pub taken_up_lem : Sound eq → (n : Notes M R) → walk eq row_of ways units gas fresh space ≡ answered n → TakenUp eq fresh n
    taken_up_lem sound = all_taken eq row_of ways units sound fresh gas space

    -- every answered walk with quiet notes covers what lists of allowed steps reach
    pub coverage :
        Sound eq →
        RepeatsCounted ways →
        (n : Notes M R) →
        walk eq row_of ways units gas fresh space ≡ answered n →
        Quiet n →
        Coverage row_of ways fresh n
    coverage sound repeats = covers eq row_of ways units sound fresh repeats gas space

module _
    {M R : Type 0}
    (eq : M → M → Bool)
    (row_of : M → Option ℕ)
    (ways : Bool → M → Tried (Ways M R))
    (units : M → ℕ)
  where
    -- a walk can be paused and gone on with
    pub runs : RunClaims eq row_of ways units
    runs =
        record {
          add = run_add eq row_of ways units;
          whole = run_all eq row_of ways units;
          pauses = λ budget gas gas' f f' e. ((paused_spent eq row_of ways units budget gas f e).0, paused_walk eq row_of ways units budget gas f e);
          ends = λ budget gas f w e. (ended_spent eq row_of ways units budget gas f e, ended_walk eq row_of ways units budget gas f e);
        }
