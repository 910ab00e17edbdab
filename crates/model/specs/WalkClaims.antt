-- What is claimed of every walk (01, "What we will not take"; demand 3), as records whose fields are the claims. Each is proved in
-- proofs/WalkTheorems.antt. Assumes nothing.
use Rattle.std.specs.Prelude.{◌≡◌, ◌↔◌, Bool, true, false, [], ◌∷◌, ℕ, ◌+◌, ◌≤◌, ◌<◌, Option, Some}
use Rattle.model.specs.Walk.{◌∈◌, times, count, Tried, done, Ways, Lineage, mems, Notes, Walked, notes_of, Front, notes_at, paused, ended, walk_on, run, resume}
use Rattle.model.specs.Steps.{Reach, Offering, Result, Chain}

-- an equality test that says true only of equal states
abbrev pub Sound : {M : Type 0} → (M → M → Bool) → Type 0
Sound {M} eq = (a b : M) → eq a b ≡ true → a ≡ b

-- a second or third handling that counts no repeat offers what a first handling offers
abbrev pub RepeatsCounted : {M R : Type 0} → (Bool → M → Tried (Ways M R)) → Type 0
RepeatsCounted {M} {R} ways = (m : M) (w : Ways M R) → ways true m ≡ done w → w.repeat ≡ false → ways false m ≡ done w

-- no stop and no repeat is noted
pub record Quiet {M R : Type 0} (n : Notes M R) : Type 0 where
  pub loops : n.loopstops ≡ 0
  pub gas : n.gasstops ≡ 0
  pub repeat : n.repeats ≡ 0

-- the limits that a walk keeps, answered or refused
pub record Limits
    {M R : Type 0}
    (row_of : M → Option ℕ)
    (ways : Bool → M → Tried (Ways M R))
    (fresh : M)
    (given : ℕ)
    (n : Notes M R)
    : Type 0
  where
    -- no more is charged than the gas given
    pub charge : n.charged ≤ given
    -- a gas stop is noted only where all of it is charged
    pub gone : 0 < n.gasstops → n.charged ≡ given
    -- no lineage handles a row more than three times
    pub thrice : (l : Lineage M) → l ∈ n.handled → (row : ℕ) → count row l.past ≤ 3
    -- and the past of each is the rows of a chain of handled states from the fresh start
    pub chained : (l : Lineage M) → l ∈ n.handled → Chain row_of ways fresh n.handled l

-- every remembered state was taken from the waiting ones, each once, counted by the equality test: for an answered walk
pub record TakenUp {M R : Type 0} (eq : M → M → Bool) (fresh : M) (n : Notes M R) : Type 0 where
  -- a state was taken from the waiting ones as often as it is remembered, and once more if it is the fresh start
  pub each : (m : M) → times eq m n.taken ≡ times eq m n.remembered + times eq m (fresh ∷ [])
  -- no state is remembered twice
  pub once : (m : M) → times eq m n.remembered ≤ 1
  -- each remembered state was taken up
  pub all : (m : M) → m ∈ n.remembered → m ∈ n.taken

-- lists of allowed steps reach nothing that the walk left out: for an answered walk with quiet notes
pub record Coverage
    {M R : Type 0}
    (row_of : M → Option ℕ)
    (ways : Bool → M → Tried (Ways M R))
    (fresh : M)
    (n : Notes M R)
    : Type 0
  where
    -- every state reached on a row of the listing was handled
    pub reached : (m : M) → Reach row_of ways fresh m → (row : ℕ) → row_of m ≡ Some row → m ∈ mems n.handled
    -- and is not refused there
    pub offers : (m : M) → Reach row_of ways fresh m → (row : ℕ) → row_of m ≡ Some row → (w : Ways M R) × Offering row_of ways m w
    -- the result rows reached are exactly those counted
    pub exact : (r : R) → (r ∈ n.counted) ↔ Result row_of ways fresh r

-- a fact of states holds of every one that the walk handled, remembered or took up
pub record Everywhere {M R : Type 0} (S : M → Type 0) (n : Notes M R) : Type 0 where
  pub handled : (m : M) → m ∈ mems n.handled → S m
  pub remembered : (m : M) → m ∈ n.remembered → S m
  pub taken : (m : M) → m ∈ n.taken → S m

-- runs with a budget, from any place of a walk
pub record RunClaims
    {M R : Type 0}
    (eq : M → M → Bool)
    (row_of : M → Option ℕ)
    (ways : Bool → M → Tried (Ways M R))
    (units : M → ℕ)
    : Type 0
  where
    -- a run of a + b is a run of a and, if that paused, one of b from there
    pub add : (a b gas : ℕ) (f : Front M R) → run eq row_of ways units (a + b) gas f ≡ resume eq row_of ways units b (run eq row_of ways units a gas f)
    -- a run with all the gas as its budget is the whole walk
    pub whole : (budget gas : ℕ) (f : Front M R) → gas ≤ budget → run eq row_of ways units budget gas f ≡ ended (walk_on eq row_of ways units gas f)
    -- a run that paused has charged its budget, and the walk goes on from there as if it had not
    pub pauses :
        (budget gas gas' : ℕ) (f f' : Front M R) →
        run eq row_of ways units budget gas f ≡ paused gas' f' →
        ((notes_at f').charged ≡ (notes_at f).charged + budget) × (walk_on eq row_of ways units gas' f' ≡ walk_on eq row_of ways units gas f)
    -- a run that ended has charged no more than its budget, and gave what the walk gives
    pub ends :
        (budget gas : ℕ) (f : Front M R) (w : Walked M R) →
        run eq row_of ways units budget gas f ≡ ended w →
        ((notes_of w).charged ≤ (notes_at f).charged + budget) × (w ≡ walk_on eq row_of ways units gas f)
