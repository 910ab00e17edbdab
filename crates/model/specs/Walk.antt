-- The walk (01, "The walk"), over any type of states M and of result rows R: lineages, the notes of a walk, taking up what waits,
-- remembering and dropping branches, the charge and the two limits, the whole walk, and runs of it with a budget.
-- What it walks is given by `eq`, an equality test on states; `row_of`, the row of the listing that a state stands on, if any; `ways`, what
-- that row offers there, the Bool saying whether its lineage handles it again; `units`, the cost of remembering a state.
-- Below, m is a state, w ways, l a lineage, ls those that wait, n notes, f a front. Assumes nothing.
use Rattle.std.specs.Prelude.{◌≡◌, ◌⊎◌, Bool, true, false, ◌||◌, List, [], ◌∷◌, ℕ, zero, suc, ◌+◌, ◌-◌, leb, ltb, eqb, Option, None, Some}

-- x is one of the list's elements
infix 50 ◌∈◌
abbrev pub ◌∈◌ : {A : Type 0} → A → List A → Type 0
x ∈ [] = ⊥
x ∈ (y ∷ ys) = (y ≡ x) ⊎ (x ∈ ys)

-- one more where a test is true
abbrev pub one_if : Bool → ℕ
one_if true = 1
one_if false = 0

-- how many elements of a list equal one, by a test
unfoldable pub times : {A : Type 0} → (A → A → Bool) → A → List A → ℕ
times eq a [] = 0
times eq a (x ∷ xs) = one_if (eq x a) + times eq a xs

-- how often a row stands among the rows that a lineage has handled
abbrev pub count : ℕ → List ℕ → ℕ
count row past = times eqb row past

-- a value, or the number of a refusal
pub data Tried (A : Type 0) : Type 0 where
  refused : ℕ → Tried A
  done : A → Tried A

-- what a row offers when it is handled
pub record Ways (M R : Type 0) : Type 0 where
  -- the branches in the order added
  pub branches : List M
  -- the state that goes on in the same lineage
  pub stays : Option M
  -- the result row, where the row is one
  pub result : Option R
  -- whether this handling counts one repeat
  pub repeat : Bool

-- "A lineage is a branch with its ancestors up to each split"
pub record Lineage (M : Type 0) : Type 0 where
  pub mem : M
  -- the rows that it has handled, the latest first
  pub past : List ℕ

-- "The fresh start", as the one lineage that waits
abbrev pub start_waiting : {M : Type 0} → M → List (Lineage M)
start_waiting fresh = record { mem = fresh; past = [] } ∷ []

-- the lineage with one more row handled
abbrev pub add_row : {M : Type 0} → ℕ → Lineage M → Lineage M
add_row row l = record { mem = l.mem; past = row ∷ l.past }

-- the lineage that goes on, where a state does
abbrev pub onward : {M : Type 0} → Option M → List ℕ → Option (Lineage M)
onward None past = None
onward (Some m) past = Some (record { mem = m; past = past })

-- the states of lineages
abbrev pub mems : {M : Type 0} → List (Lineage M) → List M
mems [] = []
mems (l ∷ ls) = l.mem ∷ mems ls

-- what is noted of a walk: the four counts that the answer prints, and what the claims about it speak of
pub record Notes (M R : Type 0) : Type 0 where
  pub charged : ℕ
  pub loopstops : ℕ
  pub gasstops : ℕ
  pub repeats : ℕ
  -- the result rows of the rows handled, the latest first
  pub counted : List R
  -- each handled state, with the rows handled along its lineage, this one included
  pub handled : List (Lineage M)
  -- the states taken from the waiting ones
  pub taken : List M
  -- the states remembered
  pub remembered : List M
  -- the units left to remember with
  pub space : ℕ

-- the result rows counted, after a row with this result
abbrev pub note_result : {R : Type 0} → Option R → List R → List R
note_result None rs = rs
note_result (Some r) rs = r ∷ rs

-- "Each such handling counts one repeat"
abbrev pub note_repeat : Bool → ℕ → ℕ
note_repeat false k = k
note_repeat true k = suc k

module _ {M R : Type 0} where
  -- "charge one of 100,000 units"
  abbrev pub charge : Notes M R → Notes M R
  charge n =
      record {
        charged = n.charged + 1;
        loopstops = n.loopstops;
        gasstops = n.gasstops;
        repeats = n.repeats;
        counted = n.counted;
        handled = n.handled;
        taken = n.taken;
        remembered = n.remembered;
        space = n.space;
      }

  -- "close it if its lineage has handled this row three times (a loop stop)"
  abbrev pub loop_stop : Notes M R → Notes M R
  loop_stop n =
      record {
        charged = n.charged;
        loopstops = suc n.loopstops;
        gasstops = n.gasstops;
        repeats = n.repeats;
        counted = n.counted;
        handled = n.handled;
        taken = n.taken;
        remembered = n.remembered;
        space = n.space;
      }

  -- "with none left close the branch (a gas stop)"
  abbrev pub gas_stop : Notes M R → Notes M R
  gas_stop n =
      record {
        charged = n.charged;
        loopstops = n.loopstops;
        gasstops = suc n.gasstops;
        repeats = n.repeats;
        counted = n.counted;
        handled = n.handled;
        taken = n.taken;
        remembered = n.remembered;
        space = n.space;
      }

  -- a branch is "taken up when it is taken from the waiting ones"
  abbrev pub note_taken : M → Notes M R → Notes M R
  note_taken m n =
      record {
        charged = n.charged;
        loopstops = n.loopstops;
        gasstops = n.gasstops;
        repeats = n.repeats;
        counted = n.counted;
        handled = n.handled;
        taken = m ∷ n.taken;
        remembered = n.remembered;
        space = n.space;
      }

  -- "then handle it": a row is being handled, by this lineage
  abbrev pub note_handled : Lineage M → Notes M R → Notes M R
  note_handled l n =
      record {
        charged = n.charged;
        loopstops = n.loopstops;
        gasstops = n.gasstops;
        repeats = n.repeats;
        counted = n.counted;
        handled = l ∷ n.handled;
        taken = n.taken;
        remembered = n.remembered;
        space = n.space;
      }

  -- the row's ways are followed, and these states are remembered now
  abbrev pub note_ways : Ways M R → List M → ℕ → Notes M R → Notes M R
  note_ways w remembered space n =
      record {
        charged = n.charged;
        loopstops = n.loopstops;
        gasstops = n.gasstops;
        repeats = note_repeat w.repeat n.repeats;
        counted = note_result w.result n.counted;
        handled = n.handled;
        taken = n.taken;
        remembered = remembered;
        space = space;
      }

  -- nothing is noted yet
  abbrev pub start_notes : ℕ → Notes M R
  start_notes space =
      record { charged = 0; loopstops = 0; gasstops = 0; repeats = 0; counted = []; handled = []; taken = []; remembered = []; space = space }

-- how a walk ends: with a refusal's number, or answered; with its notes either way
pub data Walked (M R : Type 0) : Type 0 where
  refused_with : ℕ → Notes M R → Walked M R
  answered : Notes M R → Walked M R

-- the notes of a walk, however it ended
abbrev pub notes_of : {M R : Type 0} → Walked M R → Notes M R
notes_of (refused_with k n) = n
notes_of (answered n) = n

-- where a walk stands between rows: no lineage is left, or the current one is on a row of the listing and others wait
pub data Front (M R : Type 0) : Type 0 where
  none_left : Notes M R → Front M R
  on_row : ℕ → Lineage M → List (Lineage M) → Notes M R → Front M R

-- the notes so far
abbrev pub notes_at : {M R : Type 0} → Front M R → Notes M R
notes_at (none_left n) = n
notes_at (on_row row l ls n) = n

-- taking up what waits, "last in, first out"; "outside the listing the branch just ends"
module _ {M R : Type 0} (row_of : M → Option ℕ) where
  -- waiting lineages are taken up until one stands on a row
  unfoldable pub take_up : List (Lineage M) → Notes M R → Front M R
  take_up [] n = none_left n
  take_up (l ∷ ls) n =
      elim (row_of l.mem) [ None ↦ take_up ls (note_taken l.mem n) | Some row ↦ on_row row l ls (note_taken l.mem n) ]

  -- the current lineage goes on if it stands on a row
  unfoldable pub go_on : Option (Lineage M) → List (Lineage M) → Notes M R → Front M R
  go_on None ls n = take_up ls n
  go_on (Some l) ls n = elim (row_of l.mem) [ None ↦ take_up ls n | Some row ↦ on_row row l ls n ]

  -- with no unit left, each waiting lineage is taken up, and closed by a gas stop if it stands on a row
  unfoldable pub close_all : List (Lineage M) → Notes M R → Notes M R
  close_all [] n = n
  close_all (l ∷ ls) n =
      elim (row_of l.mem) [ None ↦ close_all ls (note_taken l.mem n) | Some row ↦ close_all ls (gas_stop (note_taken l.mem n)) ]

  -- where a walk begins: "The initial state is not remembered"
  unfoldable pub begin : M → ℕ → Front M R
  begin fresh space = take_up (start_waiting fresh) (start_notes space)

-- "A branch equal to a remembered state (row included, handled counts not)"
unfoldable pub known : {M : Type 0} → (M → M → Bool) → M → List M → Bool
known eq m [] = false
known eq m (x ∷ xs) = eq x m || known eq m xs

-- what becomes of a branch
pub data Verdict : Type 0 where
  dropped kept no_space : Verdict

-- by whether it is known, and whether the space suffices
abbrev pub verdict : Bool → Bool → Verdict
verdict true fits = dropped
verdict false true = kept
verdict false false = no_space

-- what becomes of a row's branches: no space for one, or what waits then, what is remembered, and the space left
pub data Offered (M : Type 0) : Type 0 where
  full : Offered M
  offered : List (Lineage M) → List M → ℕ → Offered M

-- such a branch "is dropped; otherwise it is remembered for the whole walk and waits"
module _ {M : Type 0} (eq : M → M → Bool) (units : M → ℕ) where
  -- a known branch needs no space
  unfoldable pub judge : M → List M → ℕ → Verdict
  judge m remembered space = verdict (known eq m remembered) (leb (units m) space)

  -- the branches one by one, each behind what those before it left
  unfoldable pub offer : List ℕ → List M → List (Lineage M) → List M → ℕ → Offered M
  offer past [] ls remembered space = offered ls remembered space
  offer past (m ∷ ms) ls remembered space =
      elim (judge m remembered space) [
        | dropped ↦ offer past ms ls remembered space
        | kept ↦ offer past ms (record { mem = m; past = past } ∷ ls) (m ∷ remembered) (space - units m)
        | no_space ↦ full
      ]

-- "at the second or third handling of a row in a lineage"
abbrev pub handled_before : ℕ → List ℕ → Bool
handled_before row past = ltb 0 (count row past)

-- the lineage has not yet "handled this row three times"
abbrev pub under_limit : ℕ → List ℕ → Bool
under_limit row past = ltb (count row past) 3

-- what a turn at a front gives: the walk is over, or stands elsewhere
pub data Turn (M R : Type 0) : Type 0 where
  over : Walked M R → Turn M R
  goes : Front M R → Turn M R

-- a turn, and what follows it
abbrev pub after_turn : {M R X : Type 0} → (Walked M R → X) → (Front M R → X) → Turn M R → X
after_turn ends next (over w) = ends w
after_turn ends next (goes f) = next f

-- where a run with a budget is: paused before a charge, with the gas left, or at the walk's end
pub data Progress (M R : Type 0) : Type 0 where
  paused : ℕ → Front M R → Progress M R
  ended : Walked M R → Progress M R

-- a run whose budget is used up: paused, unless no lineage is left
abbrev pub pause : {M R : Type 0} → ℕ → Front M R → Progress M R
pause gas (none_left n) = ended (answered n)
pause gas (on_row row l ls n) = paused gas (on_row row l ls n)

module _ {M R : Type 0} (row_of : M → Option ℕ) where
  -- "11 no space to remember a new branch"; otherwise the way that goes on is current
  unfoldable pub settle : List ℕ → Ways M R → Notes M R → Offered M → Turn M R
  settle past w n full = over (refused_with 11 n)
  settle past w n (offered ls remembered space) = goes (go_on row_of (onward w.stays past) ls (note_ways w remembered space n))

  -- no unit is left: the current lineage is closed, and then each that waits
  unfoldable pub close : Front M R → Walked M R
  close (none_left n) = answered n
  close (on_row row l ls n) = answered (close_all row_of ls (gas_stop n))

module _
    {M R : Type 0}
    (eq : M → M → Bool)
    (row_of : M → Option ℕ)
    (ways : Bool → M → Tried (Ways M R))
    (units : M → ℕ)
  where
    -- a row's own refusal comes before its first branch
    unfoldable pub follow_ways : List ℕ → List (Lineage M) → Notes M R → Tried (Ways M R) → Turn M R
    follow_ways past ls n (refused k) = over (refused_with k n)
    follow_ways past ls n (done w) = settle row_of past w n (offer eq units past w.branches ls n.remembered n.space)

    -- under the limit the row is handled; otherwise the lineage is closed
    unfoldable pub handle_if : Bool → ℕ → Lineage M → List (Lineage M) → Notes M R → Turn M R
    handle_if false row l ls n = goes (take_up row_of ls (loop_stop n))
    handle_if true row l ls n = follow_ways (row ∷ l.past) ls (note_handled (add_row row l) n) (ways (handled_before row l.past) l.mem)

    -- "At each row: charge one of 100,000 units", then the loop limit, then handle it; with no lineage left the walk is answered
    unfoldable pub turn : Front M R → Turn M R
    turn (none_left n) = over (answered n)
    turn (on_row row l ls n) = handle_if (under_limit row l.past) row l ls (charge n)

    -- the walk from a front on, with this many units of gas
    unfoldable pub walk_on : ℕ → Front M R → Walked M R
    walk_on zero f = close row_of f
    walk_on (suc gas) f = after_turn (λ w. w) (λ f'. walk_on gas f') (turn f)

    -- the same, paused before a charge when the budget of charged rows is used up
    unfoldable pub run : ℕ → ℕ → Front M R → Progress M R
    run budget zero f = ended (close row_of f)
    run zero (suc gas) f = pause (suc gas) f
    run (suc budget) (suc gas) f = after_turn ended (λ f'. run budget gas f') (turn f)

    -- a run goes on with a new budget
    unfoldable pub resume : ℕ → Progress M R → Progress M R
    resume budget (paused gas f) = run budget gas f
    resume budget (ended w) = ended w

    -- the whole walk
    unfoldable pub walk : ℕ → M → ℕ → Walked M R
    walk gas fresh space = walk_on gas (begin row_of fresh space)

    -- what a run gives from a current lineage, waiting ones and notes on: a program's loop keeps this the same
    abbrev pub after : ℕ → ℕ → Option (Lineage M) → List (Lineage M) → Notes M R → Progress M R
    after budget gas current waiting n = run budget gas (go_on row_of current waiting n)

    -- and what the whole walk gives
    abbrev pub walk_after : ℕ → Option (Lineage M) → List (Lineage M) → Notes M R → Walked M R
    walk_after gas current waiting n = walk_on gas (go_on row_of current waiting n)
