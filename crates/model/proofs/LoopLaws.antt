-- The walk in the small steps that a program's loop takes: each leaves what the walk, or a run of it, comes to as it was.
-- A step at a row is stated once, for any function of fronts that takes a turn there and goes on as another does: with `walk_turn` it is a
-- law of `walk_after`, with `run_turn` one of `after`. Likewise the step without gas, with `walk_closes` and `run_closes`. The steps between
-- rows are equations of fronts. Assumes nothing.
use mathlib.Core.Path.{◌≡◌, refl, sym, ap, subst, subst₂, ◌∙◌}
use mathlib.Core.Bool.{Bool, true, false}
use Rattle.std.specs.Prelude.{Option, None, Some}
use mathlib.Core.List.{List, [], ◌∷◌}
use Prim.Native.Nat.{ℕ, zero, suc, ◌-◌, ◌<◌, ◌≤◌}
use native.Mathlib.Omega.{arith}
use borrow.Author.Tests.{lt-ltb, le-ltb, le-leb, lt-leb}
use Rattle.model.specs.Walk.{count, Tried, refused, done, Ways, Lineage, start_waiting, add_row, onward, Notes, charge, loop_stop, gas_stop, note_taken, note_handled, note_ways, start_notes, Walked, refused_with, answered, Front, on_row, take_up, go_on, close_all, begin, known, judge, full, offered, offer, handled_before, under_limit, after_turn, paused, ended, settle, close, follow_ways, handle_if, turn, walk_on, run, walk, after, walk_after}
use Rattle.model.proofs.Runs.{run_none, run_all}

less_one : (k : ℕ) → k ≡ suc k - 1
less_one k = omega arith

-- offering branches one by one
module _
    {M : Type 0}
    (eq : M → M → Bool)
    (units : M → ℕ)
    (past : List ℕ)
    (m : M)
    (ms : List M)
    (ls : List (Lineage M))
    (remembered : List M)
    (space : ℕ)
  where
    -- a known one is dropped
    pub offer_dropped : known eq m remembered ≡ true → offer eq units past (m ∷ ms) ls remembered space ≡ offer eq units past ms ls remembered space
    unfolding offer judge
    offer_dropped e = rw (e, offer)

    -- a new one is remembered and waits
    pub offer_kept :
        known eq m remembered ≡ false →
        units m ≤ space →
        offer eq units past (m ∷ ms) ls remembered space ≡
        offer eq units past ms (record { mem = m; past = past } ∷ ls) (m ∷ remembered) (space - units m)
    unfolding offer judge
    offer_kept e h = rw (e, le-leb (units m) space h, offer)

    -- or has no space
    pub offer_full : known eq m remembered ≡ false → space < units m → offer eq units past (m ∷ ms) ls remembered space ≡ full
    unfolding offer judge
    offer_full e h = rw (e, lt-leb (units m) space h, offer)

-- between rows
module _ {M R : Type 0} (row_of : M → Option ℕ) where
  -- the fresh start waits
  pub begins : (fresh : M) (space : ℕ) → begin {R = R} row_of fresh space ≡ go_on row_of None (start_waiting fresh) (start_notes space)
  unfolding begin go_on
  begins fresh space = refl

  module _ (l : Lineage M) (ls : List (Lineage M)) (n : Notes M R) where
    -- a waiting lineage is taken up
    pub takes : go_on row_of None (l ∷ ls) n ≡ go_on row_of (Some l) ls (note_taken l.mem n)
    unfolding go_on take_up
    takes = refl

    -- the current one ends outside the listing
    pub leaves : row_of l.mem ≡ None → go_on row_of (Some l) ls n ≡ go_on row_of None ls n
    unfolding go_on
    leaves e = rw (e, go_on)

    -- so a paused front is one of a current lineage
    pub at_row_lem : (row : ℕ) → row_of l.mem ≡ Some row → go_on row_of (Some l) ls n ≡ on_row row l ls n
    unfolding go_on
    at_row_lem row e = rw (e, go_on)

  -- with no gas the waiting lineages are closed one by one
  closes : (ls : List (Lineage M)) (n : Notes M R) → close row_of (take_up row_of ls n) ≡ answered (close_all row_of ls n)
  unfolding take_up close close_all
  closes [] n = refl
  closes (l ∷ ls) n = go (row_of l.mem) (closes ls (note_taken l.mem n))
    where
      n' : Notes M R
      n' = note_taken l.mem n

      go :
          (o : Option ℕ) →
          close row_of (take_up row_of ls n') ≡ answered (close_all row_of ls n') →
          close {R = R} row_of (elim o [ None ↦ take_up row_of ls n' | Some row ↦ on_row row l ls n' ]) ≡
          answered (elim o [ None ↦ close_all row_of ls n' | Some row ↦ close_all row_of ls (gas_stop n') ])
      go None rest = rest
      go (Some row) rest = refl

  -- a function of fronts that closes what is left
  pub record Closes {X : Type 0} (now : Front M R → X) (ends : Walked M R → X) : Type 0 where
    pub is : (f : Front M R) → now f ≡ ends (close row_of f)

  -- without gas the current lineage is closed, and the others after it
  pub empties :
      {X : Type 0} {now : Front M R → X} {ends : Walked M R → X} →
      Closes now ends →
      (l : Lineage M) (ls : List (Lineage M)) (n : Notes M R) (row : ℕ) →
      row_of l.mem ≡ Some row →
      now (go_on row_of (Some l) ls n) ≡ now (go_on row_of None ls (gas_stop n))
  unfolding close go_on
  empties {ends} c l ls n row e =
      c.is (go_on row_of (Some l) ls n) ∙
      ap (λ f. ends (close row_of f)) (at_row_lem l ls n row e) ∙
      sym (ap ends (closes ls (gas_stop n))) ∙
      sym (c.is (take_up row_of ls (gas_stop n)))

module _
    {M R : Type 0}
    (eq : M → M → Bool)
    (row_of : M → Option ℕ)
    (ways : Bool → M → Tried (Ways M R))
    (units : M → ℕ)
  where
    -- the whole walk, as the loop begins and ends it
    pub walk_begins :
        (gas : ℕ) (fresh : M) (space : ℕ) →
        walk eq row_of ways units gas fresh space ≡ walk_after eq row_of ways units gas None (start_waiting fresh) (start_notes space)
    unfolding walk begin go_on
    walk_begins gas fresh space = refl

    pub walk_ends : (gas : ℕ) (n : Notes M R) → walk_after eq row_of ways units gas None [] n ≡ answered n
    unfolding go_on take_up walk_on close turn
    walk_ends zero n = refl
    walk_ends (suc gas) n = refl

    -- a run with a budget likewise; one with all the gas for its budget is the whole walk
    pub run_begins :
        (gas : ℕ) (fresh : M) (space : ℕ) →
        after eq row_of ways units gas gas None (start_waiting fresh) (start_notes space) ≡ ended (walk eq row_of ways units gas fresh space)
    unfolding walk begin go_on
    run_begins gas fresh space = run_all eq row_of ways units gas gas (begin row_of fresh space) (omega arith)

    pub run_ends : (budget gas : ℕ) (n : Notes M R) → after eq row_of ways units budget gas None [] n ≡ ended (answered n)
    unfolding go_on take_up
    run_ends = run_none eq row_of ways units

    -- with the budget used up it pauses
    pub run_pauses :
        (budget gas : ℕ) (l : Lineage M) (ls : List (Lineage M)) (n : Notes M R) (row : ℕ) →
        budget ≡ 0 →
        0 < gas →
        row_of l.mem ≡ Some row →
        after eq row_of ways units budget gas (Some l) ls n ≡ paused gas (on_row row l ls n)
    unfolding run
    run_pauses budget zero l ls n row z h e = absurd (omega arith)
    run_pauses zero (suc gas) l ls n row z h e = ap (run eq row_of ways units zero (suc gas)) (at_row_lem row_of l ls n row e)
    run_pauses (suc budget) (suc gas) l ls n row z h e = absurd (omega arith)

    -- with no gas both close what is left
    pub walk_closes : (gas : ℕ) → gas ≡ 0 → Closes row_of (walk_on eq row_of ways units gas) (λ w. w)
    unfolding walk_on
    walk_closes zero z = record { is = λ f. refl }
    walk_closes (suc gas) z = absurd (omega arith)

    pub run_closes : (budget gas : ℕ) → gas ≡ 0 → Closes row_of (run eq row_of ways units budget gas) ended
    unfolding run
    run_closes budget zero z = record { is = λ f. refl }
    run_closes budget (suc gas) z = absurd (omega arith)

    -- a function of fronts that takes a turn and goes on as another does
    pub record TakesTurn {X : Type 0} (now next : Front M R → X) (ends : Walked M R → X) : Type 0 where
      pub is : (f : Front M R) → now f ≡ after_turn ends next (turn eq row_of ways units f)

    -- with gas, and budget, both take a turn
    pub walk_turn : (gas : ℕ) → 0 < gas → TakesTurn (walk_on eq row_of ways units gas) (walk_on eq row_of ways units (gas - 1)) (λ w. w)
    unfolding walk_on
    walk_turn zero h = absurd (omega arith)
    walk_turn (suc gas) h =
        subst (λ g. TakesTurn (walk_on eq row_of ways units (suc gas)) (walk_on eq row_of ways units g) (λ w. w)) (less_one gas)
        (record { is = λ f. refl })

    pub run_turn :
        (budget gas : ℕ) →
        0 < budget →
        0 < gas →
        TakesTurn (run eq row_of ways units budget gas) (run eq row_of ways units (budget - 1) (gas - 1)) ended
    unfolding run
    run_turn budget zero h i = absurd (omega arith)
    run_turn zero (suc gas) h i = absurd (omega arith)
    run_turn (suc budget) (suc gas) h i =
        subst₂ (λ b g. TakesTurn (run eq row_of ways units (suc budget) (suc gas)) (run eq row_of ways units b g) ended)
        (less_one budget)
        (less_one gas)
        (record { is = λ f. refl })

    module _
        {X : Type 0}
        {now next : Front M R → X}
        {ends : Walked M R → X}
        (t : TakesTurn now next ends)
        (l : Lineage M)
        (ls : List (Lineage M))
        (n : Notes M R)
        (row : ℕ)
        (at : row_of l.mem ≡ Some row)
      where
        -- the turn at the current lineage's row
        at_turn : now (go_on row_of (Some l) ls n) ≡ after_turn ends next (handle_if eq row_of ways units (under_limit row l.past) row l ls (charge n))
        unfolding turn
        at_turn = t.is (go_on row_of (Some l) ls n) ∙ ap (λ f. after_turn ends next (turn eq row_of ways units f)) (at_row_lem row_of l ls n row at)

        -- it is closed at the loop limit
        pub loops : 3 ≤ count row l.past → now (go_on row_of (Some l) ls n) ≡ next (go_on row_of None ls (loop_stop (charge n)))
        unfolding handle_if go_on
        loops h = at_turn ∙ rw (le-ltb (count row l.past) 3 h)

        module _ (h : count row l.past < 3) where
          -- its row is refused
          pub refuses :
              (k : ℕ) →
              ways (handled_before row l.past) l.mem ≡ refused k →
              now (go_on row_of (Some l) ls n) ≡ ends (refused_with k (note_handled (add_row row l) (charge n)))
          unfolding handle_if follow_ways
          refuses k e = at_turn ∙ rw (lt-ltb (count row l.past) 3 h, e)

          module _ (w : Ways M R) (e : ways (handled_before row l.past) l.mem ≡ done w) where
            -- there is no space for a branch
            pub fills :
                offer eq units (row ∷ l.past) w.branches ls n.remembered n.space ≡ full →
                now (go_on row_of (Some l) ls n) ≡ ends (refused_with 11 (note_handled (add_row row l) (charge n)))
            unfolding handle_if follow_ways settle
            fills o = at_turn ∙ rw (lt-ltb (count row l.past) 3 h, e, o)

            -- it is handled
            pub handles :
                (ls' : List (Lineage M)) (remembered' : List M) (space' : ℕ) →
                offer eq units (row ∷ l.past) w.branches ls n.remembered n.space ≡ offered ls' remembered' space' →
                now (go_on row_of (Some l) ls n) ≡
                next (go_on row_of (onward w.stays (row ∷ l.past)) ls' (note_ways w remembered' space' (note_handled (add_row row l) (charge n))))
            unfolding handle_if follow_ways settle
            handles ls' remembered' space' o = at_turn ∙ rw (lt-ltb (count row l.past) 3 h, e, o)
