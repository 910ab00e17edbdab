-- Runs of a walk with a budget: two runs one after the other are one run, a run with budget enough is the whole walk, a paused one goes on
-- to the same end, and each charges what its budget allows. Assumes nothing.
use mathlib.Core.Path.{◌≡◌, refl, sym, ap, subst, ◌∙◌}
use mathlib.Core.Bool.{Bool, true, false}
use Rattle.std.specs.Prelude.{Option, None, Some}
use mathlib.Core.List.{List, [], ◌∷◌}
use Prim.Native.Nat.{ℕ, zero, suc, ◌+◌, ◌≤◌}
use native.Mathlib.Nat.{zero-add, suc-add}
use native.Mathlib.Omega.{arith}
use Rattle.model.specs.Walk.{Tried, refused, done, Ways, Lineage, onward, Notes, charge, loop_stop, gas_stop, note_taken, note_ways, Walked, answered, notes_of, Front, none_left, on_row, notes_at, take_up, go_on, close_all, Offered, full, offered, offer, handled_before, under_limit, Turn, over, goes, after_turn, Progress, paused, ended, settle, close, follow_ways, handle_if, turn, walk_on, run, resume}

-- a function goes under what follows a turn
under-turn :
    {M R X Y : Type 0} (h : X → Y) {ends : Walked M R → X} {next : Front M R → X} {ends' : Walked M R → Y} {next' : Front M R → Y} →
    ((w : Walked M R) → h (ends w) ≡ ends' w) →
    ((f : Front M R) → h (next f) ≡ next' f) →
    (t : Turn M R) →
    h (after_turn ends next t) ≡ after_turn ends' next' t
under-turn h at_ends at_next (over w) = at_ends w
under-turn h at_ends at_next (goes f) = at_next f

module _
    {M R : Type 0}
    (eq : M → M → Bool)
    (row_of : M → Option ℕ)
    (ways : Bool → M → Tried (Ways M R))
    (units : M → ℕ)
  where
    -- with no lineage left a run has ended, whatever its budget and gas
    pub run_none : (budget gas : ℕ) (n : Notes M R) → run eq row_of ways units budget gas (none_left n) ≡ ended (answered n)
    unfolding run close turn
    run_none budget zero n = refl
    run_none zero (suc gas) n = refl
    run_none (suc budget) (suc gas) n = refl

    -- a run of a + b is a run of a and, if that paused, one of b from there
    pub run_add :
        (a b gas : ℕ) (f : Front M R) →
        run eq row_of ways units (a + b) gas f ≡ resume eq row_of ways units b (run eq row_of ways units a gas f)
    unfolding run resume
    run_add a b zero f = refl
    run_add zero b (suc gas) (none_left n) = run_none (zero + b) (suc gas) n
    run_add zero b (suc gas) (on_row row l ls n) = ap (λ k. run eq row_of ways units k (suc gas) (on_row row l ls n)) (zero-add b)
    run_add (suc a) b (suc gas) f =
        ap (λ k. run eq row_of ways units k (suc gas) f) (suc-add a b) ∙
        sym (under-turn (resume eq row_of ways units b) (λ w. refl) (λ f'. sym (run_add a b gas f')) (turn eq row_of ways units f))

    -- with a budget of all the gas a run has ended, and is the whole walk
    pub run_all :
        (budget gas : ℕ) (f : Front M R) →
        gas ≤ budget →
        run eq row_of ways units budget gas f ≡ ended (walk_on eq row_of ways units gas f)
    unfolding run walk_on
    run_all budget zero f h = refl
    run_all zero (suc gas) f h = absurd (omega arith)
    run_all (suc budget) (suc gas) f h =
        sym (under-turn ended (λ w. refl) (λ f'. sym (run_all budget gas f' (omega arith))) (turn eq row_of ways units f))

    -- where the walk ends from a place of a run
    complete : Progress M R → Walked M R
    complete (paused gas f) = walk_on eq row_of ways units gas f
    complete (ended w) = w

    -- every run goes on to the walk's own end
    run_complete : (budget gas : ℕ) (f : Front M R) → complete (run eq row_of ways units budget gas f) ≡ walk_on eq row_of ways units gas f
    unfolding run complete walk_on turn
    run_complete budget zero f = refl
    run_complete zero (suc gas) (none_left n) = refl
    run_complete zero (suc gas) (on_row row l ls n) = refl
    run_complete (suc budget) (suc gas) f = under-turn complete (λ w. refl) (run_complete budget gas) (turn eq row_of ways units f)

    module _ (budget gas : ℕ) (f : Front M R) where
      -- from where a run paused the walk is the walk from its start
      pub paused_walk :
          {gas' : ℕ} {f' : Front M R} →
          run eq row_of ways units budget gas f ≡ paused gas' f' →
          walk_on eq row_of ways units gas' f' ≡ walk_on eq row_of ways units gas f
      unfolding complete
      paused_walk e = sym (ap complete e) ∙ run_complete budget gas f

      -- where a run has ended the walk has
      pub ended_walk : {w : Walked M R} → run eq row_of ways units budget gas f ≡ ended w → w ≡ walk_on eq row_of ways units gas f
      unfolding complete
      ended_walk e = sym (ap complete e) ∙ run_complete budget gas f

-- taking up and closing charge nothing
module _ {M R : Type 0} (row_of : M → Option ℕ) where
  take_up_charged : (ls : List (Lineage M)) (n : Notes M R) → (notes_at (take_up row_of ls n)).charged ≡ n.charged
  unfolding take_up
  take_up_charged [] n = refl
  take_up_charged (l ∷ ls) n = go (row_of l.mem) (take_up_charged ls (note_taken l.mem n))
    where
      n' : Notes M R
      n' = note_taken l.mem n

      go :
          (o : Option ℕ) →
          (notes_at (take_up row_of ls n')).charged ≡ n.charged →
          (notes_at {M = M} {R = R} (elim o [ None ↦ take_up row_of ls n' | Some row ↦ on_row row l ls n' ])).charged ≡ n.charged
      go None rest = rest
      go (Some row) rest = refl

  go_on_charged : (c : Option (Lineage M)) (ls : List (Lineage M)) (n : Notes M R) → (notes_at (go_on row_of c ls n)).charged ≡ n.charged
  unfolding go_on
  go_on_charged None ls n = take_up_charged ls n
  go_on_charged (Some l) ls n = go (row_of l.mem)
    where
      go : (o : Option ℕ) → (notes_at {M = M} {R = R} (elim o [ None ↦ take_up row_of ls n | Some row ↦ on_row row l ls n ])).charged ≡ n.charged
      go None = take_up_charged ls n
      go (Some row) = refl

  close_all_charged : (ls : List (Lineage M)) (n : Notes M R) → (close_all row_of ls n).charged ≡ n.charged
  unfolding close_all
  close_all_charged [] n = refl
  close_all_charged (l ∷ ls) n = go (row_of l.mem) (close_all_charged ls)
    where
      n' : Notes M R
      n' = note_taken l.mem n

      go :
          (o : Option ℕ) →
          ((x : Notes M R) → (close_all row_of ls x).charged ≡ x.charged) →
          (elim o as (λ _. Notes M R) [ None ↦ close_all row_of ls n' | Some row ↦ close_all row_of ls (gas_stop n') ]).charged ≡ n.charged
      go None rest = rest n'
      go (Some row) rest = rest (gas_stop n')

  close_charged : (f : Front M R) → (notes_of (close row_of f)).charged ≡ (notes_at f).charged
  unfolding close
  close_charged (none_left n) = refl
  close_charged (on_row row l ls n) = close_all_charged ls (gas_stop n)

-- what a turn may come to have charged
abbrev ChargedAfter : {M R : Type 0} → ℕ → Turn M R → Type 0
ChargedAfter total (over w) = (notes_of w).charged ≤ total
ChargedAfter total (goes f) = (notes_at f).charged ≡ total

-- what a run from this charge, with this budget and this gas, has charged, and the gas that it has left
abbrev Spends : {M R : Type 0} → ℕ → ℕ → ℕ → Progress M R → Type 0
Spends charged budget gas (paused gas' f) = ((notes_at f).charged ≡ charged + budget) × (gas' + budget ≡ gas)
Spends charged budget gas (ended w) = (notes_of w).charged ≤ charged + budget

spends_more :
    {M R : Type 0} (c c' budget gas : ℕ) →
    c' ≡ c + 1 →
    (p : Progress M R) →
    Spends c' budget gas p →
    Spends c (suc budget) (suc gas) p
spends_more c c' budget gas e (paused gas' f) s = (omega arith, omega arith)
spends_more c c' budget gas e (ended w) s = omega arith

module _
    {M R : Type 0}
    (eq : M → M → Bool)
    (row_of : M → Option ℕ)
    (ways : Bool → M → Tried (Ways M R))
    (units : M → ℕ)
  where
    turn_charged : (f : Front M R) → ChargedAfter ((notes_at f).charged + 1) (turn eq row_of ways units f)
    unfolding turn handle_if follow_ways settle
    turn_charged (none_left n) = omega arith
    turn_charged (on_row row l ls n) = limit (under_limit row l.past)
      where
        branches :
            (w : Ways M R) (n' : Notes M R) (o : Offered M) →
            n'.charged ≡ n.charged + 1 →
            ChargedAfter (n.charged + 1) (settle row_of (row ∷ l.past) w n' o)
        branches w n' full e = omega arith
        branches w n' (offered ls' rem sp) e = go_on_charged row_of (onward w.stays (row ∷ l.past)) ls' (note_ways w rem sp n') ∙ e

        follow :
            (t : Tried (Ways M R)) (n' : Notes M R) →
            n'.charged ≡ n.charged + 1 →
            ChargedAfter (n.charged + 1) (follow_ways eq row_of ways units (row ∷ l.past) ls n' t)
        follow (refused j) n' e = omega arith
        follow (done w) n' e = branches w n' (offer eq units (row ∷ l.past) w.branches ls n'.remembered n'.space) e

        limit : (b : Bool) → ChargedAfter (n.charged + 1) (handle_if eq row_of ways units b row l ls (charge n))
        limit true = follow (ways (handled_before row l.past) l.mem) _ refl
        limit false = take_up_charged row_of ls (loop_stop (charge n))

    run_spends : (budget gas : ℕ) (f : Front M R) → Spends (notes_at f).charged budget gas (run eq row_of ways units budget gas f)
    unfolding run
    run_spends budget zero f = omega (arith, close_charged row_of f)
    run_spends zero (suc gas) (none_left n) = omega arith
    run_spends zero (suc gas) (on_row row l ls n) = (omega arith, omega arith)
    run_spends (suc budget) (suc gas) f = go (turn eq row_of ways units f) (turn_charged f) (run_spends budget gas)
      where
        go :
            (t : Turn M R) →
            ChargedAfter ((notes_at f).charged + 1) t →
            ((f' : Front M R) → Spends (notes_at f').charged budget gas (run eq row_of ways units budget gas f')) →
            Spends (notes_at f).charged (suc budget) (suc gas) (after_turn ended (λ f'. run eq row_of ways units budget gas f') t)
        go (over w) e rest = omega arith
        go (goes f') e rest = spends_more (notes_at f).charged (notes_at f').charged budget gas e (run eq row_of ways units budget gas f') (rest f')

    module _ (budget gas : ℕ) (f : Front M R) where
      -- a paused run has charged exactly its budget, and has that much less gas
      pub paused_spent :
          {gas' : ℕ} {f' : Front M R} →
          run eq row_of ways units budget gas f ≡ paused gas' f' →
          ((notes_at f').charged ≡ (notes_at f).charged + budget) × (gas' + budget ≡ gas)
      paused_spent e = subst (Spends (notes_at f).charged budget gas) e (run_spends budget gas f)

      -- one that has ended has charged at most its budget
      pub ended_spent : {w : Walked M R} → run eq row_of ways units budget gas f ≡ ended w → (notes_of w).charged ≤ (notes_at f).charged + budget
      ended_spent e = subst (Spends (notes_at f).charged budget gas) e (run_spends budget gas f)
