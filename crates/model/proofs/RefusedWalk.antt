-- Why a walk is refused: a branch found no space, or a row was refused with that number. Assumes nothing.
use mathlib.Core.Path.{◌≡◌, refl, subst}
use mathlib.Core.Logic.{◌⊎◌, inl, inr}
use mathlib.Core.Bool.{Bool, true, false}
use Rattle.std.specs.Prelude.{Option}
use mathlib.Core.List.{List, ◌∷◌}
use Prim.Native.Nat.{ℕ, zero, suc}
use Rattle.model.specs.Walk.{Tried, refused, done, Ways, Lineage, add_row, Notes, charge, note_handled, Walked, refused_with, answered, Front, none_left, on_row, begin, Offered, full, offered, offer, handled_before, under_limit, Turn, over, goes, after_turn, settle, close, follow_ways, handle_if, turn, walk_on, walk}

module _
    {M R : Type 0}
    (eq : M → M → Bool)
    (row_of : M → Option ℕ)
    (ways : Bool → M → Tried (Ways M R))
    (units : M → ℕ)
  where
    abbrev pub Because : ℕ → Type 0
    Because k = (k ≡ 11) ⊎ ((again : Bool) × (m : M) × (ways again m ≡ refused k))

    abbrev AtEnd : Walked M R → Type 0
    AtEnd (refused_with k n) = Because k
    AtEnd (answered n) = Unit {0}

    abbrev AtTurn : Turn M R → Type 0
    AtTurn (over w) = AtEnd w
    AtTurn (goes f) = Unit {0}

    of_branches : (past : List ℕ) (w : Ways M R) (n : Notes M R) (o : Offered M) → AtTurn (settle row_of past w n o)
    unfolding settle
    of_branches past w n full = inl refl
    of_branches past w n (offered ls remembered space) = tt

    of_ways :
        (again : Bool) (m : M) (past : List ℕ) (ls : List (Lineage M)) (n : Notes M R) (t : Tried (Ways M R)) →
        ways again m ≡ t →
        AtTurn (follow_ways eq row_of ways units past ls n t)
    unfolding follow_ways
    of_ways again m past ls n (refused k) e = inr (again, m, e)
    of_ways again m past ls n (done w) e = of_branches past w n (offer eq units past w.branches ls n.remembered n.space)

    of_limit : (b : Bool) (row : ℕ) (l : Lineage M) (ls : List (Lineage M)) (n : Notes M R) → AtTurn (handle_if eq row_of ways units b row l ls n)
    unfolding handle_if
    of_limit false row l ls n = tt
    of_limit true row l ls n =
        of_ways (handled_before row l.past) l.mem (row ∷ l.past) ls (note_handled (add_row row l) n) (ways (handled_before row l.past) l.mem) refl

    of_turn : (f : Front M R) → AtTurn (turn eq row_of ways units f)
    unfolding turn
    of_turn (none_left n) = tt
    of_turn (on_row row l ls n) = of_limit (under_limit row l.past) row l ls (charge n)

    of_close : (f : Front M R) → AtEnd (close row_of f)
    unfolding close
    of_close (none_left n) = tt
    of_close (on_row row l ls n) = tt

    of_walk : (gas : ℕ) (f : Front M R) → AtEnd (walk_on eq row_of ways units gas f)
    unfolding walk_on
    of_walk zero f = of_close f
    of_walk (suc gas) f = go (turn eq row_of ways units f) (of_turn f) (of_walk gas)
      where
        go : (t : Turn M R) → AtTurn t → ((f' : Front M R) → AtEnd (walk_on eq row_of ways units gas f')) → AtEnd (after_turn (λ w. w) (λ f'. walk_on eq row_of ways units gas f') t)
        go (over w) q rest = q
        go (goes f') q rest = rest f'

    pub refused_because : (gas : ℕ) (fresh : M) (space k : ℕ) (n : Notes M R) → walk eq row_of ways units gas fresh space ≡ refused_with k n → Because k
    unfolding walk
    refused_because gas fresh space k n e = subst AtEnd e (of_walk gas (begin row_of fresh space))
