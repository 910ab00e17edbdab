-- The one induction over a walk: a fact about the gas left, the current lineage, the waiting ones and the notes that each small step keeps
-- holds where the walk is answered; where it is refused, what the step of a refusal says. Assumes nothing.
use mathlib.Core.Path.{◌≡◌, refl, sym, ap, subst, ◌∙◌}
use mathlib.Core.Logic.{◌⊎◌, inl, inr}
use mathlib.Core.Bool.{Bool, true, false}
use Rattle.std.specs.Prelude.{Option, None, Some}
use mathlib.Core.List.{List, [], ◌∷◌}
use Prim.Native.Nat.{ℕ, zero, suc}
use Rattle.model.specs.Walk.{◌∈◌, Tried, refused, done, Ways, Lineage, start_waiting, add_row, onward, Notes, charge, loop_stop, gas_stop, note_taken, note_handled, note_ways, start_notes, Walked, refused_with, answered, notes_of, Front, none_left, on_row, take_up, go_on, close_all, begin, Offered, full, offered, offer, handled_before, under_limit, Turn, over, goes, after_turn, settle, close, follow_ways, handle_if, turn, walk_on, walk}
use Rattle.model.specs.Steps.{pick, WayOf}
use Rattle.model.proofs.Lists.{place_of}
use Rattle.model.proofs.Offer.{Offers, offers}

-- the lineages that the walk still has: the current one and those that wait
abbrev pub alive : {M : Type 0} → Option (Lineage M) → List (Lineage M) → List (Lineage M)
alive None ls = ls
alive (Some l) ls = l ∷ ls

module _
    {M R : Type 0}
    (eq : M → M → Bool)
    (row_of : M → Option ℕ)
    (ways : Bool → M → Tried (Ways M R))
    (units : M → ℕ)
  where
    -- a lineage's row is handled, not refused, and then these lineages wait, these states are remembered, this space is left
    pub record HandledRow
        (row : ℕ)
        (l : Lineage M)
        (ls : List (Lineage M))
        (n : Notes M R)
        (w : Ways M R)
        (ls' : List (Lineage M))
        (remembered' : List M)
        (space' : ℕ)
        : Type 0
      where
        pub at : row_of l.mem ≡ Some row
        pub under : under_limit row l.past ≡ true
        pub is : ways (handled_before row l.past) l.mem ≡ done w
        pub gives : offer eq units (row ∷ l.past) w.branches ls n.remembered n.space ≡ offered ls' remembered' space'

    module _
        {row : ℕ}
        {l : Lineage M}
        {ls : List (Lineage M)}
        {n : Notes M R}
        {w : Ways M R}
        {ls' : List (Lineage M)}
        {remembered' : List M}
        {space' : ℕ}
        (h : HandledRow row l ls n w ls' remembered' space')
      where
        pub row_offers : Offers eq (row ∷ l.past) w.branches ls n.remembered ls' remembered'
        row_offers = offers eq units (row ∷ l.past) w.branches ls n.remembered n.space h.gives

        -- a lineage that is alive then waited before, or is one of the row's ways
        pub came : (x : Lineage M) → x ∈ alive (onward w.stays (row ∷ l.past)) ls' → (x ∈ ls) ⊎ WayOf w (row ∷ l.past) x
        unfolding pick
        came x i = go w.stays refl i
          where
            waited : x ∈ ls' → (x ∈ ls) ⊎ WayOf w (row ∷ l.past) x
            waited j =
                elim (row_offers.from x j) [
                  | inl a ↦ inl a
                  | inr a ↦ let p = place_of w.branches x.mem a.1 in inr (record { number = suc p.0; goes = p.1; same = a.0 })
                ]

            go : (o : Option M) → w.stays ≡ o → x ∈ alive (onward o (row ∷ l.past)) ls' → (x ∈ ls) ⊎ WayOf w (row ∷ l.past) x
            go None e j = waited j
            go (Some m) e (inl a) = inr (record { number = zero; goes = e ∙ ap (λ y. Some y.mem) a; same = sym (ap (λ y. y.past) a) })
            go (Some m) e (inr j) = waited j

    module _ (P : ℕ → Option (Lineage M) → List (Lineage M) → Notes M R → Type 0) (Q : Notes M R → Type 0) where
      -- the small steps keep P, and a refusal gives Q
      pub record Keeps : Type 0 where
        -- a waiting lineage is taken up
        pub takes : {g : ℕ} {l : Lineage M} {ls : List (Lineage M)} {n : Notes M R} → P g None (l ∷ ls) n → P g (Some l) ls (note_taken l.mem n)
        -- the current lineage ends outside the listing
        pub leaves : {g : ℕ} {l : Lineage M} {ls : List (Lineage M)} {n : Notes M R} → row_of l.mem ≡ None → P g (Some l) ls n → P g None ls n
        -- the loop limit closes it
        pub loops :
            {g row : ℕ} {l : Lineage M} {ls : List (Lineage M)} {n : Notes M R} →
            row_of l.mem ≡ Some row →
            under_limit row l.past ≡ false →
            P (suc g) (Some l) ls n →
            P g None ls (loop_stop (charge n))
        -- the lack of gas closes it
        pub empties : {l : Lineage M} {ls : List (Lineage M)} {n : Notes M R} → P zero (Some l) ls n → P zero None ls (gas_stop n)
        -- its row is handled
        pub handles :
            {g row : ℕ} {l : Lineage M} {ls : List (Lineage M)} {n : Notes M R} →
            {w : Ways M R} {ls' : List (Lineage M)} {remembered' : List M} {space' : ℕ} →
            HandledRow row l ls n w ls' remembered' space' →
            P (suc g) (Some l) ls n →
            P g (onward w.stays (row ∷ l.past)) ls' (note_ways w remembered' space' (note_handled (add_row row l) (charge n)))
        -- its row is refused, or a branch of it
        pub refuses :
            {g row : ℕ} {l : Lineage M} {ls : List (Lineage M)} {n : Notes M R} →
            row_of l.mem ≡ Some row →
            under_limit row l.past ≡ true →
            P (suc g) (Some l) ls n →
            Q (note_handled (add_row row l) (charge n))

      abbrev AtFront : ℕ → Front M R → Type 0
      AtFront g (none_left n) = P g None [] n
      AtFront g (on_row row l ls n) = (row_of l.mem ≡ Some row) × P g (Some l) ls n

      abbrev AtEnd : Walked M R → Type 0
      AtEnd (refused_with k n) = Q n
      AtEnd (answered n) = (g : ℕ) × P g None [] n

      abbrev AtTurn : ℕ → Turn M R → Type 0
      AtTurn g (over w) = AtEnd w
      AtTurn g (goes f) = AtFront g f

      module _ (k : Keeps) where
        take_up_keeps : (g : ℕ) (ls : List (Lineage M)) (n : Notes M R) → P g None ls n → AtFront g (take_up row_of ls n)
        unfolding take_up
        take_up_keeps g [] n p = p
        take_up_keeps g (l ∷ ls) n p = go (row_of l.mem) refl (take_up_keeps g ls (note_taken l.mem n))
          where
            n' : Notes M R
            n' = note_taken l.mem n

            go :
                (o : Option ℕ) →
                row_of l.mem ≡ o →
                (P g None ls n' → AtFront g (take_up row_of ls n')) →
                AtFront g (elim o [ None ↦ take_up row_of ls n' | Some row ↦ on_row row l ls n' ])
            go None e rest = rest (k.leaves e (k.takes p))
            go (Some row) e rest = (e, k.takes p)

        go_on_keeps : (g : ℕ) (c : Option (Lineage M)) (ls : List (Lineage M)) (n : Notes M R) → P g c ls n → AtFront g (go_on row_of c ls n)
        unfolding go_on
        go_on_keeps g None ls n p = take_up_keeps g ls n p
        go_on_keeps g (Some l) ls n p = go (row_of l.mem) refl
          where
            go : (o : Option ℕ) → row_of l.mem ≡ o → AtFront g (elim o [ None ↦ take_up row_of ls n | Some row ↦ on_row row l ls n ])
            go None e = take_up_keeps g ls n (k.leaves e p)
            go (Some row) e = (e, p)

        close_all_keeps : (ls : List (Lineage M)) (n : Notes M R) → P zero None ls n → P zero None [] (close_all row_of ls n)
        unfolding close_all
        close_all_keeps [] n p = p
        close_all_keeps (l ∷ ls) n p = go (row_of l.mem) refl (close_all_keeps ls)
          where
            n' : Notes M R
            n' = note_taken l.mem n

            go :
                (o : Option ℕ) →
                row_of l.mem ≡ o →
                ((x : Notes M R) → P zero None ls x → P zero None [] (close_all row_of ls x)) →
                P zero None [] (elim o [ None ↦ close_all row_of ls n' | Some row ↦ close_all row_of ls (gas_stop n') ])
            go None e rest = rest n' (k.leaves e (k.takes p))
            go (Some row) e rest = rest (gas_stop n') (k.empties (k.takes p))

        close_keeps : (f : Front M R) → AtFront zero f → AtEnd (close row_of f)
        unfolding close
        close_keeps (none_left n) p = (zero, p)
        close_keeps (on_row row l ls n) p = (zero, close_all_keeps ls (gas_stop n) (k.empties p.1))

        handle_keeps :
            (g row : ℕ) (l : Lineage M) (ls : List (Lineage M)) (n : Notes M R) →
            row_of l.mem ≡ Some row →
            P (suc g) (Some l) ls n →
            (b : Bool) →
            under_limit row l.past ≡ b →
            AtTurn g (handle_if eq row_of ways units b row l ls (charge n))
        unfolding handle_if follow_ways settle
        handle_keeps g row l ls n at p false et = take_up_keeps g ls (loop_stop (charge n)) (k.loops at et p)
        handle_keeps g row l ls n at p true et = follow (ways (handled_before row l.past) l.mem) refl
          where
            n' : Notes M R
            n' = note_handled (add_row row l) (charge n)

            branches :
                (w : Ways M R) →
                ways (handled_before row l.past) l.mem ≡ done w →
                (o : Offered M) →
                offer eq units (row ∷ l.past) w.branches ls n.remembered n.space ≡ o →
                AtTurn g (settle row_of (row ∷ l.past) w n' o)
            branches w ew full eo = k.refuses at et p
            branches w ew (offered ls' rem sp) eo =
                go_on_keeps g (onward w.stays (row ∷ l.past)) ls' (note_ways w rem sp n')
                (k.handles (record { at = at; under = et; is = ew; gives = eo }) p)

            follow :
                (t : Tried (Ways M R)) →
                ways (handled_before row l.past) l.mem ≡ t →
                AtTurn g (follow_ways eq row_of ways units (row ∷ l.past) ls n' t)
            follow (refused j) ew = k.refuses at et p
            follow (done w) ew = branches w ew (offer eq units (row ∷ l.past) w.branches ls n.remembered n.space) refl

        turn_keeps : (g : ℕ) (f : Front M R) → AtFront (suc g) f → AtTurn g (turn eq row_of ways units f)
        unfolding turn
        turn_keeps g (none_left n) p = (suc g, p)
        turn_keeps g (on_row row l ls n) p = handle_keeps g row l ls n p.0 p.1 (under_limit row l.past) refl

        walk_on_keeps : (g : ℕ) (f : Front M R) → AtFront g f → AtEnd (walk_on eq row_of ways units g f)
        unfolding walk_on
        walk_on_keeps zero f p = close_keeps f p
        walk_on_keeps (suc g) f p = go (turn eq row_of ways units f) (turn_keeps g f p) (walk_on_keeps g)
          where
            go :
                (t : Turn M R) →
                AtTurn g t →
                ((f' : Front M R) → AtFront g f' → AtEnd (walk_on eq row_of ways units g f')) →
                AtEnd (after_turn (λ w. w) (λ f'. walk_on eq row_of ways units g f') t)
            go (over w) q rest = q
            go (goes f') q rest = rest f' q

        module _ (gas : ℕ) (fresh : M) (space : ℕ) (start : P gas None (start_waiting fresh) (start_notes space)) where
          walk_keeps : AtEnd (walk eq row_of ways units gas fresh space)
          unfolding walk begin
          walk_keeps = walk_on_keeps gas (begin row_of fresh space) (take_up_keeps gas (start_waiting fresh) (start_notes space) start)

          -- at an answer P holds, with nothing left to follow
          pub at_answer : {n : Notes M R} → walk eq row_of ways units gas fresh space ≡ answered n → (g : ℕ) × P g None [] n
          at_answer e = subst AtEnd e walk_keeps

          -- what follows from P then, and from a refusal, holds however the walk ends
          pub at_end : ((g : ℕ) (n : Notes M R) → P g None [] n → Q n) → Q (notes_of (walk eq row_of ways units gas fresh space))
          at_end finish = go (walk eq row_of ways units gas fresh space) walk_keeps
            where
              go : (w : Walked M R) → AtEnd w → Q (notes_of w)
              go (refused_with j n) q = q
              go (answered n) q = finish q.0 n q.1
