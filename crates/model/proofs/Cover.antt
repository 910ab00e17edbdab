-- An answered walk whose notes are quiet has handled every state that lists of allowed steps reach in the listing, and counted exactly the
-- result rows that they reach. Assumes nothing.
use mathlib.Core.Path.{◌≡◌, refl, sym, ap, subst, ◌∙◌}
use mathlib.Core.Logic.{inl, inr}
use mathlib.Core.Bool.{Bool, true, false}
use Rattle.std.specs.Prelude.{Option, None, Some}
use mathlib.Core.List.{List, [], ◌∷◌}
use Prim.Native.Nat.{ℕ, zero, suc}
use native.Mathlib.Omega.{arith}
use Rattle.model.specs.Walk.{◌∈◌, Tried, done, Ways, Lineage, start_waiting, add_row, onward, mems, Notes, note_result, note_repeat, start_notes, answered, handled_before, walk}
use Rattle.model.specs.Steps.{pick, step, follow, Reach, Offering, Result}
use Rattle.model.specs.WalkClaims.{Sound, RepeatsCounted, Quiet, Coverage}
use Rattle.std.proofs.lemmas.Option.{none-some, same_Some}
use Rattle.model.proofs.Lists.{element_at}
use Rattle.model.proofs.Reaching.{step_offered, Taken, step_taken, nowhere, further}
use Rattle.model.proofs.Kept.{alive, Keeps, HandledRow, row_offers, came, at_answer}
use Rattle.model.proofs.Tried.{done-same}

-- the way that goes on is alive, and so is what waits
alive-onward : {M : Type 0} (o : Option M) (past : List ℕ) (ls : List (Lineage M)) (t : M) → o ≡ Some t → t ∈ mems (alive (onward o past) ls)
alive-onward None past ls t e = absurd (none-some _ e)
alive-onward (Some m) past ls t e = inl (same_Some _ _ e)

alive_waiting : {M : Type 0} (c : Option (Lineage M)) (ls : List (Lineage M)) (t : M) → t ∈ mems ls → t ∈ mems (alive c ls)
alive_waiting None ls t h = h
alive_waiting (Some l) ls t h = inr h

-- a row's result is counted, and so is what was
counts_result : {R : Type 0} (o : Option R) (rs : List R) (r : R) → o ≡ Some r → r ∈ note_result o rs
counts_result None rs r e = absurd (none-some _ e)
counts_result (Some x) rs r e = inl (same_Some _ _ e)

counts_still : {R : Type 0} (o : Option R) (rs : List R) (r : R) → r ∈ rs → r ∈ note_result o rs
counts_still None rs r h = h
counts_still (Some x) rs r h = inr h

no_repeat : (b : Bool) (k : ℕ) → note_repeat b k ≡ 0 → (b ≡ false) × (k ≡ 0)
no_repeat false k e = (refl, e)
no_repeat true k e = absurd (omega arith)

module _ {M R : Type 0} (row_of : M → Option ℕ) (ways : Bool → M → Tried (Ways M R)) (fresh : M) where
  -- a state is accounted for
  data Accounted (ls hs : List (Lineage M)) (t : M) : Type 0 where
    handled : t ∈ mems hs → Accounted ls hs t
    outside : row_of t ≡ None → Accounted ls hs t
    waits : t ∈ mems ls → Accounted ls hs t

  -- a handled state: its ways are accounted for, and its result row is counted
  record Closed (ls hs : List (Lineage M)) (rs : List R) (m : M) : Type 0 where
    way : Ways M R
    offering : Offering row_of ways m way
    next : (k : ℕ) (t : M) → pick k way ≡ Some t → Accounted ls hs t
    result : (r : R) → way.result ≡ Some r → r ∈ rs

  -- what the walk knows of the lists of allowed steps while it goes on
  record Covered (ls hs : List (Lineage M)) (remembered : List M) (rs : List R) : Type 0 where
    start : Accounted ls hs fresh
    known : (t : M) → t ∈ remembered → Accounted ls hs t
    closed : (t : M) → t ∈ mems hs → Closed ls hs rs t
    reach : (l : Lineage M) → l ∈ ls → Reach row_of ways fresh l.mem
    fair : (r : R) → r ∈ rs → Result row_of ways fresh r

  -- a handled state stays closed where what was accounted for stays so, and what was counted
  still_closed :
      {ls hs ls' hs' : List (Lineage M)} {rs rs' : List R} {t : M} →
      ((u : M) → Accounted ls hs u → Accounted ls' hs' u) →
      ((r : R) → r ∈ rs → r ∈ rs') →
      Closed ls hs rs t →
      Closed ls' hs' rs' t
  still_closed stays counts c =
      record { way = c.way; offering = c.offering; next = λ k u e. stays u (c.next k u e); result = λ r e. counts r (c.result r e) }

  -- a lineage that ends outside the listing leaves all covered
  left :
      {l : Lineage M} {ls hs : List (Lineage M)} {remembered : List M} {rs : List R} →
      row_of l.mem ≡ None →
      Covered (l ∷ ls) hs remembered rs →
      Covered ls hs remembered rs
  left {l} {ls} {hs} out v =
      record {
        start = stays fresh v.start;
        known = λ t h. stays t (v.known t h);
        closed = λ t h. still_closed stays (λ r i. i) (v.closed t h);
        reach = λ x h. v.reach x (inr h);
        fair = v.fair;
      }
    where
      stays : (t : M) → Accounted (l ∷ ls) hs t → Accounted ls hs t
      stays t (handled h) = handled h
      stays t (outside e) = outside e
      stays t (waits (inl e)) = outside (subst (λ x. row_of x ≡ None) e out)
      stays t (waits (inr h)) = waits h

  -- the end: no lineage is left
  module _ {hs : List (Lineage M)} {remembered : List M} {rs : List R} (v : Covered [] hs remembered rs) where
    next_accounted : (k : ℕ) (m t : M) → Taken row_of ways k m t → Accounted [] hs m → Accounted [] hs t
    next_accounted k m t x (handled h) =
        let c = v.closed m h in
        c.next k t (sym (step_offered row_of ways k c.offering) ∙ step_offered row_of ways k x.offering ∙ x.goes)
    next_accounted k m t x (outside e) = absurd (none-some _ (sym e ∙ x.offering.at))
    next_accounted k m t x (waits h) = absurd h

    follow_accounted : (ks : List ℕ) (m t : M) → Accounted [] hs m → follow row_of ways ks m ≡ Some t → Accounted [] hs t
    unfolding follow
    follow_accounted [] m t a e = subst (Accounted [] hs) (same_Some _ _ e) a
    follow_accounted (k ∷ ks) m t a e = go (step row_of ways k m) refl e (λ b. follow_accounted ks b t)
      where
        go :
            (o : Option M) →
            step row_of ways k m ≡ o →
            ◌≡◌ {A = Option M} (elim o [ None ↦ None | Some b ↦ follow row_of ways ks b ]) (Some t) →
            ((b : M) → Accounted [] hs b → follow row_of ways ks b ≡ Some t → Accounted [] hs t) →
            Accounted [] hs t
        go None e₁ e₂ rest = absurd (none-some _ e₂)
        go (Some b) e₁ e₂ rest = rest b (next_accounted k m b (step_taken row_of ways k m b e₁) a) e₂

    all_handled : (m : M) → Reach row_of ways fresh m → (row : ℕ) → row_of m ≡ Some row → m ∈ mems hs
    all_handled m h row at = go (follow_accounted h.steps fresh m v.start h.leads)
      where
        go : Accounted [] hs m → m ∈ mems hs
        go (handled i) = i
        go (outside e) = absurd (none-some _ (sym e ∙ at))
        go (waits i) = absurd i

    all_counted : (r : R) → Result row_of ways fresh r → r ∈ rs
    all_counted r x =
        let c = v.closed x.state (all_handled x.state x.reach x.offering.row x.offering.at) in
        c.result r (ap (λ (w : Ways M R). w.result) (done-same (sym c.offering.is ∙ x.offering.is)) ∙ x.gives)

module _
    {M R : Type 0}
    (eq : M → M → Bool)
    (row_of : M → Option ℕ)
    (ways : Bool → M → Tried (Ways M R))
    (units : M → ℕ)
    (sound : Sound eq)
    (fresh : M)
  where
    -- a handled row, which offers what a first handling offers
    module _
        {row : ℕ}
        {l : Lineage M}
        {ls : List (Lineage M)}
        {n : Notes M R}
        {w : Ways M R}
        {ls' : List (Lineage M)}
        {remembered' : List M}
        {space' : ℕ}
        (h : HandledRow eq row_of ways units row l ls n w ls' remembered' space')
        (first : ways false l.mem ≡ done w)
        (v : Covered row_of ways fresh (l ∷ ls) n.handled n.remembered n.counted)
      where
        -- accounted for after the row
        abbrev Now : M → Type 0
        Now t = Accounted row_of ways fresh (alive (onward w.stays (row ∷ l.past)) ls') (add_row row l ∷ n.handled) t

        offering : Offering row_of ways l.mem w
        offering = record { row = row; at = h.at; is = first }

        here : Reach row_of ways fresh l.mem
        here = v.reach l (inl refl)

        stays : (t : M) → Accounted row_of ways fresh (l ∷ ls) n.handled t → Now t
        stays t (handled i) = handled (inr i)
        stays t (outside e) = outside e
        stays t (waits (inl e)) = handled (inl e)
        stays t (waits (inr i)) = waits (alive_waiting (onward w.stays (row ∷ l.past)) ls' t ((row_offers eq row_of ways units h).waits t i))

        known : (t : M) → t ∈ remembered' → Now t
        known t i =
            elim ((row_offers eq row_of ways units h).only t i) [
              | inl j ↦ stays t (v.known t j)
              | inr j ↦ waits (alive_waiting (onward w.stays (row ∷ l.past)) ls' t j)
            ]

        next : (k : ℕ) (t : M) → pick k w ≡ Some t → Now t
        unfolding pick
        next zero t e = waits (alive-onward w.stays (row ∷ l.past) ls' t e)
        next (suc k) t e = known t ((row_offers eq row_of ways units h).each sound t (element_at w.branches k t e))

        fair : (o : Option R) → w.result ≡ o → (r : R) → r ∈ note_result o n.counted → Result row_of ways fresh r
        fair None e r i = v.fair r i
        fair (Some x) e r (inl a) = record { state = l.mem; reach = here; way = w; offering = offering; gives = e ∙ ap Some a }
        fair (Some x) e r (inr i) = v.fair r i

        covered :
            Covered row_of ways fresh
            (alive (onward w.stays (row ∷ l.past)) ls')
            (add_row row l ∷ n.handled)
            remembered'
            (note_result w.result n.counted)
        covered =
            record {
              start = stays fresh v.start;
              known = known;
              closed =
                  λ t i.
                  elim i [
                    | inl e ↦
                        subst (Closed row_of ways fresh _ _ _) e
                        (record { way = w; offering = offering; next = next; result = counts_result w.result n.counted })
                    | inr j ↦ still_closed row_of ways fresh stays (counts_still w.result n.counted) (v.closed t j)
                  ];
              reach =
                  λ x i.
                  elim (came eq row_of ways units h x i) [
                    | inl j ↦ v.reach x (inr j)
                    | inr j ↦ further row_of ways j.number here offering j.goes
                  ];
              fair = fair w.result refl;
            }

    module _ (repeats : RepeatsCounted ways) where
      abbrev QuietCovered : ℕ → Option (Lineage M) → List (Lineage M) → Notes M R → Type 0
      QuietCovered g c ls n = Quiet n → Covered row_of ways fresh (alive c ls) n.handled n.remembered n.counted

      as_first : (again : Bool) (m : M) (w : Ways M R) → ways again m ≡ done w → w.repeat ≡ false → ways false m ≡ done w
      as_first false m w e q = e
      as_first true m w e q = repeats m w e q

      quiet_keeps : Keeps eq row_of ways units QuietCovered (λ n. Unit {0})
      quiet_keeps =
          record {
            takes = λ p q. p (record { loops = q.loops; gas = q.gas; repeat = q.repeat });
            leaves = λ out p q. left row_of ways fresh out (p q);
            loops = λ at under p q. absurd (not-zero q.loops);
            empties = λ p q. absurd (not-zero q.gas);
            handles =
                λ {row = row} {l = l} {n = n} {w = w} h p q.
                let c = no_repeat w.repeat n.repeats q.repeat in
                covered h (as_first (handled_before row l.past) l.mem w h.is c.0)
                (p (record { loops = q.loops; gas = q.gas; repeat = c.1 }));
            refuses = λ at under p. tt;
          }
        where
          not-zero : {k : ℕ} → suc k ≡ 0 → ⊥
          not-zero e = omega arith

      pub covers :
          (gas space : ℕ) (n : Notes M R) →
          walk eq row_of ways units gas fresh space ≡ answered n →
          Quiet n →
          Coverage row_of ways fresh n
      covers gas space n e q =
          record {
            reached = all_handled row_of ways fresh end;
            offers = λ m h row at. let c = end.closed m (all_handled row_of ways fresh end m h row at) in (c.way, c.offering);
            exact = λ r. (end.fair r, all_counted row_of ways fresh end r);
          }
        where
          start : QuietCovered gas None (start_waiting fresh) (start_notes space)
          start quiet =
              record {
                start = waits (inl refl);
                known = λ t h. absurd h;
                closed = λ t h. absurd h;
                reach = λ l h. elim h [ inl i ↦ subst (Reach row_of ways fresh) (ap (λ x. x.mem) i) (nowhere row_of ways fresh) | inr i ↦ absurd i ];
                fair = λ r h. absurd h;
              }

          end : Covered row_of ways fresh [] n.handled n.remembered n.counted
          end = (at_answer eq row_of ways units QuietCovered (λ n. Unit {0}) quiet_keeps gas fresh space start e).1 q
