-- A fact of the fresh start that every row hands on to its ways holds of every state of the walk, however it ends. Assumes nothing.
use mathlib.Core.Path.{◌≡◌, refl, subst}
use mathlib.Core.Logic.{inl, inr}
use mathlib.Core.Bool.{Bool}
use Rattle.std.specs.Prelude.{Option, None, Some}
use mathlib.Core.List.{List, [], ◌∷◌}
use Prim.Native.Nat.{ℕ}
use Rattle.model.specs.Walk.{◌∈◌, Tried, done, Ways, Lineage, mems, onward, Notes, charge, loop_stop, gas_stop, notes_of, handled_before, walk}
use Rattle.model.specs.Steps.{pick}
use Rattle.model.specs.WalkClaims.{Everywhere}
use Rattle.model.proofs.Kept.{alive, HandledRow, Keeps, came, row_offers, at_end}

module _
    {M R : Type 0}
    (eq : M → M → Bool)
    (row_of : M → Option ℕ)
    (ways : Bool → M → Tried (Ways M R))
    (units : M → ℕ)
    (S : M → Type 0)
    (hands_on : (again : Bool) (m : M) (w : Ways M R) → S m → ways again m ≡ done w → (k : ℕ) (s : M) → pick k w ≡ Some s → S s)
  where
    -- of the lineages that the walk still has
    abbrev Alive : List (Lineage M) → Type 0
    Alive ls = (l : Lineage M) → l ∈ ls → S l.mem

    state_of : (ls : List (Lineage M)) → Alive ls → (m : M) → m ∈ mems ls → S m
    state_of [] h m i = elim i [ ]
    state_of (l ∷ ls) h m (inl e) = subst S e (h l (inl refl))
    state_of (l ∷ ls) h m (inr i) = state_of ls (λ x j. h x (inr j)) m i

    also : (xs : List M) (x : M) → S x → ((m : M) → m ∈ xs → S m) → (m : M) → m ∈ (x ∷ xs) → S m
    also xs x p h m (inl e) = subst S e p
    also xs x p h m (inr i) = h m i

    record At (c : Option (Lineage M)) (ls : List (Lineage M)) (n : Notes M R) : Type 0 where
      now : Alive (alive c ls)
      noted : Everywhere S n

    -- counts alone change
    same : {n : Notes M R} (n' : Notes M R) → n'.handled ≡ n.handled → n'.remembered ≡ n.remembered → n'.taken ≡ n.taken → Everywhere S n → Everywhere S n'
    same n' eh er et p =
        record {
          handled = λ m i. p.handled m (subst (λ x. m ∈ mems x) eh i);
          remembered = λ m i. p.remembered m (subst (λ x. m ∈ x) er i);
          taken = λ m i. p.taken m (subst (λ x. m ∈ x) et i);
        }

    module _
        {row : ℕ}
        {l : Lineage M}
        {ls : List (Lineage M)}
        {n : Notes M R}
        {w : Ways M R}
        {ls' : List (Lineage M)}
        {remembered' : List M}
        {space' : ℕ}
        (h : HandledRow eq row_of ways units row l ls n w ls' remembered' space')
        (p : At (Some l) ls n)
      where
        here : S l.mem
        here = p.now l (inl refl)

        alive_now : Alive (alive (onward w.stays (row ∷ l.past)) ls')
        alive_now x i =
            elim (came eq row_of ways units h x i) [
              | inl j ↦ p.now x (inr j)
              | inr j ↦ hands_on (handled_before row l.past) l.mem w here h.is j.number x.mem j.goes
            ]

        waiting : (c : Option (Lineage M)) → Alive (alive c ls') → Alive ls'
        waiting None q = q
        waiting (Some y) q = λ x i. q x (inr i)

        remembered_now : (m : M) → m ∈ remembered' → S m
        remembered_now m i =
            elim ((row_offers eq row_of ways units h).only m i) [
              | inl j ↦ p.noted.remembered m j
              | inr j ↦ state_of ls' (waiting (onward w.stays (row ∷ l.past)) alive_now) m j
            ]

    keeps : Keeps eq row_of ways units (λ g c ls n. At c ls n) (Everywhere S)
    keeps =
        record {
          takes =
              λ {l = l} {n = n} p.
              record {
                now = p.now;
                noted = record { handled = p.noted.handled; remembered = p.noted.remembered; taken = also n.taken l.mem (p.now l (inl refl)) p.noted.taken };
              };
          leaves = λ e p. record { now = λ x i. p.now x (inr i); noted = p.noted };
          loops = λ {n = n} at under p. record { now = λ x i. p.now x (inr i); noted = same (loop_stop (charge n)) refl refl refl p.noted };
          empties = λ {n = n} p. record { now = λ x i. p.now x (inr i); noted = same (gas_stop n) refl refl refl p.noted };
          handles =
              λ {l = l} {n = n} h p.
              record {
                now = alive_now h p;
                noted = record { handled = also (mems n.handled) l.mem (here h p) p.noted.handled; remembered = remembered_now h p; taken = p.noted.taken };
              };
          refuses =
              λ {l = l} {n = n} at under p.
              record { handled = also (mems n.handled) l.mem (p.now l (inl refl)) p.noted.handled; remembered = p.noted.remembered; taken = p.noted.taken };
        }

    pub everywhere : (gas : ℕ) (fresh : M) (space : ℕ) → S fresh → Everywhere S (notes_of (walk eq row_of ways units gas fresh space))
    everywhere gas fresh space first =
        at_end eq row_of ways units (λ g c ls n. At c ls n) (Everywhere S) keeps gas fresh space
        (record {
          now = λ l i. elim i [ inl e ↦ subst (λ (x : Lineage M). S x.mem) e first | inr j ↦ absurd j ];
          noted = record { handled = λ m i. absurd i; remembered = λ m i. absurd i; taken = λ m i. absurd i };
        })
        (λ g n p. p.noted)
