-- Both ways: the branch is an access behind the map, judged first, and what goes on is an access in place. Assumes nothing.
use Rattle.refusal.specs.declared.Refusal.{Refusal}
use Rattle.intmap.specs.Store.{Stored}
use mathlib.Core.Path.{◌≡◌, refl, sym, ap, ap₂, subst, ◌∙◌}
use Rattle.std.specs.Prelude.{Some, Ok, Err, Result}
use mathlib.Core.List.{List, [], ◌∷◌}
use Prim.Native.Nat.{ℕ, ◌+◌}
use native.Mathlib.Omega.{arith}
use lib.ListN.{length}
use Rattle.model.specs.Walk.{Tried}
use Rattle.model.specs.Row.{Row as Listed}
use Rattle.model.specs.State.{MemoryState as Defined}
use Rattle.model.specs.Offer.{offers}
use Rattle.model.specs.Access.{◌>>=◌, go_to, next}
use Rattle.model.proofs.Tried.{Kept, kept}
use Rattle.area.specs.Cells.{cells}
use Rattle.area.specs.declared.Cell.{Cell}
use Rattle.intmap.specs.Runs.{Agree}
use Rattle.intmap.specs.Map.{HasRoom, Frame, CopiedMap}
use Rattle.intmap.specs.Signed.{int_of}
use Rattle.intmap.specs.declared.IntMap.{IntMap}
use Rattle.intmap.proofs.MapLaws.{placed_room, frame_below, frame_above}
use Rattle.intmap.proofs.StoreLaws.{room_map}
use Rattle.encoding.proofs.Held.{held_elsewhere, held_go_to, held-copied}
use Rattle.rows.specs.Judged.{Judged}
use Rattle.rows.specs.declared.row.Row.{Row}
use Rattle.state.specs.Leads.{Held, HoldsMap, Tells, Stays, Leaves}
use Rattle.state.specs.Steps.{HoldsState, Offered, TellsStep, LeavesStep, Step}
use Rattle.state.specs.Stores.{cells_in, IsCurrent, LeavesStore, stored_in, Changes}
use Rattle.state.specs.declared.MemoryState.{MemoryState}
use Rattle.state.specs.declared.store.Store.{Store}
use Rattle.state.proofs.Stores.{same_then, no_refusal, same_at}
use Rattle.jump_arms.specs.Arms.{at, both_after, Puts, BothArm}
use Rattle.jump_arms.specs.Both.{Behind, at_map, Change, HeldWithRoom, StaysWithin, Second, BothWays}
use Rattle.jump_arms.proofs.StepLaws.{next_row, held_next, branches_and_goes}
use Rattle.jump_arms.proofs.StoreSteps.{SameRow, within}

-- what lies outside of what is written stays
kept_room : (limit : ℕ) (cs ds : List Cell) (a : IntMap) → HasRoom cs limit a → length ds ≡ length cs → Agree cs a.base ds a.base a.used → HasRoom ds limit a
kept_room limit cs ds a room long same =
    placed_room cs ds a a.base (record { used = room.used; inside = omega (arith, room.most, room.room); small = room.small }) same long limit room.most
    (omega (arith, long, room.room))

-- the map goes on behind itself
pub behind_of : (s : Store) (b : IntMap) (xs : List ℕ) → length xs ≡ length s.area.now → CopiedMap (cells_in s) (cells xs) s.map (s.map.base + s.limit) b → Behind s (record { map = b; area = record { ref_ptr = s.area.ref_ptr; ghost_name = s.area.ghost_name; now = xs }; limit = s.limit })
behind_of s b xs long copied = record { same = record { buffer = refl; length = long; limit = refl }; copied = copied }

-- what the first change answered, and then the second
pub ways : {F G : Change} {s t a : Store} {row p2 : ℕ} {r : Step} (u : Store) (q : Result (Unit {0}) Refusal) → Behind s a → F a q u → Second G s.map row p2 u t q r → BothWays F G s t row p2 r
ways u q b changed second = record { there = _; behind = b; first = q; left = u; changed = changed; second = second }

-- an access that writes within the map's room alone
abbrev pub PutsAny : ℕ → List Cell → List Cell → IntMap → Stored → Type 0
PutsAny limit cs ds a r = Leaves limit ds a r × Frame cs ds a.base limit

-- behind the first change, what both ways refuse is what the second did
both_kept : (b : MemoryState) (w : ℕ) (t : Store) {a : IntMap} (q : Result (Unit {0}) Refusal) → ((e : Refusal) → q ≡ Err e → t.map ≡ a) → (e : Refusal) → both_after b w (stored_in t q) ≡ Err e → t.map ≡ a
both_kept b w t (Err k) kept e is = kept k refl
both_kept b w t (Ok u) kept e is = no_refusal e is

-- what both ways tell, where y and z are what the two changes tell
pub record Told (G : Change) (s t a u : Store) (row : ℕ) (x : Row) (q : Result (Unit {0}) Refusal) (r : Step) : Type 0 where
  pub same : LeavesStore s t r
  pub says : (l : Listed) → Judged l x → (bound : ℕ) (m : Defined) → HoldsState s.limit bound (cells_in s) (at row s.map) m → (y z : Tried Defined)
      → (HoldsMap s.limit bound (cells_in a) a.map (go_to l.p2 m) → Tells s.limit bound (cells_in u) (stored_in u q) y) → Kept (SameRow (go_to l.p2 m)) y
      → ((p : Result (Unit {0}) Refusal) → HeldWithRoom (at_map s.map u) → G (at_map s.map u) p t → HoldsMap s.limit bound (cells_in u) s.map (next m) → Tells s.limit bound (cells_in t) (stored_in t p) z) → Kept (SameRow (next m)) z
      → TellsStep s.limit bound (cells_in t) r (y >>= λ branch. z >>= λ stays. offers (branch ∷ []) (Some stays))
  pub leaves : LeavesStep s.limit (cells_in t) (at row s.map) r
  pub frame : Frame (cells_in s) (cells_in t) s.map.base (s.limit + s.limit)

module _ {s a : Store} (current : IsCurrent s) (b : Behind s a) where
  base_is : a.map.base ≡ s.map.base + s.limit
  base_is = ap (λ m. m.base) b.copied.map

  behind_room : HasRoom (cells_in a) s.limit a.map
  behind_room =
      record {
        used = b.copied.is.used;
        most = omega (arith, ap (λ m. m.used) b.copied.map, current.room.most);
        room = omega (arith, base_is, b.copied.frame.long, current.scratch);
        small = b.copied.is.small;
      }

  copy_holds : (bound : ℕ) (m : Defined) → HoldsMap s.limit bound (cells_in s) s.map m → HoldsMap s.limit bound (cells_in a) a.map m
  copy_holds bound m h = held-copied s.limit bound (cells_in s) (cells_in a) _ s.map a.map m b.copied h

  held_by : (u : Store) {c : IntMap} → HasRoom (cells_in u) s.limit c → ((bound : ℕ) (m : Defined) → HoldsMap s.limit bound (cells_in s) s.map m → HoldsMap s.limit bound (cells_in u) c m) → Held (cells_in u) c
  held_by u room holds =
      record { map = room_map room; limit = s.limit; bound = current.bound; large = current.large; fits = current.fits; state = current.state; holds = holds current.bound current.state current.holds }

  pub first_ready : HeldWithRoom a
  first_ready = (rw b.same.limit behind_room, held_by a behind_room copy_holds)

  first_same : Agree (cells_in s) s.map.base (cells_in a) s.map.base s.map.used
  first_same = frame_below (cells_in s) (cells_in a) _ _ b.copied.frame s.map (omega (arith, current.room.most))

  -- after a change that wrote behind the map
  module _ (u : Store) (first : Frame (cells_in a) (cells_in u) a.map.base s.limit) where
    second_same : Agree (cells_in a) s.map.base (cells_in u) s.map.base s.map.used
    second_same = frame_below (cells_in a) (cells_in u) _ _ first s.map (omega (arith, base_is, current.room.most))

    state_room : HasRoom (cells_in u) s.limit s.map
    state_room =
        kept_room s.limit (cells_in a) (cells_in u) s.map (kept_room s.limit (cells_in s) (cells_in a) s.map current.room b.copied.frame.long first_same)
        first.long second_same

    map_holds : (bound : ℕ) (m : Defined) → HoldsMap s.limit bound (cells_in s) s.map m → HoldsMap s.limit bound (cells_in u) s.map m
    map_holds bound m h = held_elsewhere s.limit bound (cells_in a) _ _ _ m (held_elsewhere s.limit bound (cells_in s) _ _ _ m h (cells_in a) _ first_same) (cells_in u) _ second_same

    first_frame : Frame (cells_in s) (cells_in u) s.map.base (s.limit + s.limit)
    first_frame =
        record {
          long = first.long ∙ b.copied.frame.long;
          below = λ i lt. first.below i (omega (arith, base_is)) ∙ b.copied.frame.below i (omega arith);
          above = λ i le. first.above i (omega (arith, base_is)) ∙ b.copied.frame.above i (omega (arith, current.room.most));
        }

    -- and left the branch's map there; the second wrote in the state's room
    module _ (branch : Stays s.limit (cells_in u) a.map u.map) (t : Store) (second : Frame (cells_in u) (cells_in t) s.map.base s.limit) where
      branch_same : Agree (cells_in u) u.map.base (cells_in t) u.map.base u.map.used
      branch_same = frame_above (cells_in u) (cells_in t) _ _ second u.map (omega (arith, base_is, branch.base))

      both_frame : Frame (cells_in s) (cells_in t) s.map.base (s.limit + s.limit)
      both_frame =
          record {
            long = second.long ∙ first_frame.long;
            below = λ i lt. second.below i lt ∙ first_frame.below i lt;
            above = λ i le. second.above i (omega arith) ∙ first_frame.above i le;
          }

      both_leaves : (row p : ℕ) (r : Stored) → Leaves s.limit (cells_in t) s.map r → LeavesStep s.limit (cells_in t) (at row s.map) (both_after (at p u.map) (row + 1) r)
      both_leaves row p (Err k) leaves = tt
      both_leaves row p (Ok c) leaves = (
        record {
          above = omega (arith, base_is, branch.base);
          below = omega (arith, base_is, branch.base);
          room = kept_room s.limit (cells_in u) (cells_in t) u.map branch.room second.long branch_same;
        },
        (leaves.base, leaves.room),
      )

      -- y and z are what the two changes tell
      both_tells : (row : ℕ) (x : Row) (l : Listed) → Judged l x → (bound : ℕ) (m : Defined) → int_of row ≡ m.program_i → (y z : Tried Defined) → Tells s.limit bound (cells_in u) (Ok u.map) y → Kept (SameRow (go_to l.p2 m)) y → (r : Stored) → Tells s.limit bound (cells_in t) r z → Kept (SameRow (next m)) z → TellsStep s.limit bound (cells_in t) (both_after (at x.p2 u.map) (row + 1) r) (y >>= λ branch. z >>= λ stays. offers (branch ∷ []) (Some stays))
      both_tells row x l j bound m e y z told y-row (Err k) is z-row =
          ap (λ y. y >>= λ branch. z >>= λ stays. offers (branch ∷ []) (Some stays)) told.answer ∙ ap (λ z. z >>= λ stays. offers (told.state ∷ []) (Some stays)) is
      both_tells row x l j bound m e y z told y-row (Ok c) is z-row =
          subst (Offered s.limit bound (cells_in t) (Some (at x.p2 u.map)) (Some (at (row + 1) c)))
          (sym (ap₂ (λ y z. y >>= λ branch. z >>= λ stays. offers (branch ∷ []) (Some stays)) told.answer is.answer))
          (branches_and_goes
          (record { row = j.p2 ∙ sym (kept y-row told.answer); map = held_elsewhere s.limit bound (cells_in u) _ _ _ told.state told.holds (cells_in t) _ branch_same })
          (record { row = next_row row e ∙ sym (kept z-row is.answer); map = is.holds }))

  pub second_ready : {u : Store} → StaysWithin a u → HeldWithRoom (at_map s.map u)
  second_ready {u} (same, frame) =
      let first = subst (Frame (cells_in a) (cells_in u) a.map.base) b.same.limit frame in
      (rw (same.limit ∙ b.same.limit) (state_room u first), held_by u (state_room u first) (map_holds u first))

  pub told : {G : Change} {t u : Store} {row : ℕ} {x : Row} → ((p : Result (Unit {0}) Refusal) → HeldWithRoom (at_map s.map u) → G (at_map s.map u) p t → Changes PutsAny (at_map s.map u) t p) → (q : Result (Unit {0}) Refusal) {r : Step} → Changes PutsAny a u q → Second G s.map row x.p2 u t q r → Told G s t a u row x q r
  told {t = t} {u = u} {row = row} {x = x} g-in (Err k) c then =
      rw (then.0, then.1) (record {
        same = record { same = same_at s.map (same_then b.same c.same); kept = λ e is. refl };
        says = λ l j bound m h y z y-told y-row z-told z-row.
            ap (λ y. y >>= λ branch. z >>= λ stays. offers (branch ∷ []) (Some stays)) (y-told (held_go_to s.limit bound (cells_in a) _ _ _ m (copy_holds bound m h.map) l.p2));
        leaves = tt;
        frame = first_frame u (within b.same.limit c).1;
      })
  told {t = t} {u = u} {row = row} {x = x} g-in (Ok v) c then =
      let same = same_then b.same c.same in
      let has = second_ready (c.same, c.is.1) in
      let d = g-in then.0 has then.1 in
      let one : PutsAny s.limit (cells_in a) (cells_in u) a.map (Ok u.map) = within b.same.limit c in
      let two = within same.limit d in
      rw then.2 (record {
        same =
            record {
              same = record { buffer = d.same.buffer ∙ same.buffer; length = d.same.length ∙ same.length; limit = d.same.limit ∙ same.limit };
              kept = both_kept _ _ t then.0 d.kept;
            };
        says = λ l j bound m h y z y-told y-row z-told z-row.
            both_tells u one.1 one.0 t two.1 row x l j bound m h.row y z
            (y-told (held_go_to s.limit bound (cells_in a) _ _ _ m (copy_holds bound m h.map) l.p2)) y-row (stored_in t then.0)
            (z-told then.0 has then.1 (held_next row h.row (map_holds u one.1 bound m h.map)).map) z-row;
        leaves = both_leaves u one.1 one.0 t two.1 row x.p2 (stored_in t then.0) two.0;
        frame = both_frame u one.1 one.0 t two.1;
      })

-- a change is this access of the definition, where there is room
abbrev pub Makes : Change → (ℕ → Defined → Tried Defined) → Type 0
Makes F f = (a : Store) (q : Result (Unit {0}) Refusal) (b : Store) → HeldWithRoom a → F a q b → Changes (λ limit cs ds m r. Puts limit cs ds m r (f limit)) a b q

pub puts_any : {f : ℕ → Defined → Tried Defined} {a b : Store} {q : Result (Unit {0}) Refusal} → Changes (λ limit cs ds m r. Puts limit cs ds m r (f limit)) a b q → Changes PutsAny a b q
puts_any c = record { same = c.same; kept = c.kept; is = (c.is.leads.leaves, c.is.frame) }

pub both_arm : {s t : Store} {row : ℕ} {x : Row} → IsCurrent s → {F G : Change} (f g : ℕ → Defined → Tried Defined) → Makes F f → Makes G g → ((n : ℕ) (m : Defined) → Kept (SameRow m) (f n m)) → ((n : ℕ) (m : Defined) → Kept (SameRow m) (g n m)) → {r : Step} → BothWays F G s t row x.p2 r → LeavesStore s t r × BothArm s.limit (cells_in s) (cells_in t) (at row s.map) x (f s.limit) (g s.limit) r
both_arm {s} {t} {row} {x} current {G = G} f g f-is g-is f-row g-row w =
    let c = f-is w.there w.first w.left (first_ready current w.behind) w.changed in
    let tell = told current w.behind {G = G} {row = row} {x = x} (λ p has e. puts_any (g-is (at_map s.map w.left) p t has e)) w.first (puts_any c) w.second in (
      tell.same,
      record {
        says = λ l j bound m le h.
            tell.says l j bound m h _ _ (λ held. (within w.behind.same.limit c).leads.says bound _ le held) (f-row s.limit _)
            (λ p has e held. (within (c.same.limit ∙ w.behind.same.limit) (g-is (at_map s.map w.left) p t has e)).leads.says bound _ le held) (g-row s.limit _);
        leaves = tell.leaves;
        frame = tell.frame;
      },
    )
