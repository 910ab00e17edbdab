-- What follows a row's handling: the branches offered, and the state that goes on. Assumes nothing.
use mathlib.Core.Path.{◌≡◌, refl, sym, ap, subst, ◌∙◌}
use mathlib.Core.Bool.{Bool, true, false}
use Rattle.std.specs.Prelude.{Option, None, Some, Result, Ok, Err}
use mathlib.Core.List.{List, [], ◌∷◌, ◌++◌}
use Prim.Native.Nat.{ℕ, ◌+◌, ◌<◌, ◌≤◌}
use native.Mathlib.Omega.{arith}
use lib.ListN.{length}
use Rattle.model.specs.Walk.{refused, done, Ways, Lineage, Notes, note_repeat, note_ways, over, goes, refused_with, onward, go_on, offered, full, offer, settle, follow_ways}
use Rattle.model.specs.State.{MemoryState as Defined}
use Rattle.model.specs.Results.{ResultRow}
use Rattle.model.specs.Offer.{Offer}
use Rattle.model.specs.Explain.{row_of}
use Rattle.refusal.specs.Numbers.{number_of}
use Rattle.refusal.specs.declared.Refusal.{Refusal}
use Rattle.area.specs.Cells.{cells}
use Rattle.intmap.specs.Map.{levels, HasRoom}
use Rattle.intmap.specs.Runs.{size}
use Rattle.intmap.proofs.SameCells.{size_same, sizes_same}
use Rattle.encoding.specs.Holds.{largest}
use Rattle.encoding.proofs.Held.{held_elsewhere}
use Rattle.state.specs.Leads.{operands}
use Rattle.state.specs.Steps.{HoldsState, TellsWay, StaysAt, branch_of, Way}
use Rattle.state.specs.declared.MemoryState.{MemoryState}
use Rattle.branches.specs.Entries.{Counted}
use Rattle.branches.specs.Lists.{Below}
use Rattle.branches.specs.Changes.{Pushable}
use Rattle.branches.proofs.RememberLaws.{Bytes, counted-kept}
use Rattle.branches.proofs.BlockLaws.{blocks_low}
use Rattle.branches.specs.declared.Layout.{Layout}
use Rattle.merge.specs.declared.columns.Columns.{Columns}
use Rattle.walk.specs.Walks.{counts_from, first_from, layout_of, Given, bound_of, HoldsList, HoldsWalk, the_offer, the_following}
use Rattle.walk.specs.Loop.{Walking, Holding, Turning, Offering, MayOffer, Offers, SameCounts, TellsOffers, AddsBranch, AddsWay, AddsThree, GoesOn, note_repeated, FollowsWays, FollowsThree}
use Rattle.walk.specs.declared.Program.{Program}
use Rattle.walk.specs.declared.Walk.{Walk}
use Rattle.walk.proofs.ListLaws.{list_as}

-- the definition, by what it offers
module _ (p : Program) (g : Given) (past : List ℕ) (ls : List (Lineage Defined)) where
  pub offers_none : (remembered : List Defined) (space : ℕ) → the_offer p g past [] ls remembered space ≡ offered ls remembered space
  unfolding offer
  offers_none remembered space = refl

  module _ (n : Notes Defined ResultRow) (o : Offer) where
    pub follow_refused : (k : ℕ) → o ≡ refused k → the_following p g past ls n o ≡ over (refused_with k n)
    unfolding follow_ways
    follow_refused k e = rw (e, follow_ways)

    module _ (w : Ways Defined ResultRow) (e : o ≡ done w) where
      pub follow_full : the_offer p g past w.branches ls n.remembered n.space ≡ full → the_following p g past ls n o ≡ over (refused_with 11 n)
      unfolding follow_ways settle
      follow_full f = rw (e, f)

      -- by the refusal
      pub follow_stops : (r : Refusal) → number_of r ≡ 11 → the_offer p g past w.branches ls n.remembered n.space ≡ full → the_following p g past ls n o ≡ over (refused_with (number_of r) n)
      follow_stops r k f = follow_full f ∙ ap (λ i. over (refused_with i n)) (sym k)

      pub follow_offered :
          (waiting : List (Lineage Defined)) (known : List Defined) (left : ℕ) →
          the_offer p g past w.branches ls n.remembered n.space ≡ offered waiting known left →
          the_following p g past ls n o ≡ goes (go_on (row_of g.rows) (onward w.stays past) waiting (note_ways w known left n))
      unfolding follow_ways settle
      follow_offered waiting known left f = rw (e, f)

-- a state in front of the remembered ones is as it was
module _ (p : Program) (xs ys : List ℕ) (first : ℕ) (below : Below (cells xs) (cells ys) first) (limit-fits : first_from p ≤ first) where
  held_below : (bound : ℕ) (s : MemoryState) (m : Defined) → s.map.base + s.map.used ≤ first → HoldsState p.limit bound (cells xs) s m → HoldsState p.limit bound (cells ys) s m
  held_below bound s m fits h =
      record {
        row = h.row;
        map = held_elsewhere p.limit bound (cells xs) s.map.base s.map.len s.map.used m h.map (cells ys) s.map.base (λ j lt. below.same (s.map.base + j) (omega arith));
      }

  room_below : (s : MemoryState) → s.map.base ≡ 0 → HasRoom (cells xs) p.limit s.map → HasRoom (cells ys) p.limit s.map
  room_below s z h =
      record {
        used = h.used ∙ sym (sizes_same (size (cells xs) levels) (size (cells ys) levels) (cells xs) (cells ys) (size_same (cells xs) (cells ys) levels) s.map.len s.map.base s.map.base (λ j lt. below.same (s.map.base + j) (omega (arith, h.used, h.most, z))));
        most = h.most;
        room = omega (arith, h.room, below.long);
        small = omega (arith, h.small, below.long);
      }

  stays_below : (w : Way) → StaysAt p.limit (cells xs) 0 w → StaysAt p.limit (cells ys) 0 w
  stays_below None h = tt
  stays_below (Some s) h = (h.0, room_below s h.0 h.1)

  way_below : (bound : ℕ) (w : Way) (ms : Option Defined) → StaysAt p.limit (cells xs) 0 w → TellsWay p.limit bound (cells xs) w ms → TellsWay p.limit bound (cells ys) w ms
  way_below bound None ms lies h = h
  way_below bound (Some s) ms lies h = record { state = h.state; is = h.is; held = held_below bound s h.state (omega (arith, lies.0, lies.1.most)) h.held }

-- what the area holds after a row's branches, with one repeat more where it counts as one
module _ {p : Program} {g : Given} {blocks xs : List ℕ} {cols : Columns 2000} {w : Walk} {ls : List (Lineage Defined)} {n : Notes Defined ResultRow} (h : HoldsWalk p g blocks xs cols w ls n) where
  few_numbers : (v : Walk) → v.counts.charged ≡ w.counts.charged → bound_of v ≤ largest
  few_numbers v e = omega (arith, h.counts.gas_few, e)

  repeats_within : (b : Bool) (v : Walk) → SameCounts w v → w.counts.repeats < w.counts.charged → note_repeat b v.counts.repeats ≤ v.counts.charged
  repeats_within true v same lt = omega (arith, same.repeats, same.charged)
  repeats_within false v same lt = omega (arith, same.repeats, same.charged)

  noted :
      (ys : List ℕ) (v u : Walk) (b : Bool) (waiting : List (Lineage Defined)) (known : List Defined) (left : ℕ) (branches : List Defined) (stays : Option Defined) →
      SameCounts w v → w.counts.repeats < w.counts.charged → u ≡ note_repeated v b →
      HoldsList p g blocks ys cols v waiting known left n.counted →
      HoldsWalk p g blocks ys cols u waiting (note_ways (record { branches = branches; stays = stays; result = None; repeat = b }) known left n)
  noted ys v u b waiting known left branches stays same lt e list =
      subst (λ x. HoldsWalk p g blocks ys cols x waiting (note_ways (record { branches = branches; stays = stays; result = None; repeat = b }) known left n)) (sym e)
      (record {
        list = list_as list (note_repeated v b) refl (omega arith) (few_numbers v same.charged);
        counts = record {
          charged = same.charged ∙ h.counts.charged;
          loopstops = same.loopstops ∙ h.counts.loopstops;
          gasstops = same.gasstops ∙ h.counts.gasstops;
          repeats = ap (note_repeat b) (same.repeats ∙ h.counts.repeats);
          gas_few = omega (arith, same.charged, same.gas, h.counts.gas_few);
          loopstops_few = omega (arith, same.charged, same.loopstops, h.counts.loopstops_few);
          repeats_few = repeats_within b v same lt;
        };
        all = omega (arith, same.charged, same.gas, h.all);
      })

pub same_counts : (w : Walk) → SameCounts w w
same_counts w = record { gas = refl; charged = refl; loopstops = refl; gasstops = refl; repeats = refl }

-- at most one branch
pub way_none : (p : Program) (xs : List ℕ) (w : Walk) → AddsWay p xs xs w w None (Ok tt)
way_none p xs w =
    record {
      says = λ g blocks cols ls remembered space counted past ms h is now. (
        record { waiting = ls; known = remembered; left = space; same = λ more. ap (λ o. the_offer p g past (branch_of o ++ more) ls remembered space) is; holds = h },
        same_counts w,
      );
      below = record { long = refl; same = λ j lt. refl };
      bytes = refl;
    }

no_more : (ms : Option Defined) → branch_of ms ++ [] ≡ branch_of ms
no_more None = refl
no_more (Some m) = refl

-- what waits in front of the remembered states
in_front : {p : Program} {g : Given} {blocks xs : List ℕ} {cols : Columns 2000} {w : Walk} {ls : List (Lineage Defined)} {remembered : List Defined} {space : ℕ} {counted : List ResultRow} → HoldsList p g blocks xs cols w ls remembered space counted → first_from p ≤ w.branches.first
in_front h = omega (arith, h.first)

-- the current counts are as they were
pub counted_below :
    {p : Program} {g : Given} {blocks xs : List ℕ} {cols : Columns 2000} {w : Walk} {ls : List (Lineage Defined)} {remembered : List Defined} {space : ℕ} {counted : List ResultRow} → HoldsList p g blocks xs cols w ls remembered space counted →
    (ys past : List ℕ) → Bytes xs → Bytes ys → length ys ≡ length xs → Below (cells xs) (cells ys) w.branches.first → Counted xs p.size (counts_from p) past → Counted ys p.size (counts_from p) past
counted_below {p} {xs = xs} {w = w} h ys past small less long below counted =
    let top = blocks_low (cells xs) p.size w.branches.first w.branches.top h.all h.remembers.blocks in
    counted-kept xs ys p.size (counts_from p) past small less long h.remembers.small
    (omega (arith, h.first, h.remembers.inside, top))
    (λ j lt. below.same (counts_from p + j) (omega (arith, h.first)))
    counted

-- no space
pub ways_refused : {p : Program} {xs ys : List ℕ} {w v : Walk} {branch : Way} (stays : Way) (repeat : Bool) (e : Refusal) → AddsWay p xs ys w v branch (Err e) → FollowsWays p xs ys w v branch stays repeat (Err e)
ways_refused {p} stays repeat e adds =
    record {
      says = λ g blocks cols ls n past o h counted offers lies.
          let t = adds.says g blocks cols ls n.remembered n.space n.counted past offers.the_branch h.list offers.branches counted in
          record {
            notes = n;
            is = follow_stops p g past ls n o _ offers.answer e (ap number_of t.0)
                (ap (λ ms. the_offer p g past ms ls n.remembered n.space) (sym (no_more offers.the_branch)) ∙ t.1 []);
          };
      bytes = adds.bytes;
    }

-- what was offered is dropped or kept
pub ways_goes :
    {p : Program} {xs ys zs : List ℕ} {w v u t : Walk} {branch stays : Way} {repeat : Bool} {r : Option MemoryState} →
    Bytes xs → Bytes ys → w.counts.repeats < w.counts.charged →
    AddsWay p xs ys w v branch (Ok tt) → u ≡ note_repeated v repeat → GoesOn p ys zs u t stays r →
    FollowsWays p xs zs w t branch stays repeat (Ok r)
ways_goes {p} {xs} {ys} {zs} {w} {v} {u} {t} {branch} {stays} {repeat} {r} small less lt adds noted-u on =
    record {
      says = λ g blocks cols ls n past o h counted offers lies.
          let told = adds.says g blocks cols ls n.remembered n.space n.counted past offers.the_branch h.list offers.branches counted in
          let of = told.0 in
          let same = told.1 in
          record {
            front = go_on (row_of g.rows) (onward offers.the_state past) of.waiting (note_ways (record { branches = branch_of offers.the_branch; stays = offers.the_state; result = None; repeat = repeat }) of.known of.left n);
            is = follow_offered p g past ls n o _ offers.answer of.waiting of.known of.left
                (ap (λ ms. the_offer p g past ms ls n.remembered n.space) (sym (no_more offers.the_branch)) ∙ of.same [] ∙ offers_none p g past of.waiting of.known of.left);
            holds = on.says g blocks cols of.waiting _ past offers.the_state
                (noted h ys v u repeat of.waiting of.known of.left (branch_of offers.the_branch) offers.the_state same lt noted-u of.holds)
                (subst (λ k. TellsWay p.limit k (cells ys) stays offers.the_state) (bound_of_lem same.charged) (way_below p xs ys w.branches.first adds.below (in_front h.list) (bound_of w) stays offers.the_state lies offers.goes_on))
                (stays_below p xs ys w.branches.first adds.below (in_front h.list) stays lies)
                (counted_below h.list ys past small less adds.bytes adds.below counted);
          };
      bytes = on.bytes ∙ adds.bytes;
    }
  where
    bound_of_lem : v.counts.charged ≡ w.counts.charged → bound_of w ≡ bound_of u
    bound_of_lem e = ap (λ k. operands + k) (sym e) ∙ sym (ap bound_of noted-u)

-- ---- what is asked of the next call

-- the state that a way leads to
record Tells (p : Program) (xs : List ℕ) (w : Walk) (branch : Way) : Type 0 where
  state : Option Defined
  tells : TellsWay p.limit (bound_of w) (cells xs) branch state

told_by : (p : Program) (xs : List ℕ) (w : Walk) (branch : Way) → MayOffer p xs w branch → Tells p xs w branch
told_by p xs w None o = record { state = None; tells = refl }
told_by p xs w (Some s) o = record { state = Some o.state; tells = record { state = o.state; is = refl; held = o.holds } }

-- a branch can be pushed
pub may_push : (p : Program) (xs : List ℕ) (w : Walk) (s : MemoryState) → Holding p xs w → Offering p xs w s → (l : Layout) → l ≡ layout_of p → Pushable l.limit l.rows l.counts xs w.branches s
may_push p xs w s h o l e =
    subst (λ (x : Layout). Pushable x.limit x.rows x.counts xs w.branches s) (sym e)
    (record {
      remembering = record { bound = bound_of w; all = h.holds.all; wait = h.holds.wait; remembers = h.holds.remembers };
      offers = o.below;
      state = o.state;
      holds = o.holds;
      rows = h.holds.few;
      below = omega (arith, h.holds.first);
    })

-- after at most one branch
module _ {p : Program} {xs ys : List ℕ} {w v : Walk} {branch : Way} (adds : AddsWay p xs ys w v branch (Ok tt)) (o : MayOffer p xs w branch) (t : Turning p xs w) where
  after_way : Offers p t.walking.given t.walking.blocks ys t.walking.cols v t.past (branch_of (told_by p xs w branch o).state) t.walking.waiting t.walking.notes.remembered t.walking.notes.space t.walking.notes.counted × SameCounts w v
  after_way =
      let n = t.walking.notes in
      adds.says t.walking.given t.walking.blocks t.walking.cols t.walking.waiting n.remembered n.space n.counted t.past (told_by p xs w branch o).state t.walking.holds.list (told_by p xs w branch o).tells t.counted

  pub few_after : v.counts.repeats < 4294967296
  few_after = omega (arith, t.less, t.walking.holds.counts.gas_few, after_way.1.repeats)

  pub walking_after : (u : Walk) (b : Bool) → u ≡ note_repeated v b → Walking p ys u
  walking_after u b f =
      let d = after_way in
      record {
        given = t.walking.given;
        blocks = t.walking.blocks;
        cols = t.walking.cols;
        waiting = d.0.waiting;
        notes = _;
        holds = noted t.walking.holds ys v u b d.0.waiting d.0.known d.0.left [] None d.1 t.less f d.0.holds;
      }

-- after a branch
module _ {p : Program} {xs ys : List ℕ} {w v : Walk} {s : MemoryState} (adds : AddsBranch p xs ys w v s (Ok tt)) (o : Offering p xs w s) where
  after_branch : (h : Holding p xs w) → Offers p h.given h.blocks ys h.cols v h.past (o.state ∷ []) h.waiting h.known h.space h.results × SameCounts w v
  after_branch h = adds.says h.given h.blocks h.cols h.waiting h.known h.space h.results h.past o.state h.holds o.holds h.counted

  pub holding_after : Bytes xs → Bytes ys → Holding p xs w → Holding p ys v
  holding_after small less h =
      let t = after_branch h in
      record {
        given = h.given;
        blocks = h.blocks;
        cols = h.cols;
        waiting = t.0.waiting;
        known = t.0.known;
        space = t.0.left;
        results = h.results;
        holds = t.0.holds;
        past = h.past;
        counted = counted_below h.holds ys h.past small less adds.bytes adds.below h.counted;
      }

  -- another state in front of the remembered ones
  pub offering_after : Holding p xs w → (r : MemoryState) → Offering p xs w r → Offering p ys v r
  offering_after h r q =
      let d = after_branch h in
      let fits : r.map.base + r.map.used ≤ w.branches.first = q.below.below in
      record {
        below = record {
          map = record {
            used = q.below.map.used ∙ sym (sizes_same (size (cells xs) levels) (size (cells ys) levels) (cells xs) (cells ys) (size_same (cells xs) (cells ys) levels) r.map.len r.map.base r.map.base (λ j lt. adds.below.same (r.map.base + j) (omega (arith, q.below.map.used))));
            inside = omega (arith, q.below.map.inside, adds.below.long);
            small = omega (arith, q.below.map.small, adds.below.long);
          };
          most = q.below.most;
          below = omega (arith, d.0.holds.first, h.holds.first);
        };
        state = q.state;
        holds = subst (λ k. HoldsState p.limit k (cells ys) r q.state) (ap (λ k. operands + k) (sym d.1.charged))
            (held_below p xs ys w.branches.first adds.below (in_front h.holds) (bound_of w) r q.state fits q.holds);
      }

-- ---- three branches

module _ (p : Program) (xs ys : List ℕ) (w u : Walk) (s₁ s₂ s₃ : MemoryState) where
  pub three_full : (e : Refusal) → AddsBranch p xs ys w u s₁ (Err e) → AddsThree p xs ys w u s₁ s₂ s₃ (Err e)
  three_full e first =
      record {
        says = λ g blocks cols ls remembered space counted past m₁ m₂ m₃ h a b c now.
            let t = first.says g blocks cols ls remembered space counted past m₁ h a now in
            (t.0, λ more. t.1 (m₂ ∷ m₃ ∷ more));
        below = first.below;
        bytes = first.bytes;
      }

  -- the second has no space, or the third is next
  module _ (small : Bytes xs) (less : Bytes ys) (first : AddsBranch p xs ys w u s₁ (Ok tt)) where
    -- what the first leaves, for the second and third
    module _ {g : Given} {blocks : List ℕ} {cols : Columns 2000} {ls : List (Lineage Defined)} {remembered : List Defined} {space : ℕ} {counted : List ResultRow} (past : List ℕ) (m : Defined) (h : HoldsList p g blocks xs cols w ls remembered space counted) (a : HoldsState p.limit (bound_of w) (cells xs) s₁ m) (now : Counted xs p.size (counts_from p) past) where
      abbrev left-first : Offers p g blocks ys cols u past (m ∷ []) ls remembered space counted × SameCounts w u
      left-first = first.says g blocks cols ls remembered space counted past m h a now

      kept_state : (s : MemoryState) (n : Defined) → s.map.base + s.map.used ≤ w.branches.first → HoldsState p.limit (bound_of w) (cells xs) s n → HoldsState p.limit (bound_of u) (cells ys) s n
      kept_state s n fits held =
          subst (λ k. HoldsState p.limit k (cells ys) s n) (ap (λ k. operands + k) (sym left-first.1.charged))
          (held_below p xs ys w.branches.first first.below (in_front h) (bound_of w) s n fits held)

      kept_counts : Counted ys p.size (counts_from p) past
      kept_counts = counted_below h ys past small less first.bytes first.below now

    module _ (zs : List ℕ) (v : Walk) (same_first : u.branches.first ≡ w.branches.first) (fits₂ : s₂.map.base + s₂.map.used ≤ w.branches.first) where
      below_twice : Below (cells ys) (cells zs) u.branches.first → Below (cells xs) (cells zs) w.branches.first
      below_twice second = record { long = second.long ∙ first.below.long; same = λ j lt. second.same j (omega (arith, same_first)) ∙ first.below.same j lt }

      pub three_second_full : (e : Refusal) → AddsBranch p ys zs u v s₂ (Err e) → AddsThree p xs zs w v s₁ s₂ s₃ (Err e)
      three_second_full e second =
          record {
            says = λ g blocks cols ls remembered space counted past m₁ m₂ m₃ h a b c now.
                let of = (left-first past m₁ h a now).0 in
                let t = second.says g blocks cols of.waiting of.known of.left counted past m₂ of.holds (kept_state past m₁ h a now s₂ m₂ fits₂ b) (kept_counts past m₁ h a now) in
                (t.0, λ more. of.same (m₂ ∷ m₃ ∷ more) ∙ t.1 (m₃ ∷ more));
            below = below_twice second.below;
            bytes = second.bytes ∙ first.bytes;
          }

      -- the third
      module _ (low : Bytes zs) (second : AddsBranch p ys zs u v s₂ (Ok tt)) (ts : List ℕ) (x : Walk) (r : Result (Unit {0}) Refusal) (third : AddsBranch p zs ts v x s₃ r) (same_second : v.branches.first ≡ w.branches.first) (fits₃ : s₃.map.base + s₃.map.used ≤ w.branches.first) where
        told_three :
            (g : Given) (blocks : List ℕ) (cols : Columns 2000) (ls waiting waiting₂ : List (Lineage Defined)) (remembered known known₂ : List Defined) (space left left₂ : ℕ) (counted : List ResultRow) (past : List ℕ) (m₁ m₂ m₃ : Defined) (z : Result (Unit {0}) Refusal) →
            ((more : List Defined) → the_offer p g past (m₁ ∷ more) ls remembered space ≡ the_offer p g past more waiting known left) →
            ((more : List Defined) → the_offer p g past (m₂ ∷ more) waiting known left ≡ the_offer p g past more waiting₂ known₂ left₂) →
            SameCounts w u → SameCounts u v →
            TellsOffers p g blocks ts cols v x z past (m₃ ∷ []) waiting₂ known₂ left₂ counted →
            TellsOffers p g blocks ts cols w x z past (m₁ ∷ m₂ ∷ m₃ ∷ []) ls remembered space counted
        told_three g blocks cols ls waiting waiting₂ remembered known known₂ space left left₂ counted past m₁ m₂ m₃ (Err e) one two a b t = (t.0, λ more. one (m₂ ∷ m₃ ∷ more) ∙ two (m₃ ∷ more) ∙ t.1 more)
        told_three g blocks cols ls waiting waiting₂ remembered known known₂ space left left₂ counted past m₁ m₂ m₃ (Ok y) one two a b t = (
          record { waiting = t.0.waiting; known = t.0.known; left = t.0.left; same = λ more. one (m₂ ∷ m₃ ∷ more) ∙ two (m₃ ∷ more) ∙ t.0.same more; holds = t.0.holds },
          record { gas = t.1.gas ∙ b.gas ∙ a.gas; charged = t.1.charged ∙ b.charged ∙ a.charged; loopstops = t.1.loopstops ∙ b.loopstops ∙ a.loopstops; gasstops = t.1.gasstops ∙ b.gasstops ∙ a.gasstops; repeats = t.1.repeats ∙ b.repeats ∙ a.repeats },
        )

        pub three_all : AddsThree p xs ts w x s₁ s₂ s₃ r
        three_all =
            record {
              says = λ g blocks cols ls remembered space counted past m₁ m₂ m₃ h a b c now.
                  let d = left-first past m₁ h a now in
                  let of = d.0 in
                  let e₂ = second.says g blocks cols of.waiting of.known of.left counted past m₂ of.holds (kept_state past m₁ h a now s₂ m₂ fits₂ b) (kept_counts past m₁ h a now) in
                  let two = e₂.0 in
                  told_three g blocks cols ls of.waiting two.waiting remembered of.known two.known space of.left two.left counted past m₁ m₂ m₃ r of.same two.same d.1 e₂.1
                  (third.says g blocks cols two.waiting two.known two.left counted past m₃ two.holds
                  (subst (λ k. HoldsState p.limit k (cells zs) s₃ m₃) (ap (λ k. operands + k) (sym e₂.1.charged))
                  (held_below p ys zs u.branches.first second.below (in_front of.holds) (bound_of u) s₃ m₃ (omega (arith, same_first)) (kept_state past m₁ h a now s₃ m₃ fits₃ c)))
                  (counted_below of.holds zs past less low second.bytes second.below (kept_counts past m₁ h a now)));
              below = record { long = third.below.long ∙ (below_twice second.below).long; same = λ j lt. third.below.same j (omega (arith, same_second)) ∙ (below_twice second.below).same j lt };
              bytes = third.bytes ∙ second.bytes ∙ first.bytes;
            }

-- and the state that goes on
pub three_refused : {p : Program} {xs ys : List ℕ} {w v : Walk} {a b c : MemoryState} (stays : MemoryState) (e : Refusal) → AddsThree p xs ys w v a b c (Err e) → FollowsThree p xs ys w v a b c stays (Err e)
three_refused {p} stays e adds =
    record {
      says = λ g blocks cols ls n past o h counted offers lies.
          let t = adds.says g blocks cols ls n.remembered n.space n.counted past offers.first offers.second offers.third h.list offers.first_held offers.second_held offers.third_held counted in
          record { notes = n; is = follow_stops p g past ls n o _ offers.answer e (ap number_of t.0) (t.1 []) };
      bytes = adds.bytes;
    }

pub three_goes :
    {p : Program} {xs ys zs : List ℕ} {w v u : Walk} {a b c stays : MemoryState} {r : Option MemoryState} →
    Bytes xs → Bytes ys → w.counts.repeats < w.counts.charged → AddsThree p xs ys w v a b c (Ok tt) → GoesOn p ys zs v u (Some stays) r →
    FollowsThree p xs zs w u a b c stays (Ok r)
three_goes {p} {xs} {ys} {zs} {w} {v} {u} {a} {b} {c} {stays} {r} small less lt adds on =
    record {
      says = λ g blocks cols ls n past o h counted offers lies.
          let t = adds.says g blocks cols ls n.remembered n.space n.counted past offers.first offers.second offers.third h.list offers.first_held offers.second_held offers.third_held counted in
          let of = t.0 in
          let same = t.1 in
          record {
            front = go_on (row_of g.rows) (onward (Some offers.state) past) of.waiting (note_ways (record { branches = offers.first ∷ offers.second ∷ offers.third ∷ []; stays = Some offers.state; result = None; repeat = false }) of.known of.left n);
            is = follow_offered p g past ls n o _ offers.answer of.waiting of.known of.left (of.same [] ∙ offers_none p g past of.waiting of.known of.left);
            holds = on.says g blocks cols of.waiting _ past (Some offers.state)
                (noted h ys v v false of.waiting of.known of.left (offers.first ∷ offers.second ∷ offers.third ∷ []) (Some offers.state) same lt refl of.holds)
                (subst (λ k. TellsWay p.limit k (cells ys) (Some stays) (Some offers.state)) (ap (λ k. operands + k) (sym same.charged))
                (way_below p xs ys w.branches.first adds.below (in_front h.list) (bound_of w) (Some stays) (Some offers.state) lies (record { state = offers.state; is = refl; held = offers.state_held })))
                (stays_below p xs ys w.branches.first adds.below (in_front h.list) (Some stays) lies)
                (counted_below h.list ys past small less adds.bytes adds.below counted);
          };
      bytes = on.bytes ∙ adds.bytes;
    }

pub walking_three :
    {p : Program} {xs ys : List ℕ} {w v : Walk} {a b c : MemoryState} → AddsThree p xs ys w v a b c (Ok tt) →
    Offering p xs w a → Offering p xs w b → Offering p xs w c → Turning p xs w → Walking p ys v
walking_three {ys = ys} {v = v} adds oa ob oc t =
    let h = t.walking.holds in
    let n = t.walking.notes in
    let d = adds.says t.walking.given t.walking.blocks t.walking.cols t.walking.waiting n.remembered n.space n.counted t.past oa.state ob.state oc.state h.list oa.holds ob.holds oc.holds t.counted in
    record {
      given = t.walking.given;
      blocks = t.walking.blocks;
      cols = t.walking.cols;
      waiting = d.0.waiting;
      notes = _;
      holds = noted h ys v v false d.0.waiting d.0.known d.0.left [] None d.1 t.less refl d.0.holds;
    }

-- the remembered states begin where they did
pub first-after : {p : Program} {xs ys : List ℕ} {w v : Walk} → Holding p xs w → Holding p ys v → v.branches.first ≡ w.branches.first
first-after h k = k.holds.first ∙ sym h.holds.first
