-- A turn of the walk. Assumes nothing.
use mathlib.Core.Path.{◌≡◌, refl, sym, ap, subst, ◌∙◌}
use mathlib.Core.Logic.{◌⊎◌, inl, inr}
use mathlib.Core.Bool.{Bool, true, false, true≢false}
use Rattle.std.specs.Prelude.{Option, Some, Result, Ok, Err, slice_get, None}
use mathlib.Core.List.{List, ◌∷◌}
use Prim.Native.Nat.{ℕ, ◌+◌, ◌-◌, ◌<◌, ◌≤◌}
use native.Mathlib.Omega.{arith}
use lib.Dec.{ltb, eqb}
use lib.ListN.{length, get_or}
use borrow.Author.Tests.{lt-ltb, le-ltb, eqb-true, eq-eqb}
use Rattle.model.specs.Walk.{count, times, one_if, Lineage, Notes, add_row, charge, loop_stop, note_handled, Front as Fronted, on_row, take_up, goes, handled_before, handle_if, turn}
use Rattle.model.specs.Row.{Row as Listed}
use Rattle.model.specs.State.{MemoryState as Defined}
use Rattle.model.specs.Results.{ResultRow}
use Rattle.model.specs.Operation.{operation_of}
use Rattle.model.specs.Access.{next}
use Rattle.model.specs.Offer.{Offer, row_at}
use Rattle.model.specs.Explain.{arm, at_row, ways, row_of}
use Rattle.refusal.specs.Numbers.{number_of}
use Rattle.refusal.specs.declared.Refusal.{Refusal}
use Rattle.area.specs.Cells.{blank, cells, Inside}
use Rattle.area.specs.Counts.{count as count_at, home, Raised}
use Rattle.area.specs.declared.Cell.{Cell}
use Rattle.intmap.specs.Map.{levels, HasRoom}
use Rattle.intmap.specs.Runs.{size}
use Rattle.intmap.specs.Signed.{offset}
use Rattle.intmap.proofs.SignedLaws.{row_above}
use Rattle.intmap.proofs.SameCells.{size_same, sizes_same}
use Rattle.intmap.proofs.StoreLaws.{room_map}
use Rattle.encoding.proofs.Held.{held_elsewhere}
use Rattle.rows.specs.Parts.{Parts}
use Rattle.rows.specs.Rows.{parts, row_in}
use Rattle.rows.specs.Judged.{JudgedParts, SomeRows}
use Rattle.rows.specs.declared.row.Row.{Row}
use Rattle.opcode.specs.declared.Operation.{Operation}
use Rattle.state.specs.declared.Ways.{Ways}
use Rattle.state.specs.Steps.{HoldsState, TellsWay, Lies, LiesAt, StaysAt, Way, Step}
use Rattle.state.specs.declared.MemoryState.{MemoryState}
use Rattle.jump_arms.specs.Arms.{Ready}
use Rattle.branches.specs.Entries.{Counted}
use Rattle.branches.specs.Lists.{Offers as Below-them}
use Rattle.branches.proofs.RememberLaws.{Bytes, counted-kept}
use Rattle.branches.proofs.BlockLaws.{blocks_low}
use Rattle.merge.specs.declared.columns.Columns.{Columns}
use Rattle.walk.specs.Walks.{rows_from, counts_from, first_from, Given, bound_of, HoldsList, Counts, HoldsWalk, HoldsRow, TellsTurn, the_following, the_turn}
use Rattle.in_place.specs.InPlace.{ReadyAt, HandlesNear}
use Rattle.explain.specs.Handles.{row_on, meaning_of, TellsHandling, LeavesHandling, Handles, Handled}
use Rattle.explain.specs.Numbers.{as_handling}
use Rattle.explain.specs.Narrow.{alone, Falls, repeats, Branches}
use Rattle.counters.specs.Counted.{one_loopstop}
use Rattle.counters.specs.declared.Counters.{Counters}
use Rattle.walk.specs.Loop.{Walking, GoesOn, FollowsWays, Turning, MayOffer, MayFollow, StaysHere, Follows, TakesUp, charge_one, Standing, Turns}
use Rattle.explain.specs.declared.Handling.{Handling}
use Rattle.explain.specs.declared.Handling.TheVariants as handling
use Rattle.walk.specs.declared.Program.{Program}
use Rattle.walk.specs.declared.Walk.{Walk}
use Rattle.walk.proofs.ListLaws.{Element, element_within, list_as, list_kept, listing_in, with_counts}
use Rattle.walk.proofs.UpLaws.{goes_row}
use Rattle.walk.proofs.FollowLaws.{follow_refused, way_none, ways_goes}
use Rattle.walk.proofs.AllLaws.{all_ways}

-- ---- the definition

module _ (p : Program) (g : Given) (row : ℕ) (l : Lineage Defined) (ls : List (Lineage Defined)) (n : Notes Defined ResultRow) where
  turn_closed : 3 ≤ count row l.past → the_turn p g (on_row row l ls n) ≡ goes (take_up (row_of g.rows) ls (loop_stop (charge n)))
  unfolding turn handle_if
  turn_closed h = rw (le-ltb (count row l.past) 3 h)

  turn_handled : count row l.past < 3 → the_turn p g (on_row row l ls n) ≡ the_following p g (row ∷ l.past) ls (note_handled (add_row row l) (charge n)) (ways (meaning_of p.limit g.records) g.rows (handled_before row l.past) l.mem)
  unfolding turn handle_if
  turn_handled h = rw (lt-ltb (count row l.past) 3 h)

-- the row's arm
arm_at : (p : Program) (g : Given) (again : Bool) (m : Defined) (x : Listed) → row_at g.rows m.program_i ≡ Some x → ways (meaning_of p.limit g.records) g.rows again m ≡ arm (meaning_of p.limit g.records) g.rows again m x (operation_of x.op)
unfolding ways
arm_at p g again m x e = ap (at_row (meaning_of p.limit g.records) g.rows again m) e

-- ---- what is charged

-- a loop stop more
abbrev pub stop_loop : Walk → Walk
stop_loop w = with_counts w (one_loopstop w.counts)

recount : {w : Walk} {n m : Notes Defined ResultRow} → n.charged ≡ m.charged → n.loopstops ≡ m.loopstops → n.gasstops ≡ m.gasstops → n.repeats ≡ m.repeats → Counts w n → Counts w m
recount a b c d h =
    record {
      charged = h.charged ∙ a;
      loopstops = h.loopstops ∙ b;
      gasstops = h.gasstops ∙ c;
      repeats = h.repeats ∙ d;
      gas_few = h.gas_few;
      loopstops_few = h.loopstops_few;
      repeats_few = h.repeats_few;
    }

module _ {p : Program} {g : Given} {blocks xs : List ℕ} {cols : Columns 2000} {w : Walk} {ls : List (Lineage Defined)} {n : Notes Defined ResultRow} (h : HoldsWalk p g blocks xs cols w ls n) (gas : 0 < w.gas) where
  charged_walk : HoldsWalk p g blocks xs cols (charge_one w) ls (charge n)
  charged_walk =
      record {
        list = list_as h.list (charge_one w) refl (omega arith) (omega (arith, h.counts.gas_few));
        counts = record {
          charged = ap (λ k. k + 1) h.counts.charged;
          loopstops = h.counts.loopstops;
          gasstops = h.counts.gasstops;
          repeats = h.counts.repeats;
          gas_few = omega (arith, h.counts.gas_few);
          loopstops_few = omega (arith, h.counts.loopstops_few);
          repeats_few = omega (arith, h.counts.repeats_few);
        };
        all = omega (arith, h.all);
      }

  closed_walk : HoldsWalk p g blocks xs cols (stop_loop (charge_one w)) ls (loop_stop (charge n))
  closed_walk =
      record {
        list = list_as h.list (stop_loop (charge_one w)) refl (omega arith) (omega (arith, h.counts.gas_few));
        counts = record {
          charged = ap (λ k. k + 1) h.counts.charged;
          loopstops = omega (arith, h.counts.loopstops);
          gasstops = h.counts.gasstops;
          repeats = h.counts.repeats;
          gas_few = omega (arith, h.counts.gas_few);
          loopstops_few = omega (arith, h.counts.loopstops_few);
          repeats_few = omega (arith, h.counts.repeats_few);
        };
        all = omega (arith, h.all);
      }

-- ---- a count raised

count-step : (row i : ℕ) (past : List ℕ) → count i (row ∷ past) ≡ one_if (eqb row i) + count i past
unfolding times
count-step row i past = refl

counted-raised : (xs ys : List ℕ) (n from row : ℕ) (past : List ℕ) → Raised xs ys from row → row < n → Counted xs n from past → Counted ys n from (row ∷ past)
counted-raised xs ys n from row past raised within counted i lt = go (eqb row i) refl
  where
    one_more : (k : ℕ) → k + 1 ≡ 1 + k
    one_more k = omega arith

    none_more : (k : ℕ) → k ≡ 0 + k
    none_more k = omega arith

    go : (b : Bool) → eqb row i ≡ b → count_at ys from i ≡ count i (row ∷ past)
    go true e =
        let same : row ≡ i = eqb-true row i e in
        ap (count_at ys from) (sym same) ∙ raised.counted ∙ ap (λ k. k + 1) (ap (count_at xs from) same ∙ counted i lt) ∙ one_more (count i past) ∙ sym (ap (λ b. one_if b + count i past) e) ∙ sym (count-step row i past)
    go false e =
        raised.others i (λ same. absurd (true≢false (sym (eq-eqb row i (sym same)) ∙ e))) ∙ counted i lt ∙ none_more (count i past) ∙ sym (ap (λ b. one_if b + count i past) e) ∙ sym (count-step row i past)

-- ---- the area before and after

-- where the current counts and the rows lie
fits_inside : {p : Program} {g : Given} {blocks xs : List ℕ} {cols : Columns 2000} {w : Walk} {ls : List (Lineage Defined)} {remembered : List Defined} {space : ℕ} {counted : List ResultRow} → HoldsList p g blocks xs cols w ls remembered space counted → first_from p ≤ length (cells xs)
fits_inside {p} {xs = xs} {w = w} h = omega (arith, h.first, h.remembers.inside, blocks_low (cells xs) p.size w.branches.first w.branches.top h.all h.remembers.blocks)

module _ {p : Program} {g : Given} {blocks xs : List ℕ} {cols : Columns 2000} {w : Walk} {s : MemoryState} {f : Fronted Defined ResultRow} (r : HoldsRow p g blocks xs cols w s f) where
  abbrev k : ℕ
  k = s.row - offset

  row_is : k ≡ r.row
  row_is = omega (arith, r.at)

  pub count_inside : Inside xs (home (counts_from p) k) 1
  count_inside = record { within = omega (arith, row_is, r.within, fits_inside r.walk.list); small = r.walk.list.remembers.small }

  handled_is : count_at xs (counts_from p) k ≡ count r.row r.lineage.past
  handled_is = ap (count_at xs (counts_from p)) row_is ∙ r.current.past r.row r.within

  -- a state in the first cells is as it was
  module _ (ys : List ℕ) (long : length (cells ys) ≡ length (cells xs)) (same : (j : ℕ) → j < p.limit → get_or (cells ys) j blank ≡ get_or (cells xs) j blank) where
    agree : (j : ℕ) → j < s.map.used → get_or (cells ys) (s.map.base + j) blank ≡ get_or (cells xs) (s.map.base + j) blank
    agree j lt = same (s.map.base + j) (omega (arith, r.current.base, r.current.room.most))

    state_kept : HoldsState p.limit (bound_of w) (cells ys) s r.lineage.mem
    state_kept = record { row = r.current.state.row; map = held_elsewhere p.limit (bound_of w) (cells xs) s.map.base s.map.len s.map.used r.lineage.mem r.current.state.map (cells ys) s.map.base agree }

    room_kept : HasRoom (cells ys) p.limit s.map
    room_kept =
        record {
          used = r.current.room.used ∙ sym (sizes_same (size (cells xs) levels) (size (cells ys) levels) (cells xs) (cells ys) (size_same (cells xs) (cells ys) levels) s.map.len s.map.base s.map.base (λ j lt. agree j (omega (arith, r.current.room.used))));
          most = r.current.room.most;
          room = omega (arith, r.current.room.room, long);
          small = omega (arith, r.current.room.small, long);
        }

  -- the count of its row is raised
  module _ (ys : List ℕ) (small : Bytes xs) (less : Bytes ys) (raised : Raised xs ys (counts_from p) k) where
    kept_outside : (j : ℕ) → (j < counts_from p) ⊎ (first_from p ≤ j) → get_or (cells ys) j blank ≡ get_or (cells xs) j blank
    kept_outside j (inl lt) = raised.elsewhere j (λ e. absurd (omega (arith, e, lt)))
    kept_outside j (inr le) = raised.elsewhere j (λ e. absurd (omega (arith, e, le, row_is, r.within)))

    raised_list : HoldsList p g blocks ys cols w r.waiting r.notes.remembered r.notes.space r.notes.counted
    raised_list = list_kept r.walk.list ys small less raised.bytes (λ j le lt. kept_outside j (inl lt)) (λ j le. kept_outside j (inr le))

    raised_state : HoldsState p.limit (bound_of w) (cells ys) s r.lineage.mem
    raised_state = state_kept ys raised.same (λ j lt. kept_outside j (inl (omega (arith, lt))))

    raised_room : HasRoom (cells ys) p.limit s.map
    raised_room = room_kept ys raised.same (λ j lt. kept_outside j (inl (omega (arith, lt))))

    raised_counts : Counted ys p.size (counts_from p) (r.row ∷ r.lineage.past)
    raised_counts = counted-raised xs ys p.size (counts_from p) r.row r.lineage.past (subst (Raised xs ys (counts_from p)) row_is raised) r.within r.current.past

    -- its row can be read, and is that of the listing
    pub row_inside : Inside ys (rows_from p + k) 1
    row_inside = record { within = omega (arith, row_is, r.within, fits_inside raised_list); small = raised_list.remembers.small }

    listed : Element g.rows r.row
    listed = element_within g.rows r.row (omega (arith, r.within, r.walk.list.size))

    judged : (x : Parts) → x ≡ row_in (get_or (cells ys) (rows_from p + k) blank) → JudgedParts listed.element x
    judged x e = subst (JudgedParts listed.element) (ap (λ i. row_in (get_or (cells ys) (rows_from p + i) blank)) (sym row_is) ∙ sym e) (raised_list.rows r.row listed.element listed.is).judged

    its_row : row_at g.rows r.lineage.mem.program_i ≡ Some listed.element
    its_row = ap (row_at g.rows) (sym r.current.state.row) ∙ row_above s.row g.rows (omega (arith, r.at)) ∙ ap (slice_get g.rows) row_is ∙ listed.is

    pub is_ready : Ready p.limit (cells ys) s
    is_ready =
        record {
          current = record {
            room = raised_room;
            scratch = omega (arith, r.current.base, fits_inside raised_list);
            bound = bound_of w;
            large = omega arith;
            fits = omega (arith, r.walk.counts.gas_few);
            state = r.lineage.mem;
            holds = raised_state.map;
          };
          above = omega (arith, r.at);
          below = omega (arith, r.at, r.within, r.walk.list.few);
        }

    some_rows : SomeRows (cells ys) (rows_from p) p.size
    some_rows =
        record { inside = omega (arith, fits_inside raised_list); rows = g.rows; have = raised_list.rows; size = r.walk.list.size }

    -- where it was not handled in place, nothing has changed, and it can be handled
    pub may_handle : (cs : List Cell) → cs ≡ cells ys → Ready p.limit cs s × SomeRows cs (rows_from p) p.size × (s.row < offset + p.size) × (p.limit ≤ 65535)
    may_handle cs same = (
      subst (λ l. Ready p.limit l s) (sym same) is_ready,
      subst (λ l. SomeRows l (rows_from p) p.size) (sym same) some_rows,
      omega (arith, r.at, r.within),
      raised_list.remembers.limited,
    )

    -- ---- and it is handled
    module _ (zs : List ℕ) (low : Bytes zs) (long : length zs ≡ length ys) (x : Parts) (e : x ≡ row_in (get_or (cells ys) (rows_from p + k) blank)) (q : Handled) (again : Bool) (is-again : again ≡ ltb 0 (count_at xs (counts_from p) k)) (gas : 0 < w.gas) (handles : Handles p.limit (rows_from p) p.size (cells ys) (cells zs) blocks s x again q) where
      untouched : (j : ℕ) → rows_from p ≤ j → get_or (cells zs) j blank ≡ get_or (cells ys) j blank
      untouched j le = handles.frame.above j (omega (arith, r.current.base))

      handled_list : HoldsList p g blocks zs cols w r.waiting r.notes.remembered r.notes.space r.notes.counted
      handled_list = list_kept raised_list zs less low long (λ j le lt. untouched j le) (λ j le. untouched j (omega (arith, le)))

      handled_counts : Counted zs p.size (counts_from p) (r.row ∷ r.lineage.past)
      handled_counts =
          counted-kept ys zs p.size (counts_from p) (r.row ∷ r.lineage.past) less low long raised_list.remembers.small (omega (arith, fits_inside raised_list))
          (λ j lt. untouched (counts_from p + j) (omega arith)) raised_counts

      abbrev offer_here : Offer
      offer_here = arm (meaning_of p.limit g.records) g.rows again r.lineage.mem listed.element (operation_of listed.element.op)

      told : TellsHandling p.limit (bound_of (charge_one w)) (cells zs) r.lineage.mem q offer_here
      told =
          subst (λ b. TellsHandling p.limit b (cells zs) r.lineage.mem q offer_here) (omega arith)
          (handles.says g.rows g.records listed.element raised_list.rows r.walk.list.size r.walk.list.records (judged x e) (bound_of w) r.lineage.mem (omega arith) (omega (arith, r.walk.counts.gas_few)) raised_state)

      abbrev notes_then : Notes Defined ResultRow
      notes_then = note_handled (add_row r.row r.lineage) (charge r.notes)

      handled_walk : HoldsWalk p g blocks zs cols (charge_one w) r.waiting notes_then
      handled_walk =
          record {
            list = list_as handled_list (charge_one w) refl (omega arith) (omega (arith, r.walk.counts.gas_few));
            counts = recount refl refl refl refl (charged_walk r.walk gas).counts;
            all = (charged_walk r.walk gas).all;
          }

      pub is_turning : Turning p zs (charge_one w)
      is_turning =
          record {
            walking = record { given = g; blocks = blocks; cols = cols; waiting = r.waiting; notes = notes_then; holds = handled_walk };
            past = r.row ∷ r.lineage.past;
            counted = handled_counts;
            less = omega (arith, r.walk.counts.repeats_few);
          }

      below_them : (t : MemoryState) → Lies p.limit (cells zs) s.map.base t → Below-them p.limit (cells zs) w.branches t
      below_them t lies = record { map = room_map lies.room; most = lies.room.most; below = omega (arith, lies.below, lies.room.most, r.current.base, r.walk.list.first) }

      may_offer : (b : Way) (ms : Option Defined) → TellsWay p.limit (bound_of (charge_one w)) (cells zs) b ms → LiesAt p.limit (cells zs) s.map.base b → MayOffer p zs (charge_one w) b
      may_offer None ms t lies = tt
      may_offer (Some b) ms t lies = record { below = below_them b lies; state = t.state; holds = t.held }

      may : (i : Handling) → TellsHandling p.limit (bound_of (charge_one w)) (cells zs) r.lineage.mem (Ok i) offer_here → LeavesHandling p.limit (cells zs) s (Ok i) → MayFollow p zs cols (charge_one w) i
      may (handling.Ways c b) t lies = may_offer c.branch t.the_branch t.branches lies.0
      may (handling.Three a b c d) t lies = (
        record { below = below_them a lies.0; state = t.first; holds = t.first_held },
        record { below = below_them b lies.1; state = t.second; holds = t.second_held },
        record { below = below_them c lies.2; state = t.third; holds = t.third_held },
      )
      may (handling.Result b from) t lies =
          record {
            offering = record { below = below_them b lies.0; state = next r.lineage.mem; holds = t.held };
            row = t.columns;
            read = t.read;
            narrow = lies.1;
            results = r.notes.counted;
            has = r.walk.list.columns;
          }

      leaves : {h : Handling} → q ≡ Ok h → LeavesHandling p.limit (cells zs) s (Ok h)
      leaves e = subst (LeavesHandling p.limit (cells zs) s) e handles.leaves

      told_ok : {h : Handling} → q ≡ Ok h → TellsHandling p.limit (bound_of (charge_one w)) (cells zs) r.lineage.mem (Ok h) offer_here
      told_ok e = subst (λ i. TellsHandling p.limit (bound_of (charge_one w)) (cells zs) r.lineage.mem i offer_here) e told

      pub may_follow : (h : Handling) → q ≡ Ok h → MayFollow p zs cols (charge_one w) h
      may_follow h e = may h (told_ok e) (leaves e)

      stays : (i : Handling) → LeavesHandling p.limit (cells zs) s (Ok i) → StaysHere p zs i
      stays (handling.Ways c b) lies = subst (λ z. StaysAt p.limit (cells zs) z c.stays) r.current.base lies.1
      stays (handling.Three a b c d) lies = subst (λ z. StaysAt p.limit (cells zs) z (Some d)) r.current.base lies.3
      stays (handling.Result b from) lies = tt

      -- what the definition's turn gives
      turn_is : count r.row r.lineage.past < 3 → the_turn p g f ≡ the_following p g (r.row ∷ r.lineage.past) r.waiting notes_then offer_here
      turn_is few = ap (the_turn p g) r.is ∙ turn_handled p g r.row r.lineage r.waiting r.notes few ∙ ap (the_following p g (r.row ∷ r.lineage.past) r.waiting notes_then) same_offer
        where
          same_offer : ways (meaning_of p.limit g.records) g.rows (handled_before r.row r.lineage.past) r.lineage.mem ≡ offer_here
          same_offer =
              arm_at p g (handled_before r.row r.lineage.past) r.lineage.mem listed.element its_row ∙
              ap (λ b. arm (meaning_of p.limit g.records) g.rows b r.lineage.mem listed.element (operation_of listed.element.op)) (sym (is-again ∙ ap (ltb 0) handled_is))

      pub turn_told : (h : Handling) → q ≡ Ok h → (ts : List ℕ) (dols : Columns 2000) (u : Walk) (t : Result (Option MemoryState) Refusal) → count r.row r.lineage.past < 3 → Follows p zs ts cols dols (charge_one w) u h t → TellsTurn p g blocks ts dols u t (the_turn p g f)
      turn_told h f-ok ts dols u t few follows =
          subst (TellsTurn p g blocks ts dols u t) (sym (turn_is few))
          (follows.says g blocks r.waiting notes_then (r.row ∷ r.lineage.past) r.lineage.mem offer_here handled_walk handled_counts (told_ok f-ok) (stays h (leaves f-ok)))

      pub turn_refused : (dols : Columns 2000) (u : Walk) (k : Refusal) → count r.row r.lineage.past < 3 → q ≡ Err k → TellsTurn p g blocks zs dols u (Err k) (the_turn p g f)
      turn_refused dols u k few e =
          record {
            notes = notes_then;
            is = turn_is few ∙ follow_refused p g (r.row ∷ r.lineage.past) r.waiting notes_then offer_here (number_of k) (subst (λ i. TellsHandling p.limit (bound_of (charge_one w)) (cells zs) r.lineage.mem i offer_here) e told);
          }

-- ---- the turn

module _ {p : Program} {blocks xs : List ℕ} {cols : Columns 2000} {w : Walk} {s : MemoryState} (st : Standing p blocks xs cols w s) where
  pub may_count : Inside xs (home (counts_from p) (s.row - offset)) 1
  may_count = count_inside st.holds

  module _ (v : Walk) (e : v ≡ charge_one w) where
    stopped : (k : Counters) → k ≡ one_loopstop v.counts → with_counts v k ≡ stop_loop (charge_one w)
    stopped k f = ap (with_counts v) f ∙ ap stop_loop e

    pub closed_walking : (k : Counters) → k ≡ one_loopstop v.counts → Walking p xs (with_counts v k)
    closed_walking k f =
        subst (Walking p xs) (sym (stopped k f))
        (record { given = st.given; blocks = blocks; cols = cols; waiting = st.holds.waiting; notes = loop_stop (charge st.holds.notes); holds = closed_walk st.holds.walk st.gas })

    pub turns_closed : (k : Counters) (u : Walk) (ys : List ℕ) (handled : ℕ) (r : Option MemoryState) → handled ≡ count_at xs (counts_from p) (s.row - offset) → 3 ≤ handled → k ≡ one_loopstop v.counts → TakesUp p xs ys (with_counts v k) u r → Turns p blocks xs ys cols cols w u s (Ok r)
    turns_closed k u ys handled r is many f takes =
        record {
          says = λ g fd h.
              record {
                front = take_up (row_of g.rows) h.waiting (loop_stop (charge h.notes));
                is = ap (the_turn p g) h.is ∙ turn_closed p g h.row h.lineage h.waiting h.notes (omega (arith, many, is, handled_is h));
                holds = takes.says g blocks cols h.waiting (loop_stop (charge h.notes))
                    (subst (λ x. HoldsWalk p g blocks xs cols x h.waiting (loop_stop (charge h.notes))) (sym (stopped k f)) (closed_walk h.walk st.gas));
              };
          bytes = takes.bytes;
        }

    module _ (ys zs : List ℕ) (small : Bytes xs) (less : Bytes ys) (low : Bytes zs) (raised : Raised xs ys (counts_from p) (s.row - offset)) (long : length zs ≡ length ys) (x : Parts) (read : x ≡ row_in (get_or (cells ys) (rows_from p + (s.row - offset)) blank)) (q : Handled) (handled : ℕ) (is : handled ≡ count_at xs (counts_from p) (s.row - offset)) (handles : Handles p.limit (rows_from p) p.size (cells ys) (cells zs) blocks s x (ltb 0 handled) q) where
      pub handled_turning : Turning p zs v
      handled_turning = subst (Turning p zs) (sym e) (is_turning st.holds ys small less raised zs low long x read q (ltb 0 handled) (ap (ltb 0) is) st.gas handles)

      pub handled_may : (h : Handling) → q ≡ Ok h → MayFollow p zs cols v h
      handled_may h f-ok = subst (λ y. MayFollow p zs cols y h) (sym e) (may_follow st.holds ys small less raised zs low long x read q (ltb 0 handled) (ap (ltb 0) is) st.gas handles h f-ok)

      pub turns_handled : (h : Handling) → q ≡ Ok h → (ts : List ℕ) (dols : Columns 2000) (u : Walk) (t : Result (Option MemoryState) Refusal) → handled < 3 → Follows p zs ts cols dols v u h t → Turns p blocks xs ts cols dols w u s t
      turns_handled h f-ok ts dols u t few follows =
          record {
            says = λ g fd r. turn_told r ys small less raised zs low long x read q (ltb 0 handled) (ap (ltb 0) is) st.gas handles h f-ok ts dols u t (omega (arith, few, is, handled_is r)) (subst (λ y. Follows p zs ts cols dols y u h t) e follows);
            bytes = follows.bytes ∙ long ∙ raised.bytes;
          }

      pub turns_refused : (k : Refusal) → handled < 3 → q ≡ Err k → Turns p blocks xs zs cols cols w v s (Err k)
      turns_refused k few f =
          record {
            says = λ g fd r. turn_refused r ys small less raised zs low long x read q (ltb 0 handled) (ap (ltb 0) is) st.gas handles cols v k (omega (arith, few, is, handled_is r)) f;
            bytes = long ∙ raised.bytes;
          }

-- ---- a row that is handled in place

-- what is asked for
pub ready_near : {limit : ℕ} {cs : List Cell} {s : MemoryState} (x : Row) → Ready limit cs s → ReadyAt cs s.row s.map.base (s.map.base + s.map.used) x.op x.p1 x.p2 x.p3
ready_near {limit} {s = s} x ready =
    record {
      limit = limit;
      state = s;
      judged = x;
      ready = ready;
      operation = refl;
      operands = record { first = refl; second = refl; third = refl };
      stands = record { on = refl; from = refl; to = refl };
    }

module _ {p : Program} {blocks xs : List ℕ} {cols : Columns 2000} {w : Walk} {s : MemoryState} (st : Standing p blocks xs cols w s) (v : Walk) (e : v ≡ charge_one w) (ys zs : List ℕ) (small : Bytes xs) (less : Bytes ys) (low : Bytes zs) (raised : Raised xs ys (counts_from p) (s.row - offset)) (long : length zs ≡ length ys) (x : Row) (read : parts x ≡ row_in (get_or (cells ys) (rows_from p + (s.row - offset)) blank)) (handled : ℕ) (is : handled ≡ count_at xs (counts_from p) (s.row - offset)) where
  pub turns_in_place : {next : ℕ} {near : Option ℕ} → near ≡ Some next → HandlesNear (cells ys) (cells zs) s.row s.map.base (s.map.base + s.map.used) x.op x.p1 x.p2 x.p3 p.size near → handled < 3 → Turns p blocks xs zs cols cols w v s (Ok (Some (record { map = s.map; row = next })))
  turns_in_place {next} ne near few =
      let n : MemoryState = record { map = s.map; row = next } in
      let h : Handling = handling.Ways (record { branch = None; stays = Some n }) false in
      let handles : Handles p.limit (rows_from p) p.size (cells ys) (cells zs) blocks s (parts x) (ltb 0 handled) (Ok h) =
      near.yes next ne p.limit s x (is_ready st.holds ys small less raised) refl (record { first = refl; second = refl; third = refl }) (record { on = refl; from = refl; to = refl }) (rows_from p) p.size blocks (ltb 0 handled) in
      turns_handled st v e ys zs small less low raised long (parts x) read (Ok h) handled is handles h refl zs cols v (Ok (Some n)) few
      (all_ways p zs cols v v (record { branch = None; stays = Some n }) false zs (Ok (Some n))
      (ways_goes low low (handled_turning st v e ys zs small less low raised long (parts x) read (Ok h) handled is handles).less (way_none p zs v) refl
      (goes_row p zs v (Some n) n refl (listing_in p next (record { above = (near.within next ne).0; below = omega (arith, (near.within next ne).0, (near.within next ne).1) })))))

-- where it was not, nothing has changed, and the row that was read then is this one
pub handles_then : {limit from n : ℕ} {cs es ds : List Cell} {blocks : List ℕ} {s : MemoryState} {again : Bool} {h : Handled} → es ≡ cs → Handles limit from n es ds blocks s (row_on es from s.row) again h → Handles limit from n cs ds blocks s (row_on cs from s.row) again h
handles_then {limit} {from} {n} {ds = ds} {blocks} {s} {again} {h} same handles = subst (λ l. Handles limit from n l ds blocks s (row_on l from s.row) again h) same handles

-- ---- a row that falls through

module _ {p : Program} {blocks xs : List ℕ} {cols : Columns 2000} {w : Walk} {s : MemoryState} (st : Standing p blocks xs cols w s) (v : Walk) (e : v ≡ charge_one w) (ys zs : List ℕ) (small : Bytes xs) (less : Bytes ys) (low : Bytes zs) (raised : Raised xs ys (counts_from p) (s.row - offset)) (long : length zs ≡ length ys) (x : Parts) (read : x ≡ row_in (get_or (cells ys) (rows_from p + (s.row - offset)) blank)) (handled : ℕ) (is : handled ≡ count_at xs (counts_from p) (s.row - offset)) {q : Result MemoryState Refusal} (falls : Falls p.limit (rows_from p) p.size (cells ys) (cells zs) blocks s x q) where
  turning : Turning p zs v
  turning = handled_turning st v e ys zs small less low raised long x read (alone q) handled is (falls.handles (ltb 0 handled))

  pub falling_walking : Walking p zs v
  falling_walking = turning.walking

  pub turns_falling : {next : MemoryState} → q ≡ Ok next → (ts : List ℕ) (u : Walk) (r : Option MemoryState) → handled < 3 → GoesOn p zs ts v u (Some next) r → Turns p blocks xs ts cols cols w u s (Ok r)
  turns_falling {next} f ts u r few on =
      let h : Handling = handling.Ways (record { branch = None; stays = Some next }) false in
      turns_handled st v e ys zs small less low raised long x read (alone q) handled is (falls.handles (ltb 0 handled)) h (ap alone f) ts cols u (Ok r) few
      (all_ways p zs cols v u (record { branch = None; stays = Some next }) false ts (Ok r) (ways_goes low low turning.less (way_none p zs v) refl on))

  pub falling_refused : {k : Refusal} → q ≡ Err k → handled < 3 → Turns p blocks xs zs cols cols w v s (Err k)
  falling_refused {k} f few = turns_refused st v e ys zs small less low raised long x read (alone q) handled is (falls.handles (ltb 0 handled)) k few (ap alone f)

-- ---- a row that names the next one

module _ {p : Program} {blocks xs : List ℕ} {cols : Columns 2000} {w : Walk} {s : MemoryState} (st : Standing p blocks xs cols w s) (v : Walk) (e : v ≡ charge_one w) (ys zs : List ℕ) (small : Bytes xs) (less : Bytes ys) (low : Bytes zs) (raised : Raised xs ys (counts_from p) (s.row - offset)) (long : length zs ≡ length ys) (x : Parts) (read : x ≡ row_in (get_or (cells ys) (rows_from p + (s.row - offset)) blank)) (handled : ℕ) (is : handled ≡ count_at xs (counts_from p) (s.row - offset)) {q : Step} (branches : Branches p.limit (rows_from p) p.size (cells ys) (cells zs) s x (ltb 0 handled) q) where
  abbrev given : Handled
  given = as_handling (repeats x.op (ltb 0 handled)) q

  pub branching_turning : Turning p zs v
  branching_turning = handled_turning st v e ys zs small less low raised long x read given handled is (branches.handles blocks)

  as-given : {ways : Ways} → q ≡ Ok ways → given ≡ Ok (handling.Ways ways (repeats x.op (ltb 0 handled)))
  as-given = ap (as_handling (repeats x.op (ltb 0 handled)))

  pub branching_may : {ways : Ways} → q ≡ Ok ways → MayOffer p zs v ways.branch
  branching_may f = handled_may st v e ys zs small less low raised long x read given handled is (branches.handles blocks) _ (as-given f)

  pub turns_branching : {ways : Ways} {repeat : Bool} → q ≡ Ok ways → repeat ≡ repeats x.op (ltb 0 handled) → (ts : List ℕ) (u : Walk) (r : Result (Option MemoryState) Refusal) → handled < 3 → FollowsWays p zs ts v u ways.branch ways.stays repeat r → Turns p blocks xs ts cols cols w u s r
  turns_branching {ways} f same ts u r few follows =
      turns_handled st v e ys zs small less low raised long x read given handled is (branches.handles blocks) _ (as-given f) ts cols u r few
      (all_ways p zs cols v u ways (repeats x.op (ltb 0 handled)) ts r (subst (λ b. FollowsWays p zs ts v u ways.branch ways.stays b r) same follows))

  pub branching_refused : {k : Refusal} → q ≡ Err k → handled < 3 → Turns p blocks xs zs cols cols w v s (Err k)
  branching_refused {k} f few = turns_refused st v e ys zs small less low raised long x read given handled is (branches.handles blocks) k few (ap (as_handling (repeats x.op (ltb 0 handled))) f)

pub branches_then : {limit from n : ℕ} {cs es ds : List Cell} {s : MemoryState} {again : Bool} {r : Step} → es ≡ cs → Branches limit from n es ds s (row_on es from s.row) again r → Branches limit from n cs ds s (row_on cs from s.row) again r
branches_then {limit} {from} {n} {ds = ds} {s} {again} {r} same branches = subst (λ l. Branches limit from n l ds s (row_on l from s.row) again r) same branches

pub falls_then : {limit from n : ℕ} {cs es ds : List Cell} {blocks : List ℕ} {s : MemoryState} {r : Result MemoryState Refusal} → es ≡ cs → Falls limit from n es ds blocks s (row_on es from s.row) r → Falls limit from n cs ds blocks s (row_on cs from s.row) r
falls_then {limit} {from} {n} {ds = ds} {blocks} {s} {r} same falls = subst (λ l. Falls limit from n l ds blocks s (row_on l from s.row) r) same falls

-- the row that was read is the one that is handled
pub operation-there : {cs es : List Cell} (from at : ℕ) {x : Parts} → es ≡ cs → x ≡ row_on cs from at → x.op ≡ (row_on es from at).op
operation-there from at same read = ap (λ y. y.op) read ∙ sym (ap (λ l. (row_on l from at).op) same)

pub operation-here : {cs es : List Cell} (from at : ℕ) {o : Operation} → o ≡ (row_on es from at).op → es ≡ cs → o ≡ (row_on cs from at).op
operation-here from at is same = is ∙ ap (λ l. (row_on l from at).op) same

pub test-there : {o r : Operation} (test : Operation → Bool) {b : Bool} → o ≡ r → b ≡ test o → b ≡ true → test r ≡ true
test-there test is said holds = sym (ap test is) ∙ sym said ∙ holds

-- bytes, as a specification says it
pub below-256 : (xs : List ℕ) → Bytes xs → (i : ℕ) → get_or xs i 0 < 256
below-256 xs small i = (small i).fits

pub is-byte : (xs : List ℕ) → ((i : ℕ) → get_or xs i 0 < 256) → Bytes xs
is-byte xs small i = record { fits = small i }
