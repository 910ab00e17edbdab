-- The run: what is still to come from where the walk stands is what the whole run gives. Assumes nothing.
use Rattle.refusal.specs.Numbers.{number_of}
use Rattle.refusal.specs.declared.Refusal.{Refusal}
use mathlib.Core.Path.{◌≡◌, refl, sym, ap, ap₂, subst, ◌∙◌}
use mathlib.Core.Bool.{Bool, true, false}
use Rattle.std.specs.Prelude.{Option, None, Some, Ok, Err, min}
use mathlib.Core.List.{List, ◌∷◌}
use Prim.Native.Nat.{ℕ, zero, suc, ◌+◌, ◌-◌, ◌<◌, ◌≤◌}
use native.Mathlib.Omega.{arith}
use lib.ListN.{length}
use Rattle.model.specs.Walk.{refused, done, Ways, Lineage, Notes, add_row, gas_stop, charge, loop_stop, note_handled, note_ways, onward, Front as Fronted, on_row, notes_at, take_up, go_on, close_all, Offered, full, offered, offer, Turn as Turned, over, goes, after_turn, Walked, refused_with, answered, paused, ended, under_limit, handled_before, settle, close, follow_ways, handle_if, turn, run}
use Rattle.model.specs.State.{MemoryState as Defined}
use Rattle.model.specs.Equality.{eq_state}
use Rattle.model.specs.Results.{ResultRow}
use Rattle.model.specs.Offer.{Offer}
use Rattle.model.specs.Explain.{row_of, ways, units}
use Rattle.model.proofs.LoopLaws.{run_turn}
use Rattle.model.proofs.Runs.{run_none}
use Rattle.area.specs.Cells.{cells}
use Rattle.branches.proofs.BlockLaws.{blocks_span, waiting_low}
use Rattle.state.specs.declared.MemoryState.{MemoryState}
use Rattle.merge.specs.declared.columns.Columns.{Columns}
use Rattle.branches.specs.Header.{link_of}
use Rattle.walk.specs.Walks.{Given, HoldsWalk, HoldsRow, the_following, the_turn, the_run, HoldsNone, Few, Moved}
use Rattle.explain.specs.Handles.{meaning_of}
use Rattle.walk.specs.Loop.{Walking, Standing, Turns, ClosesCurrent, Running, Runs}
use Rattle.walk.specs.declared.Program.{Program}
use Rattle.walk.specs.declared.Walk.{Walk}
use Rattle.walk.proofs.CloseLaws.{SameNotes, up_notes}

-- ---- what a turn notes: one unit more is charged, and no lineage is closed for want of units

record Noted (n m : Notes Defined ResultRow) : Type 0 where
  charged : m.charged ≡ n.charged + 1
  gasstops : m.gasstops ≡ n.gasstops

abbrev NotedTurn : Notes Defined ResultRow → Turned Defined ResultRow → Type 0
NotedTurn n (over w) = Unit {0}
NotedTurn n (goes f) = Noted n (notes_at f)

module _ (p : Program) (g : Given) where
  on_notes : (o : Option (Lineage Defined)) (ls : List (Lineage Defined)) (n : Notes Defined ResultRow) → SameNotes n (notes_at (go_on (row_of g.rows) o ls n))
  unfolding go_on
  on_notes None ls n = up_notes g ls n
  on_notes (Some l) ls n = by (row_of g.rows l.mem)
    where
      by : (k : Option ℕ) → SameNotes n (notes_at (elim k [ None ↦ take_up (row_of g.rows) ls n | Some row ↦ on_row row l ls n ]))
      by None = up_notes g ls n
      by (Some row) = record { charged = refl; gasstops = refl }

  module _ (n : Notes Defined ResultRow) (past : List ℕ) (row : ℕ) (l : Lineage Defined) where
    settle_notes : (w : Ways Defined ResultRow) (o : Offered Defined) → NotedTurn n (settle (row_of g.rows) past w (note_handled (add_row row l) (charge n)) o)
    unfolding settle
    settle_notes w full = tt
    settle_notes w (offered ls known left) =
        let s = on_notes (onward w.stays past) ls (note_ways w known left (note_handled (add_row row l) (charge n))) in
        record { charged = s.charged; gasstops = s.gasstops }

    follow_notes : (ls : List (Lineage Defined)) (o : Offer) → NotedTurn n (the_following p g past ls (note_handled (add_row row l) (charge n)) o)
    unfolding follow_ways
    follow_notes ls (refused k) = tt
    follow_notes ls (done w) = settle_notes w (offer eq_state (units g.rows) past w.branches ls n.remembered n.space)

  handle_notes : (b : Bool) (row : ℕ) (l : Lineage Defined) (ls : List (Lineage Defined)) (n : Notes Defined ResultRow) → NotedTurn n (handle_if eq_state (row_of g.rows) (ways (meaning_of p.limit g.records) g.rows) (units g.rows) b row l ls (charge n))
  unfolding handle_if
  handle_notes false row l ls n = let s = up_notes g ls (loop_stop (charge n)) in record { charged = s.charged; gasstops = s.gasstops }
  handle_notes true row l ls n = follow_notes n (row ∷ l.past) row l ls (ways (meaning_of p.limit g.records) g.rows (handled_before row l.past) l.mem)

  turn_notes : (row : ℕ) (l : Lineage Defined) (ls : List (Lineage Defined)) (n : Notes Defined ResultRow) → NotedTurn n (the_turn p g (on_row row l ls n))
  unfolding turn
  turn_notes row l ls n = handle_notes (under_limit row l.past) row l ls n

  -- ---- the definition's run

  run_over : (budget gas : ℕ) (f : Fronted Defined ResultRow) (w : Walked Defined ResultRow) → 0 < budget → 0 < gas → the_turn p g f ≡ over w → the_run p g budget gas f ≡ ended w
  run_over budget gas f w b c e = (run_turn eq_state (row_of g.rows) (ways (meaning_of p.limit g.records) g.rows) (units g.rows) budget gas b c).is f ∙ ap (after_turn ended (the_run p g (budget - 1) (gas - 1))) e

  run_goes : (budget gas : ℕ) (f next : Fronted Defined ResultRow) → 0 < budget → 0 < gas → the_turn p g f ≡ goes next → the_run p g budget gas f ≡ the_run p g (budget - 1) (gas - 1) next
  run_goes budget gas f next b c e = (run_turn eq_state (row_of g.rows) (ways (meaning_of p.limit g.records) g.rows) (units g.rows) budget gas b c).is f ∙ ap (after_turn ended (the_run p g (budget - 1) (gas - 1))) e

  run_stops : (budget gas : ℕ) (row : ℕ) (l : Lineage Defined) (ls : List (Lineage Defined)) (n : Notes Defined ResultRow) → gas ≡ 0 → the_run p g budget gas (on_row row l ls n) ≡ ended (answered (close_all (row_of g.rows) ls (gas_stop n)))
  unfolding run close
  run_stops budget zero row l ls n e = refl
  run_stops budget (suc gas) row l ls n e = absurd (omega (arith, e))

  run_waits : (budget gas : ℕ) (row : ℕ) (l : Lineage Defined) (ls : List (Lineage Defined)) (n : Notes Defined ResultRow) → budget ≡ 0 → 0 < gas → the_run p g budget gas (on_row row l ls n) ≡ paused gas (on_row row l ls n)
  unfolding run
  run_waits budget zero row l ls n e h = absurd (omega (arith, h))
  run_waits zero (suc gas) row l ls n e h = refl
  run_waits (suc budget) (suc gas) row l ls n e h = absurd (omega (arith, e))

-- ---- where the loop is, after so many turns

pub record Rests (p : Program) (g : Given) (blocks xs : List ℕ) (cols : Columns 2000) (v : Walk) (m : MemoryState) (turns budget gas : ℕ) (f : Fronted Defined ResultRow) : Type 0 where
  pub front : Fronted Defined ResultRow
  pub holds : HoldsRow p g blocks xs cols v m front
  pub same : the_run p g budget gas f ≡ the_run p g (budget - turns) v.gas front
  pub spent : v.gas + turns ≡ gas
  pub stops : (notes_at front).gasstops ≡ 0

pub record RunsTo (p : Program) (blocks xs ys : List ℕ) (cols dols : Columns 2000) (w : Walk) (s : MemoryState) (budget : ℕ) (v : Walk) (m : MemoryState) (turns : ℕ) : Type 0 where
  pub says : (g : Given) (f : Fronted Defined ResultRow) → HoldsRow p g blocks xs cols w s f → (notes_at f).gasstops ≡ 0 → Rests p g blocks ys dols v m turns budget w.gas f
  pub bytes : length ys ≡ length xs

module _ {p : Program} {blocks xs ys : List ℕ} {cols dols : Columns 2000} {w v : Walk} {s m : MemoryState} {budget turns : ℕ} (r : RunsTo p blocks xs ys cols dols w s budget v m turns) where
  module _ (a : Running p blocks xs cols w s) where
    now : Rests p a.given blocks ys dols v m turns budget w.gas a.front
    now = r.says a.given a.front a.holds a.unclosed

    pub runs_gas : turns < min budget w.gas → 0 < v.gas
    runs_gas lt = omega (arith, now.spent)

    pub runs_standing : 0 < v.gas → Standing p blocks ys dols v m
    runs_standing gas = record { given = a.given; front = now.front; holds = now.holds; gas = gas }

    none_stopped : v.counts.gasstops ≡ 0
    none_stopped = now.holds.walk.counts.gasstops ∙ ap (λ f. (notes_at f).gasstops) (sym now.holds.is) ∙ now.stops

    pub may_close : Walking p ys v × (v.counts.gasstops + link_of v.branches.last < 4294967294)
    may_close = (record { given = a.given; blocks = blocks; cols = dols; waiting = now.holds.waiting; notes = now.holds.notes; holds = now.holds.walk }, omega (arith, none_stopped, few))
      where
        h : HoldsWalk p a.given blocks ys dols v now.holds.waiting now.holds.notes
        h = now.holds.walk

        few : link_of v.branches.last < 1048576
        few = let r = h.list.remembers in
            waiting_low (cells ys) v.branches.last 1048576 h.list.wait (omega arith)
            (λ k e. let b = blocks_span (cells ys) p.size v.branches.first v.branches.top h.list.all r.blocks k (r.among k e) in omega (arith, b.1, r.inside, r.small))
            r.waiting

  -- the budget is used up
  pub runs_pause : min budget w.gas ≤ turns → 0 < v.gas → Runs p blocks xs ys cols dols w v s budget (Ok (Some m))
  runs_pause end gas =
      record {
        says = λ g f h z.
            let t = r.says g f h z in
            record {
              front = t.front;
              is = t.same ∙ ap (the_run p g (budget - turns) v.gas) t.holds.is ∙ run_waits p g (budget - turns) v.gas t.holds.row t.holds.lineage t.holds.waiting t.holds.notes (omega (arith, t.spent)) gas ∙ ap (paused v.gas) (sym t.holds.is);
              holds = t.holds;
            };
        bytes = r.bytes;
      }

  -- no unit is left
  pub runs_close : (q : Walk) → v.gas ≡ 0 → ClosesCurrent p ys v q → Runs p blocks xs ys cols dols w q s budget (Ok None)
  runs_close q gas closes =
      record {
        says = λ g f h z.
            let t = r.says g f h z in
            record {
              notes = close_all (row_of g.rows) t.holds.waiting (gas_stop t.holds.notes);
              is = t.same ∙ ap (the_run p g (budget - turns) v.gas) t.holds.is ∙ run_stops p g (budget - turns) v.gas t.holds.row t.holds.lineage t.holds.waiting t.holds.notes gas;
              end = closes.says g blocks dols t.holds.waiting t.holds.notes t.holds.walk;
            };
        bytes = r.bytes;
      }

  -- a turn
  module _ (lt : turns < min budget w.gas) (zs : List ℕ) (eols : Columns 2000) (u : Walk) where
    pub runs_refused : (k : Refusal) → Turns p blocks ys zs dols eols v u m (Err k) → Runs p blocks xs zs cols eols w u s budget (Err k)
    runs_refused k turn =
        record {
          says = λ g f h z.
              let b = r.says g f h z in
              let c = turn.says g b.front b.holds in
              record { notes = c.notes; is = b.same ∙ run_over p g (budget - turns) v.gas b.front (refused_with (number_of k) c.notes) (omega (arith, lt)) (omega (arith, lt, b.spent)) c.is };
          bytes = turn.bytes ∙ r.bytes;
        }

    pub runs_ended : (o : Option MemoryState) → Turns p blocks ys zs dols eols v u m (Ok o) → o ≡ None → Runs p blocks xs zs cols eols w u s budget (Ok None)
    runs_ended o turning is =
        let turn = subst (λ i. Turns p blocks ys zs dols eols v u m (Ok i)) is turning in
        record {
          says = λ g f h z.
              let b = r.says g f h z in
              let c = turn.says g b.front b.holds in
              let n = c.holds in
              record {
                notes = n.notes;
                is = b.same ∙ run_goes p g (budget - turns) v.gas b.front c.front (omega (arith, lt)) (omega (arith, lt, b.spent)) c.is ∙ ap (the_run p g (budget - turns - 1) (v.gas - 1)) n.is ∙ run_none eq_state (row_of g.rows) (ways (meaning_of p.limit g.records) g.rows) (units g.rows) (budget - turns - 1) (v.gas - 1) n.notes;
                end = record { walk = n.walk; few = few_then n (notes_then g b c n) };
              };
          bytes = turn.bytes ∙ r.bytes;
        }
      where
        few_then : {g : Given} {d : Fronted Defined ResultRow} (n : HoldsNone p g blocks zs eols u d) → n.notes.gasstops ≡ 0 → Few u
        few_then n z =
            record {
              charged = omega (arith, n.walk.counts.gas_few);
              loopstops = omega (arith, n.walk.counts.gas_few, n.walk.counts.loopstops_few);
              gasstops = omega (arith, n.walk.counts.gasstops, z);
              repeats = omega (arith, n.walk.counts.gas_few, n.walk.counts.repeats_few);
            }

        notes_then : (g : Given) {f : Fronted Defined ResultRow} (b : Rests p g blocks ys dols v m turns budget w.gas f) (c : Moved p g blocks zs eols u None (the_turn p g b.front)) (n : HoldsNone p g blocks zs eols u c.front) → n.notes.gasstops ≡ 0
        notes_then g b c n =
            let noted = subst (NotedTurn b.holds.notes) (sym (ap (the_turn p g) b.holds.is) ∙ c.is) (turn_notes p g b.holds.row b.holds.lineage b.holds.waiting b.holds.notes) in
            ap (λ x. (notes_at x).gasstops) (sym n.is) ∙ noted.gasstops ∙ ap (λ x. (notes_at x).gasstops) (sym b.holds.is) ∙ b.stops

    pub runs_next : (o : Option MemoryState) → Turns p blocks ys zs dols eols v u m (Ok o) → (n : MemoryState) → o ≡ Some n → RunsTo p blocks xs zs cols eols w s budget u n (turns + 1)
    runs_next o turning n is =
        let turn = subst (λ i. Turns p blocks ys zs dols eols v u m (Ok i)) is turning in
        record {
          says = λ g f h z.
              let b = r.says g f h z in
              let c = turn.says g b.front b.holds in
              let noted = subst (NotedTurn b.holds.notes) (sym (ap (the_turn p g) b.holds.is) ∙ c.is) (turn_notes p g b.holds.row b.holds.lineage b.holds.waiting b.holds.notes) in
              let less : u.gas + 1 ≡ v.gas = less_gas g b.holds c.holds (ap (λ x. (notes_at x).charged) (sym c.holds.is) ∙ noted.charged) in
              record {
                front = c.front;
                holds = c.holds;
                same = b.same ∙ run_goes p g (budget - turns) v.gas b.front c.front (omega (arith, lt)) (omega (arith, lt, b.spent)) c.is ∙ ap₂ (λ k i. the_run p g k i c.front) (omega arith) (omega (arith, less));
                spent = omega (arith, less, b.spent);
                stops = noted.gasstops ∙ ap (λ x. (notes_at x).gasstops) (sym b.holds.is) ∙ b.stops;
              };
          bytes = turn.bytes ∙ r.bytes;
        }
      where
        less_gas : (g : Given) {f d : Fronted Defined ResultRow} (b : HoldsRow p g blocks ys dols v m f) (c : HoldsRow p g blocks zs eols u n d) → c.notes.charged ≡ b.notes.charged + 1 → u.gas + 1 ≡ v.gas
        less_gas g b c e = omega (arith, b.walk.all, c.walk.all, b.walk.counts.charged, c.walk.counts.charged, e)
