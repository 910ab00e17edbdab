-- With no unit left: the branches that wait are taken up one by one, and each that stands on a row is closed. And what a turn notes.
-- Assumes nothing.
use mathlib.Core.Path.{◌≡◌, refl, sym, subst, ◌∙◌}
use Rattle.std.specs.Prelude.{Option, None, Some}
use mathlib.Core.List.{List, [], ◌∷◌}
use Prim.Native.Nat.{ℕ, ◌+◌, ◌<◌, ◌≤◌}
use native.Mathlib.Omega.{arith}
use Rattle.model.specs.Walk.{Lineage, Notes, note_taken, gas_stop, Front as Fronted, none_left, on_row, notes_at, take_up, close_all}
use Rattle.model.specs.State.{MemoryState as Defined}
use Rattle.model.specs.Results.{ResultRow}
use Rattle.model.specs.Explain.{row_of}
use Rattle.merge.specs.declared.columns.Columns.{Columns}
use Rattle.branches.specs.Header.{link_of}
use Rattle.walk.specs.Walks.{Given, HoldsWalk, Few, HoldsEnd}
use Rattle.counters.specs.Counted.{one_gasstop}
use Rattle.counters.specs.declared.Counters.{Counters}
use Rattle.walk.specs.Loop.{Walking, Takes, Closes, ClosesCurrent}
use Rattle.walk.specs.declared.Program.{Program}
use Rattle.walk.specs.declared.Walk.{Walk}
use Rattle.walk.proofs.ListLaws.{list_as, with_counts}

-- closing, by what is taken up
abbrev ClosedAs : Given → Fronted Defined ResultRow → Notes Defined ResultRow → Type 0
ClosedAs g (none_left m) n = n ≡ m
ClosedAs g (on_row row l ls m) n = n ≡ close_all (row_of g.rows) ls (gas_stop m)

closed_as : (g : Given) (ls : List (Lineage Defined)) (n : Notes Defined ResultRow) → ClosedAs g (take_up (row_of g.rows) ls n) (close_all (row_of g.rows) ls n)
unfolding take_up close_all
closed_as g [] n = refl
closed_as g (l ∷ ls) n = go (row_of g.rows l.mem) (closed_as g ls (note_taken l.mem n))
  where
    m : Notes Defined ResultRow
    m = note_taken l.mem n

    go :
        (o : Option ℕ) → ClosedAs g (take_up (row_of g.rows) ls m) (close_all (row_of g.rows) ls m) →
        ClosedAs g (elim o [ None ↦ take_up (row_of g.rows) ls m | Some row ↦ on_row row l ls m ]) (elim o [ None ↦ close_all (row_of g.rows) ls m | Some row ↦ close_all (row_of g.rows) ls (gas_stop m) ])
    go None rest = rest
    go (Some row) rest = refl

-- taking up notes no stop and no charge
pub record SameNotes (n m : Notes Defined ResultRow) : Type 0 where
  pub charged : m.charged ≡ n.charged
  pub gasstops : m.gasstops ≡ n.gasstops

pub up_notes : (g : Given) (ls : List (Lineage Defined)) (n : Notes Defined ResultRow) → SameNotes n (notes_at (take_up (row_of g.rows) ls n))
unfolding take_up
up_notes g [] n = record { charged = refl; gasstops = refl }
up_notes g (l ∷ ls) n = go (row_of g.rows l.mem) (up_notes g ls (note_taken l.mem n))
  where
    m : Notes Defined ResultRow
    m = note_taken l.mem n

    go : (o : Option ℕ) → SameNotes m (notes_at (take_up (row_of g.rows) ls m)) → SameNotes n (notes_at (elim o [ None ↦ take_up (row_of g.rows) ls m | Some row ↦ on_row row l ls m ]))
    go None rest = record { charged = rest.charged; gasstops = rest.gasstops }
    go (Some row) rest = record { charged = refl; gasstops = refl }

taken_notes : (g : Given) (ls : List (Lineage Defined)) (n : Notes Defined ResultRow) (row : ℕ) (l : Lineage Defined) (rest : List (Lineage Defined)) (m : Notes Defined ResultRow) → take_up (row_of g.rows) ls n ≡ on_row row l rest m → m.gasstops ≡ n.gasstops
taken_notes g ls n row l rest m e = subst (λ f. (notes_at f).gasstops ≡ n.gasstops) e (up_notes g ls n).gasstops

none-notes : (g : Given) (ls : List (Lineage Defined)) (n m : Notes Defined ResultRow) → take_up (row_of g.rows) ls n ≡ none_left m → m.gasstops ≡ n.gasstops
none-notes g ls n m e = subst (λ f. (notes_at f).gasstops ≡ n.gasstops) e (up_notes g ls n).gasstops

-- a gas stop more
abbrev pub stop_gas : Walk → Walk
stop_gas w = with_counts w (one_gasstop w.counts)

pub stopped : {p : Program} {g : Given} {blocks xs : List ℕ} {cols : Columns 2000} {w : Walk} {ls : List (Lineage Defined)} {n : Notes Defined ResultRow} → HoldsWalk p g blocks xs cols w ls n → HoldsWalk p g blocks xs cols (stop_gas w) ls (gas_stop n)
stopped {w = w} h =
    record {
      list = list_as h.list (stop_gas w) refl (omega arith) (omega (arith, h.counts.gas_few));
      counts = record {
        charged = h.counts.charged;
        loopstops = h.counts.loopstops;
        gasstops = omega (arith, h.counts.gasstops);
        repeats = h.counts.repeats;
        gas_few = h.counts.gas_few;
        loopstops_few = h.counts.loopstops_few;
        repeats_few = h.counts.repeats_few;
      };
      all = h.all;
    }

-- what is still to be closed gives what the whole gives
pub record ClosedSo (p : Program) (g : Given) (blocks xs : List ℕ) (cols : Columns 2000) (v : Walk) (ls : List (Lineage Defined)) (n : Notes Defined ResultRow) : Type 0 where
  pub waiting : List (Lineage Defined)
  pub notes : Notes Defined ResultRow
  pub same : close_all (row_of g.rows) ls n ≡ close_all (row_of g.rows) waiting notes
  pub holds : HoldsWalk p g blocks xs cols v waiting notes

pub record Closing (p : Program) (xs : List ℕ) (w v : Walk) : Type 0 where
  pub says : (g : Given) (blocks : List ℕ) (cols : Columns 2000) (ls : List (Lineage Defined)) (n : Notes Defined ResultRow) → HoldsWalk p g blocks xs cols w ls n → ClosedSo p g blocks xs cols v ls n
  pub few : v.counts.gasstops + link_of v.branches.last ≤ w.counts.gasstops + link_of w.branches.last

module _ {p : Program} {xs : List ℕ} {w v : Walk} (c : Closing p xs w v) where
  pub closing_walking : Walking p xs w → Walking p xs v
  closing_walking a =
      let h = c.says a.given a.blocks a.cols a.waiting a.notes a.holds in
      record { given = a.given; blocks = a.blocks; cols = a.cols; waiting = h.waiting; notes = h.notes; holds = h.holds }

  -- nothing that waits stands on a row
  pub closing_end : (u : Walk) → Takes p xs v u None → w.counts.gasstops + link_of w.branches.last < 4294967295 → Closes p xs w u
  closing_end u takes lt =
      record {
        says = λ g blocks cols ls n h.
            let a = c.says g blocks cols ls n h in
            let t = takes.says g blocks cols a.waiting a.notes a.holds in
            let is : close_all (row_of g.rows) ls n ≡ t.notes = a.same ∙ subst (λ f. ClosedAs g f (close_all (row_of g.rows) a.waiting a.notes)) t.is (closed_as g a.waiting a.notes) in
            subst (HoldsEnd p g blocks xs cols u) (sym is)
            (record { walk = t.holds; few = few_then t.holds (t.holds.counts.gasstops ∙ none-notes g a.waiting a.notes t.notes t.is ∙ sym a.holds.counts.gasstops) });
      }
    where
      few_then : {g : Given} {blocks : List ℕ} {cols : Columns 2000} {ls : List (Lineage Defined)} {n : Notes Defined ResultRow} → HoldsWalk p g blocks xs cols u ls n → u.counts.gasstops ≡ v.counts.gasstops → Few u
      few_then h same =
          record {
            charged = omega (arith, h.counts.gas_few);
            loopstops = omega (arith, h.counts.gas_few, h.counts.loopstops_few);
            gasstops = omega (arith, same, c.few, lt);
            repeats = omega (arith, h.counts.gas_few, h.counts.repeats_few);
          }

  -- the one at `at` does
  module _ (u : Walk) (at : ℕ) (takes : Takes p xs v u (Some at)) where
    -- no gas stop is counted yet by taking
    taken_stops : Walking p xs w → u.counts.gasstops ≡ v.counts.gasstops
    taken_stops a =
        let b = closing_walking a in
        let t = takes.says b.given b.blocks b.cols b.waiting b.notes b.holds in
        t.holds.counts.gasstops ∙ taken_notes b.given b.waiting b.notes _ _ _ _ t.is ∙ sym b.holds.counts.gasstops

    pub closing_stop : Walking p xs w → w.counts.gasstops + link_of w.branches.last < 4294967295 → u.counts.gasstops + 1 < 18446744073709551616
    closing_stop a lt = omega (arith, taken_stops a, c.few, lt)

    pub closing_next : Walking p xs w → (k : Counters) → k ≡ one_gasstop u.counts → Closing p xs w (with_counts u k)
    closing_next a k f =
        subst (λ x. Closing p xs w (with_counts u x)) (sym f)
        (record {
          says = λ g blocks cols ls n h.
              let b = c.says g blocks cols ls n h in
              let t = takes.says g blocks cols b.waiting b.notes b.holds in
              record {
                waiting = t.waiting;
                notes = gas_stop t.notes;
                same = b.same ∙ subst (λ fr. ClosedAs g fr (close_all (row_of g.rows) b.waiting b.notes)) t.is (closed_as g b.waiting b.notes);
                holds = stopped t.holds;
              };
          few = omega (arith, taken_stops a, c.few, takes.less);
        })

-- ---- the current lineage first

module _ (p : Program) (xs : List ℕ) (w : Walk) (k : Counters) (e : k ≡ one_gasstop w.counts) where
  pub stopped_walking : Walking p xs w → w.counts.gasstops + link_of w.branches.last < 4294967294 → Walking p xs (with_counts w k) × (k.gasstops + link_of w.branches.last < 4294967295)
  stopped_walking a lt =
      subst (λ x. Walking p xs (with_counts w x) × (x.gasstops + link_of w.branches.last < 4294967295)) (sym e)
      (record { given = a.given; blocks = a.blocks; cols = a.cols; waiting = a.waiting; notes = gas_stop a.notes; holds = stopped a.holds }, omega (arith, lt))

  pub closes_current : (v : Walk) → Closes p xs (with_counts w k) v → ClosesCurrent p xs w v
  closes_current v closes =
      record {
        says = λ g blocks cols ls n h. closes.says g blocks cols ls (gas_stop n) (subst (λ x. HoldsWalk p g blocks xs cols (with_counts w x) ls (gas_stop n)) (sym e) (stopped h));
      }
