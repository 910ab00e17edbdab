-- A result row: merged into the columns, and its branch offered. Assumes nothing.
use mathlib.Core.Path.{◌≡◌, refl, ap, ◌∙◌}
use mathlib.Core.Bool.{false}
use Rattle.std.specs.Prelude.{Option, None, Some, Ok, Err}
use mathlib.Core.List.{List, [], ◌∷◌}
use Prim.Native.Nat.{ℕ, ◌+◌}
use native.Mathlib.Omega.{arith}
use lib.IntN.{pos}
use Rattle.model.specs.Walk.{done, Lineage, Notes, note_ways, goes, take_up}
use Rattle.model.specs.State.{ColumnType, MemoryState as Defined}
use Rattle.model.specs.Access.{next, read_columns}
use Rattle.model.specs.Results.{ResultColumn, ResultRow, result_columns, merge, columns_of}
use Rattle.model.specs.Offer.{turns}
use Rattle.model.specs.Explain.{row_of}
use Rattle.refusal.specs.Numbers.{number_of}
use Rattle.refusal.specs.declared.Refusal.{Refusal}
use Rattle.area.specs.Cells.{cells}
use Rattle.state.specs.Steps.{HoldsState}
use Rattle.state.specs.declared.MemoryState.{MemoryState}
use Rattle.state.specs.declared.registers.Registers.{Registers}
use Rattle.merge.specs.Columns.{HasColumns, Merges}
use Rattle.merge.specs.declared.columns.Columns.{Columns}
use Rattle.walk.specs.Walks.{Given, bound_of, HoldsList, Counts}
use Rattle.walk.specs.Loop.{Walking, Holding, Turning, SameCounts, AddsBranch, TakesUp, Resulting, FollowsResult}
use Rattle.walk.specs.declared.Program.{Program}
use Rattle.walk.specs.declared.Walk.{Walk}
use Rattle.walk.proofs.UpLaws.{nowhere}
use Rattle.walk.proofs.FollowLaws.{offers_none, follow_stops, follow_offered}

-- the columns with one row more
has_more : (dols : Columns 2000) (row : ℕ) (columns : List ResultColumn) (counted : List ResultRow) → HasColumns dols.bytes dols.width (merge columns (columns_of counted)) → HasColumns dols.bytes dols.width (columns_of (record { row = row; columns = columns } ∷ counted))
unfolding columns_of
has_more dols row columns counted h = h

module _ (p : Program) (xs : List ℕ) (cols dols : Columns 2000) (w : Walk) (s : MemoryState) (from : Registers) (merges : Merges (cells xs) s.map from cols.bytes dols.bytes cols.width dols.width) where
  -- the list then, of a state that the branch holds
  list_merged :
      {g : Given} {blocks : List ℕ} {ls : List (Lineage Defined)} {remembered : List Defined} {space : ℕ} {counted : List ResultRow} →
      HoldsList p g blocks xs cols w ls remembered space counted →
      (m : Defined) (row : ℕ) (columns : List ColumnType) → HoldsState p.limit (bound_of w) (cells xs) s m → read_columns from.count (pos from.first) m ≡ done columns →
      HoldsList p g blocks xs dols w ls remembered space (record { row = row; columns = result_columns columns } ∷ counted)
  list_merged {g} {blocks} {ls} {remembered} {space} {counted} h m row columns held read =
      record {
        size = h.size;
        few = h.few;
        rows = h.rows;
        records = h.records;
        columns = has_more dols row (result_columns columns) counted (merges.says p.limit (bound_of w) m columns (columns_of counted) held.map read h.columns);
        all = h.all;
        wait = h.wait;
        remembers = h.remembers;
        first = h.first;
        are = h.are;
        waits = h.waits;
        left = h.left;
      }

  -- of some walk, with the columns that there are
  list_here : (t : Turning p xs w) (r : Resulting p xs cols w s from) → HoldsList p t.walking.given t.walking.blocks xs cols w t.walking.waiting t.walking.notes.remembered t.walking.notes.space r.results
  list_here t r =
      let h = t.walking.holds.list in
      record {
        size = h.size;
        few = h.few;
        rows = h.rows;
        records = h.records;
        columns = r.has;
        all = h.all;
        wait = h.wait;
        remembers = h.remembers;
        first = h.first;
        are = h.are;
        waits = h.waits;
        left = h.left;
      }

  -- what is asked of its branch
  pub result_holding : Turning p xs w → Resulting p xs cols w s from → Holding p xs w
  result_holding t r =
      record {
        given = t.walking.given;
        blocks = t.walking.blocks;
        cols = dols;
        waiting = t.walking.waiting;
        known = t.walking.notes.remembered;
        space = t.walking.notes.space;
        results = _;
        holds = list_merged (list_here t r) r.offering.state 0 r.row r.offering.holds r.read;
        past = t.past;
        counted = t.counted;
      }

  -- the counts are the same
  counts_as : {notes : Notes Defined ResultRow} {u : Walk} → Counts w notes → SameCounts w u → (rr : ResultRow) (known : List Defined) (left : ℕ) (branches : List Defined) → Counts u (note_ways (record { branches = branches; stays = None; result = Some rr; repeat = false }) known left notes)
  counts_as {notes} {u} c same rr known left branches =
      record {
        charged = same.charged ∙ c.charged;
        loopstops = same.loopstops ∙ c.loopstops;
        gasstops = same.gasstops ∙ c.gasstops;
        repeats = same.repeats ∙ c.repeats;
        gas_few = omega (arith, same.charged, same.gas, c.gas_few);
        loopstops_few = omega (arith, same.charged, same.loopstops, c.loopstops_few);
        repeats_few = omega (arith, same.charged, same.repeats, c.repeats_few);
      }

  all_as : {u : Walk} {units : ℕ} → SameCounts w u → w.counts.charged + w.gas ≡ units → u.counts.charged + u.gas ≡ units
  all_as same a = omega (arith, same.charged, same.gas, a)

  -- the same notes with other result rows
  abbrev counting : List ResultRow → Notes Defined ResultRow → Notes Defined ResultRow
  counting rs notes =
      record {
        charged = notes.charged;
        loopstops = notes.loopstops;
        gasstops = notes.gasstops;
        repeats = notes.repeats;
        counted = rs;
        handled = notes.handled;
        taken = notes.taken;
        remembered = notes.remembered;
        space = notes.space;
      }

  counting_counts : (rs : List ResultRow) {notes : Notes Defined ResultRow} → Counts w notes → Counts w (counting rs notes)
  counting_counts rs c =
      record {
        charged = c.charged;
        loopstops = c.loopstops;
        gasstops = c.gasstops;
        repeats = c.repeats;
        gas_few = c.gas_few;
        loopstops_few = c.loopstops_few;
        repeats_few = c.repeats_few;
      }

  module _ (ys : List ℕ) (u : Walk) where
    pub result_refused : (r : Refusal) → AddsBranch p xs ys w u s (Err r) → FollowsResult p xs ys cols dols w u s from (Err r)
    result_refused r adds =
        record {
          says = λ g blocks ls notes past m o h counted offers.
              let t = adds.says g blocks dols ls notes.remembered notes.space _ past (next m)
              (list_merged h.list (next m) (turns m.program_i) offers.columns offers.held offers.read) offers.held counted in
              record { notes = notes; is = follow_stops p g past ls notes o _ offers.answer r (ap number_of t.0) (t.1 []) };
          bytes = adds.bytes;
        }

    module _ (adds : AddsBranch p xs ys w u s (Ok tt)) where
      pub result_walking : Turning p xs w → Resulting p xs cols w s from → Walking p ys u
      result_walking t r =
          let h = t.walking.holds in
          let d = adds.says t.walking.given t.walking.blocks dols t.walking.waiting t.walking.notes.remembered t.walking.notes.space _ t.past r.offering.state
          (list_merged (list_here t r) r.offering.state 0 r.row r.offering.holds r.read) r.offering.holds t.counted in
          record {
            given = t.walking.given;
            blocks = t.walking.blocks;
            cols = dols;
            waiting = d.0.waiting;
            notes = note_ways (record { branches = []; stays = None; result = Some (record { row = 0; columns = result_columns r.row }); repeat = false }) d.0.known d.0.left (counting r.results t.walking.notes);
            holds = record { list = d.0.holds; counts = counts_as (counting_counts r.results h.counts) d.1 _ d.0.known d.0.left []; all = all_as d.1 h.all };
          }

      pub result_goes : (zs : List ℕ) (z : Walk) (r : Option MemoryState) → TakesUp p ys zs u z r → FollowsResult p xs zs cols dols w z s from (Ok r)
      result_goes zs z r takes =
          record {
            says = λ g blocks ls notes past m o h counted offers.
                let d = adds.says g blocks dols ls notes.remembered notes.space _ past (next m)
                (list_merged h.list (next m) (turns m.program_i) offers.columns offers.held offers.read) offers.held counted in
                let of = d.0 in
                let rr : ResultRow = record { row = turns m.program_i; columns = result_columns offers.columns } in
                let after : Notes Defined ResultRow = note_ways (record { branches = next m ∷ []; stays = None; result = Some rr; repeat = false }) of.known of.left notes in
                record {
                  front = take_up (row_of g.rows) of.waiting after;
                  is = follow_offered p g past ls notes o _ offers.answer of.waiting of.known of.left (of.same [] ∙ offers_none p g past of.waiting of.known of.left) ∙
                      ap goes (nowhere g of.waiting after past None refl);
                  holds = takes.says g blocks dols of.waiting after (record { list = of.holds; counts = counts_as h.counts d.1 rr of.known of.left (next m ∷ []); all = all_as d.1 h.all });
                };
            bytes = takes.bytes ∙ adds.bytes;
          }
