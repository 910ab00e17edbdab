-- Taking up what waits, one after the other: what is still to come gives what the whole gives. Assumes nothing.
use mathlib.Core.Path.{◌≡◌, refl, sym, ap, subst, ◌∙◌}
use mathlib.Core.Logic.{inl}
use mathlib.Core.Bool.{true, false}
use Rattle.std.specs.Prelude.{None, Some}
use mathlib.Core.List.{List, [], ◌∷◌}
use Prim.Native.Nat.{ℕ, ◌-◌, ◌<◌, ◌≤◌}
use native.Mathlib.Omega.{arith}
use lib.ListN.{length}
use Rattle.model.specs.Walk.{◌∈◌, Lineage, Notes, none_left, on_row, note_taken, take_up}
use Rattle.model.specs.State.{MemoryState as Defined}
use Rattle.model.specs.Results.{ResultRow}
use Rattle.model.specs.Explain.{row_of}
use Rattle.area.specs.Cells.{cells, Inside}
use Rattle.intmap.specs.Signed.{offset, int_of}
use Rattle.branches.specs.Header.{row_at, link_of}
use Rattle.branches.specs.Entries.{lineages, Waiting, IsKept}
use Rattle.branches.specs.Lists.{Taken}
use Rattle.branches.specs.declared.BranchList.{BranchList}
use Rattle.merge.specs.declared.columns.Columns.{Columns}
use Rattle.walk.specs.Walks.{in_listing, Given, bound_of, HoldsWalk}
use Rattle.walk.specs.Loop.{Walking, Takes}
use Rattle.branches.specs.Changes.{Latest, PopsAny}
use Rattle.walk.specs.declared.Program.{Program}
use Rattle.walk.specs.declared.Walk.{Walk}
use Rattle.branches.proofs.BlockLaws.{blocks_span}
use Rattle.branches.proofs.PopLaws.{latest}
use Rattle.walk.proofs.BranchLaws.{with_branches}
use Rattle.walk.proofs.ListLaws.{in_listing_lem, outside, stands}

-- of this walk, with what is left of the branches, the front is still the one of the whole
pub record Reached (p : Program) (g : Given) (blocks xs : List ℕ) (cols : Columns 2000) (v : Walk) (ls : List (Lineage Defined)) (n : Notes Defined ResultRow) : Type 0 where
  pub waiting : List (Lineage Defined)
  pub notes : Notes Defined ResultRow
  pub same : take_up (row_of g.rows) ls n ≡ take_up (row_of g.rows) waiting notes
  pub holds : HoldsWalk p g blocks xs cols v waiting notes

pub record Reaching (p : Program) (xs : List ℕ) (w v : Walk) : Type 0 where
  pub says : (g : Given) (blocks : List ℕ) (cols : Columns 2000) (ls : List (Lineage Defined)) (n : Notes Defined ResultRow) → HoldsWalk p g blocks xs cols w ls n → Reached p g blocks xs cols v ls n
  pub few : link_of v.branches.last ≤ link_of w.branches.last

-- a turn of the definition
module _ (g : Given) where
  ended : (n : Notes Defined ResultRow) → take_up (row_of g.rows) [] n ≡ none_left n
  unfolding take_up
  ended n = refl

  passed : (l : Lineage Defined) (ls : List (Lineage Defined)) (n : Notes Defined ResultRow) → row_of g.rows l.mem ≡ None → take_up (row_of g.rows) (l ∷ ls) n ≡ take_up (row_of g.rows) ls (note_taken l.mem n)
  unfolding take_up
  passed l ls n e = rw (e, take_up)

  taken_up_lem : (l : Lineage Defined) (ls : List (Lineage Defined)) (n : Notes Defined ResultRow) (row : ℕ) → row_of g.rows l.mem ≡ Some row → take_up (row_of g.rows) (l ∷ ls) n ≡ on_row row l ls (note_taken l.mem n)
  unfolding take_up
  taken_up_lem l ls n row e = rw (e, take_up)

-- a lineage that was taken is noted, and the area holds the walk without it
module _ {p : Program} {g : Given} {blocks xs : List ℕ} {cols : Columns 2000} {w : Walk} {ls : List (Lineage Defined)} {n : Notes Defined ResultRow} (h : HoldsWalk p g blocks xs cols w ls n) (c : BranchList) (at : ℕ) (t : Taken p.limit (bound_of w) p.size xs h.list.all h.list.wait w.branches c at) where
  abbrev lineage_of : Lineage Defined
  lineage_of = record { mem = t.taken.mem; past = t.taken.past }

  waits_as : ls ≡ lineage_of ∷ lineages t.rest
  waits_as = sym h.list.waits ∙ ap lineages t.is

  abbrev without : HoldsWalk p g blocks xs cols (with_branches w c) (lineages t.rest) (note_taken t.taken.mem n)
  without =
      record {
        list = record {
          size = h.list.size;
          few = h.list.few;
          rows = h.list.rows;
          records = h.list.records;
          columns = h.list.columns;
          all = h.list.all;
          wait = t.rest;
          remembers = t.remembers;
          first = t.first ∙ h.list.first;
          are = h.list.are;
          waits = refl;
          left = ap (λ k. length (cells xs) - k) t.top ∙ h.list.left;
        };
        counts = record {
          charged = h.counts.charged;
          loopstops = h.counts.loopstops;
          gasstops = h.counts.gasstops;
          repeats = h.counts.repeats;
          gas_few = h.counts.gas_few;
          loopstops_few = h.counts.loopstops_few;
          repeats_few = h.counts.repeats_few;
        };
        all = h.all;
      }

  among_all : t.taken ∈ h.list.all
  among_all = h.list.remembers.among t.taken (subst (λ ws. t.taken ∈ ws) (sym t.is) (inl refl))

  is_kept : IsKept p.limit (bound_of w) p.size xs t.taken
  is_kept = h.list.remembers.kept t.taken among_all

  its_row : int_of (row_at (cells xs) at) ≡ t.taken.mem.program_i
  its_row = subst (λ q. int_of (row_at (cells xs) q) ≡ t.taken.mem.program_i) t.at is_kept.holds.row

-- what is asked of the next turn
module _ {p : Program} {xs : List ℕ} {w v : Walk} (r : Reaching p xs w v) where
  now : Walking p xs w → Walking p xs v
  now a =
      let h = r.says a.given a.blocks a.cols a.waiting a.notes a.holds in
      record { given = a.given; blocks = a.blocks; cols = a.cols; waiting = h.waiting; notes = h.notes; holds = h.holds }

  -- that one can be taken
  pub reach_latest : Walking p xs w → Latest xs v.branches
  reach_latest a = let l = (now a).holds.list in latest p.limit (bound_of v) p.size xs v.branches l.all l.wait l.remembers

  -- nothing waits: no lineage is left
  pub reach_end : (c : BranchList) → PopsAny xs v.branches c None → Takes p xs w (with_branches v c) None
  reach_end c pops =
      record {
        says = λ g blocks cols ls n h.
            let a = r.says g blocks cols ls n h in
            let none = (pops.pops p.limit p.size).says (bound_of v) a.holds.list.all a.holds.list.wait a.holds.list.remembers in
            let empty : a.waiting ≡ [] = sym a.holds.list.waits ∙ ap lineages none in
            let same : c ≡ v.branches = (pops.none (subst (Waiting (cells xs) v.branches.last) none a.holds.list.remembers.waiting)).1 in
            record {
              notes = a.notes;
              is = a.same ∙ ap (λ l. take_up (row_of g.rows) l a.notes) empty ∙ ended g a.notes;
              holds = subst (λ b. HoldsWalk p g blocks xs cols (with_branches v b) [] a.notes) (sym same) (subst (λ l. HoldsWalk p g blocks xs cols v l a.notes) empty a.holds);
            };
        less = tt;
      }

  module _ (c : BranchList) (at : ℕ) (pops : PopsAny xs v.branches c (Some at)) where
    -- what was taken, of a walk that is held
    one : {g : Given} {blocks : List ℕ} {cols : Columns 2000} {ls : List (Lineage Defined)} {n : Notes Defined ResultRow} (h : HoldsWalk p g blocks xs cols v ls n) → Taken p.limit (bound_of v) p.size xs h.list.all h.list.wait v.branches c at
    one h = (pops.pops p.limit p.size).says (bound_of v) h.list.all h.list.wait h.list.remembers

    -- it stands on no row
    pub reach_next : Walking p xs w → in_listing (row_at (cells xs) at) p ≡ false → Reaching p xs w (with_branches v c)
    reach_next walking out =
        record {
          says = λ g blocks cols ls n h.
              let a = r.says g blocks cols ls n h in
              let t = one a.holds in
              record {
                waiting = lineages t.rest;
                notes = note_taken t.taken.mem a.notes;
                same = a.same ∙ ap (λ l. take_up (row_of g.rows) l a.notes) (waits_as a.holds c at t) ∙
                    passed g (lineage_of a.holds c at t) (lineages t.rest) a.notes
                    (outside p g.rows t.taken.mem (row_at (cells xs) at) a.holds.list.size (its_row a.holds c at t) out);
                holds = without a.holds c at t;
              };
          few = omega (arith, r.few, (one (now walking).holds).last);
        }

    -- or on one
    pub reach_row : Walking p xs w → in_listing (row_at (cells xs) at) p ≡ true → Takes p xs w (with_branches v c) (Some at)
    reach_row walking in-it =
        record {
          says = λ g blocks cols ls n h.
              let a = r.says g blocks cols ls n h in
              let t = one a.holds in
              let i = in_listing_lem p (row_at (cells xs) at) in-it in
              record {
                waiting = lineages t.rest;
                notes = note_taken t.taken.mem a.notes;
                holds = without a.holds c at t;
                one = t.taken;
                among = among_all a.holds c at t;
                place = t.at;
                above = i.above;
                within = i.below;
                is = a.same ∙ ap (λ l. take_up (row_of g.rows) l a.notes) (waits_as a.holds c at t) ∙
                    taken_up_lem g (lineage_of a.holds c at t) (lineages t.rest) a.notes (row_at (cells xs) at - offset)
                    (stands g.rows t.taken.mem (row_at (cells xs) at) (its_row a.holds c at t) i.above (omega (arith, i.below, a.holds.list.size)));
              };
          less = omega (arith, r.few, (one (now walking).holds).last);
        }

    -- what is asked of the read of its row, and that fewer wait
    module _ (a : Walking p xs w) where
      some_taken : Taken p.limit (bound_of v) p.size xs (now a).holds.list.all (now a).holds.list.wait v.branches c at
      some_taken = one (now a).holds

      pub reach_less : link_of c.last < link_of v.branches.last
      reach_less = some_taken.last

      pub reach_inside : Inside xs at 1
      reach_inside =
          let span = blocks_span (cells xs) p.size v.branches.first v.branches.top (now a).holds.list.all (now a).holds.list.remembers.blocks some_taken.taken (among_all (now a).holds c at some_taken) in
          record { within = omega (arith, span.1, some_taken.at, (now a).holds.list.remembers.inside); small = (now a).holds.list.remembers.small }
