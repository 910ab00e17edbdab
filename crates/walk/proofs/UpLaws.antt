-- The branch that was taken becomes current. Assumes nothing.
use Rattle.state.specs.Steps.{Way}
use mathlib.Core.Path.{◌≡◌, refl, sym, ap, subst, ◌∙◌}
use mathlib.Core.Logic.{inl, inr}
use Rattle.std.specs.Prelude.{Option, None, Some}
use mathlib.Core.Bool.{true, false}
use mathlib.Core.List.{List}
use Prim.Native.Nat.{ℕ, ◌-◌, ◌≤◌}
use native.Mathlib.Omega.{arith}
use Rattle.model.specs.Walk.{Lineage, Notes, onward, on_row, take_up, go_on}
use Rattle.model.specs.State.{MemoryState as Defined}
use Rattle.model.specs.Results.{ResultRow}
use Rattle.model.specs.Explain.{row_of}
use Rattle.area.specs.Cells.{cells}
use Rattle.intmap.specs.Signed.{offset}
use Rattle.state.specs.declared.MemoryState.{MemoryState}
use Rattle.branches.specs.Header.{row_at, used_at}
use Rattle.branches.specs.Lists.{Loads}
use Rattle.branches.specs.Changes.{Loadable}
use Rattle.branches.specs.declared.Layout.{Layout}
use Rattle.branches.proofs.RememberLaws.{Bytes}
use Rattle.branches.proofs.PopLaws.{loadable}
use Rattle.walk.specs.Walks.{counts_from, layout_of, in_listing, Given, bound_of, HoldsFront}
use Rattle.walk.specs.Loop.{Walking, Takes, TakesUp, GoesOn}
use Rattle.walk.specs.declared.Program.{Program}
use Rattle.walk.specs.declared.Walk.{Walk}
use Rattle.walk.proofs.ListLaws.{list_kept, in_listing_lem, outside, stands}

module _ (p : Program) (xs : List ℕ) (w v : Walk) where
  pub none_left : Takes p xs w v None → TakesUp p xs xs w v None
  none_left takes =
      record {
        says = λ g blocks cols ls n h. let t = takes.says g blocks cols ls n h in record { notes = t.notes; is = t.is; walk = t.holds };
        bytes = refl;
      }

  module _ (at : ℕ) (takes : Takes p xs w v (Some at)) (l : Layout) (e : l ≡ layout_of p) where
    -- the state can be loaded
    pub may_load : Walking p xs w → Loadable l.limit l.rows (cells xs) at 0 l.counts
    may_load a =
        let t = takes.says a.given a.blocks a.cols a.waiting a.notes a.holds in
        let h = t.holds.list in
        subst (λ (x : Layout). Loadable x.limit x.rows (cells xs) at 0 x.counts) (sym e)
        (subst (λ q. Loadable p.limit p.size (cells xs) q 0 (counts_from p)) t.place
        (loadable p.limit (bound_of v) p.size xs v.branches h.all h.wait t.one 0 (counts_from p) h.remembers t.among h.few (omega arith) (omega (arith, h.first))))

    -- and is current then
    pub is_current : (ys : List ℕ) (s : MemoryState) → Bytes xs → Bytes ys → Loads l.limit l.rows 0 l.counts at xs ys s → TakesUp p xs ys w v (Some s)
    is_current ys s small less loads_laid =
        record {
          says = λ g blocks cols ls n h.
              let t = takes.says g blocks cols ls n h in
              let k = t.holds.list.remembers.kept t.one t.among in
              let held = loads.says (bound_of v) t.one t.place k in
              let fits : used_at (cells xs) at ≤ p.limit = omega (arith, loads.room.most, ap (λ (x : MemoryState). x.map.used) loads.is) in
              record {
                row = row_at (cells xs) at - offset;
                lineage = record { mem = t.one.mem; past = t.one.past };
                waiting = t.waiting;
                notes = t.notes;
                is = t.is;
                walk = record {
                  list = list_kept t.holds.list ys small less loads.bytes
                      (λ j le lt. loads.outside.same j (inr (omega (arith, fits))) (inl lt))
                      (λ j le. loads.outside.same j (inr (omega (arith, fits))) (inr (omega arith)));
                  counts = t.holds.counts;
                  all = t.holds.all;
                };
                current = record { state = held.0; base = ap (λ (x : MemoryState). x.map.base) loads.is; room = loads.room; past = held.1 };
                at = omega (arith, ap (λ (x : MemoryState). x.row) loads.is, t.above);
                within = t.within;
              };
          bytes = loads.bytes;
        }
      where
        loads : Loads p.limit p.size 0 (counts_from p) at xs ys s
        loads = subst (λ (x : Layout). Loads x.limit x.rows 0 x.counts at xs ys s) e loads_laid

-- the definition's front, by where the state that goes on stands
module _ (g : Given) (ls : List (Lineage Defined)) (n : Notes Defined ResultRow) (past : List ℕ) where
  pub nowhere : (ms : Option Defined) → ms ≡ None → go_on (row_of g.rows) (onward ms past) ls n ≡ take_up (row_of g.rows) ls n
  unfolding go_on
  nowhere ms e = ap (λ o. go_on (row_of g.rows) (onward o past) ls n) e

  off_row : (ms : Option Defined) (m : Defined) → ms ≡ Some m → row_of g.rows m ≡ None → go_on (row_of g.rows) (onward ms past) ls n ≡ take_up (row_of g.rows) ls n
  unfolding go_on
  off_row ms m e f = ap (λ o. go_on (row_of g.rows) (onward o past) ls n) e ∙ rw (f, go_on)

  on_row_lem : (ms : Option Defined) (m : Defined) (row : ℕ) → ms ≡ Some m → row_of g.rows m ≡ Some row → go_on (row_of g.rows) (onward ms past) ls n ≡ on_row row (record { mem = m; past = past }) ls n
  unfolding go_on
  on_row_lem ms m row e f = ap (λ o. go_on (row_of g.rows) (onward o past) ls n) e ∙ rw (f, go_on)

-- the state that goes on
module _ (p : Program) (xs : List ℕ) (w : Walk) (stays : Way) where
  pub goes_nowhere : (ys : List ℕ) (v : Walk) (r : Option MemoryState) → stays ≡ None → TakesUp p xs ys w v r → GoesOn p xs ys w v stays r
  goes_nowhere ys v r e takes =
      subst (λ t. GoesOn p xs ys w v t r) (sym e)
      (record {
        says = λ g blocks cols ls n past ms h is lies counted. subst (HoldsFront p g blocks ys cols v r) (sym (nowhere g ls n past ms is)) (takes.says g blocks cols ls n h);
        bytes = takes.bytes;
      })

  module _ (s : MemoryState) (e : stays ≡ Some s) where
    pub goes_off : (ys : List ℕ) (v : Walk) (r : Option MemoryState) → in_listing s.row p ≡ false → TakesUp p xs ys w v r → GoesOn p xs ys w v stays r
    goes_off ys v r out takes =
        subst (λ t. GoesOn p xs ys w v t r) (sym e)
        (record {
          says = λ g blocks cols ls n past ms h is lies counted.
              subst (HoldsFront p g blocks ys cols v r) (sym (off_row g ls n past ms is.state is.is (outside p g.rows is.state s.row h.list.size is.held.row out)))
              (takes.says g blocks cols ls n h);
          bytes = takes.bytes;
        })

    pub goes_row : in_listing s.row p ≡ true → GoesOn p xs xs w w stays (Some s)
    goes_row in-it =
        subst (λ t. GoesOn p xs xs w w t (Some s)) (sym e)
        (record {
          says = λ g blocks cols ls n past ms h is lies counted.
              let i = in_listing_lem p s.row in-it in
              record {
                row = s.row - offset;
                lineage = record { mem = is.state; past = past };
                waiting = ls;
                notes = n;
                is = on_row_lem g ls n past ms is.state (s.row - offset) is.is (stands g.rows is.state s.row is.held.row i.above (omega (arith, i.below, h.list.size)));
                walk = h;
                current = record { state = is.held; base = lies.0; room = lies.1; past = counted };
                at = omega (arith, i.above);
                within = i.below;
              };
          bytes = refl;
        })
