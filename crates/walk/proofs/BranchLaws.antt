-- A branch pushed, as the definition offers it. Assumes nothing.
use mathlib.Core.Path.{◌≡◌, refl, sym, ap, subst, ◌∙◌}
use mathlib.Core.Logic.{◌⊎◌, inl, inr}
use Rattle.std.specs.Prelude.{Result, Ok, Err}
use mathlib.Core.List.{List, [], ◌∷◌}
use Prim.Native.Nat.{ℕ, ◌+◌, ◌-◌, ◌/◌, ◌<◌}
use native.Mathlib.Omega.{arith}
use lib.Dec.{leb}
use lib.ListN.{length, get_or}
use Rattle.model.specs.Walk.{Lineage, Verdict, dropped, kept, no_space, verdict, known, judge, full, offer}
use Rattle.model.specs.Row.{Row as Listed}
use Rattle.model.specs.State.{MemoryState as Defined}
use Rattle.model.specs.Cells.{cells as cells_of}
use Rattle.model.specs.Equality.{eq_state}
use Rattle.model.specs.Results.{ResultRow}
use Rattle.model.specs.Explain.{units}
use Rattle.std.proofs.lemmas.Option.{slice_get_within}
use Rattle.refusal.specs.declared.Refusal.{Refusal}
use Rattle.area.specs.Cells.{blank, cells}
use Rattle.area.specs.declared.Cell.{Cell}
use Rattle.rows.specs.Judged.{HasRow, HaveRows}
use Rattle.state.specs.declared.MemoryState.{MemoryState}
use Rattle.branches.specs.Entries.{Kept, states, lineages, Remembers}
use Rattle.branches.specs.Lists.{Below, units_for, Dropped, Added as Kept-now, Pushes}
use Rattle.branches.specs.declared.BranchList.{BranchList}
use Rattle.branches.specs.declared.Layout.{Layout}
use Rattle.merge.specs.declared.columns.Columns.{Columns}
use Rattle.walk.specs.Walks.{rows_from, counts_from, layout_of, Given, bound_of, HoldsList}
use Rattle.walk.specs.Loop.{Offers, AddsBranch}
use Rattle.walk.specs.declared.Program.{Program}
use Rattle.walk.specs.declared.Walk.{Walk}

-- the walk with other branches
abbrev pub with_branches : Walk → BranchList → Walk
with_branches w b = record { gas = w.gas; counts = w.counts; branches = b }

-- the units that a state takes
units_for_lem : (rows : List Listed) (n : ℕ) (m : Defined) → length rows ≡ n → units_for n m ≡ units rows m
unfolding units
units_for_lem rows n m e = ap (λ k. 2 + cells_of m + (k + 15) / 16) (sym e)

judge_for : (rows : List Listed) (n : ℕ) (m : Defined) (remembered : List Defined) (space : ℕ) → length rows ≡ n → judge eq_state (units rows) m remembered space ≡ judge eq_state (units_for n) m remembered space
unfolding judge
judge_for rows n m remembered space e = ap (λ k. verdict (known eq_state m remembered) (leb k space)) (sym (units_for_lem rows n m e))

-- a branch by its verdict
module _ (units_of : Defined → ℕ) (past : List ℕ) (m : Defined) (more : List Defined) (ls : List (Lineage Defined)) (remembered : List Defined) (space : ℕ) where
  offer_full : judge eq_state units_of m remembered space ≡ no_space → offer eq_state units_of past (m ∷ more) ls remembered space ≡ full
  unfolding offer
  offer_full e = rw (e, offer)

  offer_dropped : judge eq_state units_of m remembered space ≡ dropped → offer eq_state units_of past (m ∷ more) ls remembered space ≡ offer eq_state units_of past more ls remembered space
  unfolding offer
  offer_dropped e = rw (e, offer)

  offer_kept : judge eq_state units_of m remembered space ≡ kept → offer eq_state units_of past (m ∷ more) ls remembered space ≡ offer eq_state units_of past more (record { mem = m; past = past } ∷ ls) (m ∷ remembered) (space - units_of m)
  unfolding offer
  offer_kept e = rw (e, offer)

-- rows that stand in the same cells
pub rows_kept : (cs ds : List Cell) (from : ℕ) (rows : List Listed) → ((i : ℕ) → i < length rows → get_or ds (from + i) blank ≡ get_or cs (from + i) blank) → HaveRows cs from rows → HaveRows ds from rows
rows_kept cs ds from rows same have i x e = subst (HasRow x) (sym (same i (slice_get_within rows i x e))) (have i x e)

-- the list with other branches, where the cells below them are as they were
module _ {p : Program} {g : Given} {blocks xs : List ℕ} {cols : Columns 2000} {w : Walk} {ls : List (Lineage Defined)} {remembered : List Defined} {space : ℕ} {counted : List ResultRow} (h : HoldsList p g blocks xs cols w ls remembered space counted) where
  pub list_with :
      (ys : List ℕ) (b : BranchList) (all wait : List Kept) →
      Below (cells xs) (cells ys) w.branches.first →
      b.first ≡ w.branches.first →
      Remembers p.limit (bound_of w) p.size ys b all wait →
      HoldsList p g blocks ys cols (with_branches w b) (lineages wait) (states all) (length (cells ys) - b.top) counted
  list_with ys b all wait below first remembers =
      record {
        size = h.size;
        few = h.few;
        rows = rows_kept (cells xs) (cells ys) (rows_from p) g.rows (λ i lt. below.same (rows_from p + i) (omega (arith, h.size, h.first))) h.rows;
        records = h.records;
        columns = h.columns;
        all = all;
        wait = wait;
        remembers = remembers;
        first = first ∙ h.first;
        are = refl;
        waits = refl;
        left = refl;
      }

  -- what the definition judges
  judged : (m : Defined) (v : Verdict) → judge eq_state (units_for p.size) m (states h.all) (length (cells xs) - w.branches.top) ≡ v → judge eq_state (units g.rows) m remembered space ≡ v
  judged m v e =
      judge_for g.rows p.size m remembered space h.size ∙
      sym (ap (λ l. judge eq_state (units_for p.size) m l space) h.are) ∙
      sym (ap (judge eq_state (units_for p.size) m (states h.all)) h.left) ∙
      e

-- a branch that is dropped or kept, or has no space
module _ (p : Program) (xs ys : List ℕ) (w : Walk) (c : BranchList) (s : MemoryState) where
  pub adds_branch : (r : Result (Unit {0}) Refusal) → Pushes p.limit p.size (counts_from p) xs ys w.branches c s r → AddsBranch p xs ys w (with_branches w c) s r
  adds_branch (Err e) pushes =
      record {
        says = λ g blocks cols ls remembered space counted past m h held past-counted. (
          pushes.writes.0,
          λ more. offer_full (units g.rows) past m more ls remembered space
              (judged h m no_space (pushes.says (bound_of w) h.all h.wait m past h.remembers held past-counted)),
        );
        below = pushes.below;
        bytes = pushes.bytes;
      }
  adds_branch (Ok u) pushes =
      record {
        says = λ g blocks cols ls remembered space counted past m h held past-counted. (
          told g blocks cols ls remembered space counted past m h
              (pushes.says (bound_of w) h.all h.wait m past h.remembers held past-counted),
          record { gas = refl; charged = refl; loopstops = refl; gasstops = refl; repeats = refl },
        );
        below = pushes.below;
        bytes = pushes.bytes;
      }
    where
      long : length (cells ys) ≡ length (cells xs)
      long = pushes.below.long

      told :
          (g : Given) (blocks : List ℕ) (cols : Columns 2000) (ls : List (Lineage Defined)) (remembered : List Defined) (space : ℕ) (counted : List ResultRow) (past : List ℕ) (m : Defined) →
          (h : HoldsList p g blocks xs cols w ls remembered space counted) →
          ((judge eq_state (units_for p.size) m (states h.all) (length (cells xs) - w.branches.top) ≡ dropped) × Dropped p.limit (bound_of w) p.size ys w.branches c h.all h.wait)
          ⊎ ((judge eq_state (units_for p.size) m (states h.all) (length (cells xs) - w.branches.top) ≡ kept) × Kept-now p.limit (bound_of w) p.size ys w.branches c h.all h.wait m past) →
          Offers p g blocks ys cols (with_branches w c) past (m ∷ []) ls remembered space counted
      told g blocks cols ls remembered space counted past m h (inl (e, d)) =
          record {
            waiting = lineages h.wait;
            known = states h.all;
            left = length (cells ys) - c.top;
            same = λ more. offer_dropped (units g.rows) past m more ls remembered space (judged h m dropped e) ∙
                rw (sym h.waits, sym h.are, sym h.left, d.same, long);
            holds = list_with h ys c h.all h.wait pushes.below (ap (λ x. x.first) d.same) d.remembers;
          }
      told g blocks cols ls remembered space counted past m h (inr (e, k)) =
          record {
            waiting = record { mem = m; past = past } ∷ lineages h.wait;
            known = m ∷ states h.all;
            left = length (cells ys) - c.top;
            same = λ more. offer_kept (units g.rows) past m more ls remembered space (judged h m kept e) ∙
                rw (sym h.waits, sym h.are, left);
            holds = list_with h ys c _ _ pushes.below k.first k.remembers;
          }
        where
          left : space - units g.rows m ≡ length (cells ys) - c.top
          left = omega (arith, h.left, k.top, long, units_for_lem g.rows p.size m h.size)

  -- as the code tells the layout
  pub adds_laid : (l : Layout) → l ≡ layout_of p → (r : Result (Unit {0}) Refusal) → Pushes l.limit l.rows l.counts xs ys w.branches c s r → AddsBranch p xs ys w (with_branches w c) s r
  adds_laid l e r pushes = adds_branch r (subst (λ (x : Layout). Pushes x.limit x.rows x.counts xs ys w.branches c s r) e pushes)
