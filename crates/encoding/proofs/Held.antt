-- What is held: the cells in use are the state's; the same cells elsewhere, as a copy, hold the same state, also with another row or under a
-- larger bound; two held states have equal entries exactly when their maps are equal; and the test of equality on states is the test by row,
-- number of entries and place. Assumes nothing.
use mathlib.Core.Path.{◌≡◌, refl, sym, ap, ◌∙◌}
use mathlib.Core.Logic.{◌↔◌}
use mathlib.Core.Bool.{true, ◌&&◌}
use mathlib.Core.List.{List, flatten}
use Prim.Native.Nat.{ℕ, ◌+◌, ◌≤◌}
use native.Mathlib.Omega.{arith}
use lib.ListN.{length}
use lib.Dec.{eqb}
use lib.IntN.{ℤ}
use borrow.Author.Tests.{eq-eqb, eqb-true}
use Rattle.std.specs.Cmp.Derive.{both_true}
use Rattle.model.specs.State.{MemoryState, fresh}
use Rattle.model.specs.Cells.{cells}
use Rattle.model.specs.Good.{Good}
use Rattle.model.specs.Equality.{eq_int, eq_state}
use Rattle.model.proofs.Same.{int_decides, state_decides}
use Rattle.model.specs.Access.{go_to}
use Rattle.model.proofs.Good.{fresh_good}
use Rattle.model.proofs.Access.{go_to_good}
use Rattle.area.specs.declared.Cell.{Cell}
use Rattle.intmap.specs.Runs.{size, sizes, eq_columns, Agree}
use Rattle.intmap.proofs.RunLaws.{and_left, and_right}
use Rattle.intmap.proofs.SameCells.{size_same, sizes_same}
use Rattle.intmap.specs.Entries.{entries, total, Runs}
use Rattle.intmap.proofs.EntryLaws.{total-sizes, entries-same, entries_few, entries-count}
use Rattle.encoding.specs.Encode.{run_map, runs_of}
use Rattle.intmap.specs.Swap.{swap, lookup}
use Rattle.intmap.specs.Map.{CopiedMap}
use Rattle.intmap.specs.declared.IntMap.{IntMap}
use Rattle.encoding.specs.Holds.{Stands, largest, SmallNumbers, Holds}
use Rattle.intmap.proofs.SignedLaws.{iff}
use Rattle.intmap.proofs.SwapLaws.{cells_of, total-swap}
use Rattle.encoding.proofs.Lengths.{total_runs}
use Rattle.encoding.proofs.Standing.{stand_entries}
use Rattle.encoding.proofs.Injective.{SameMaps, state_told, maps_runs, same_state}
use Rattle.encoding.proofs.Numbers.{numbers_fresh, numbers_go_to, numbers_more}
use Rattle.intmap.proofs.EqualLaws.{eqs_entries, entries_eqs}

module _ (limit bound : ℕ) (cs : List Cell) (base len used : ℕ) (m : MemoryState) (holds : Holds limit bound cs base len used m) where
  pub held_used : used ≡ cells m
  held_used = holds.takes ∙ total-sizes cs 9 len base ∙ ap total holds.runs ∙ total_runs m

  pub held_fits : used ≤ limit
  held_fits = omega (arith, held_used, holds.good.fits)

  pub held_few : len ≤ used
  held_few = omega (arith, entries_few cs 9 len base, holds.takes)

  pub held_stands : Stands cs base (flatten (runs_of m))
  held_stands = stand_entries cs 9 len base (runs_of m) holds.runs

  pub held_elsewhere : (ds : List Cell) (at : ℕ) → Agree cs base ds at used → Holds limit bound ds at len used m
  held_elsewhere ds at same =
      let agree : Agree cs base ds at (sizes (size cs 9) len base) = λ j lt. same j (omega (arith, holds.takes)) in
      record {
        runs = entries-same cs ds 9 len base at agree ∙ holds.runs;
        takes = holds.takes ∙ sym (sizes_same (size cs 9) (size ds 9) cs ds (size_same cs ds 9) len base at agree);
        good = holds.good;
        small = holds.small;
      }

  -- with another row, and under a larger bound
  pub held_go_to : (i : ℤ) → Holds limit bound cs base len used (go_to i m)
  unfolding runs_of
  held_go_to i = record { runs = holds.runs; takes = holds.takes; good = go_to_good holds.good i; small = numbers_go_to bound m holds.small i }

  pub held_more : (more : ℕ) → bound ≤ more → more ≤ largest → Holds limit more cs base len used m
  held_more more le top = record { runs = holds.runs; takes = holds.takes; good = holds.good; small = numbers_more bound more le top m holds.small }

  -- another state, by a change of the entries
  pub held_swapped : (ds : List Cell) (at count kept key : ℕ) (new : Runs) (n : MemoryState) → swap key new (runs_of m) ≡ runs_of n → entries ds 9 count at ≡ swap key new (entries cs 9 len base) → kept ≡ sizes (size ds 9) count at → Good limit n → SmallNumbers bound n → Holds limit bound ds at count kept n
  held_swapped ds at count kept key new n e f s good small = record { runs = f ∙ ap (swap key new) holds.runs ∙ e; takes = s; good = good; small = small }

-- a copy holds the same state
pub held-copied : (limit bound : ℕ) (cs ds : List Cell) (to : ℕ) (a b : IntMap) (m : MemoryState) → CopiedMap cs ds a to b → Holds limit bound cs a.base a.len a.used m → Holds limit bound ds b.base b.len b.used m
held-copied limit bound cs ds to a b m copied holds = record { runs = copied.runs ∙ holds.runs; takes = copied.is.used; good = holds.good; small = holds.small }

-- the fresh start, anywhere
pub held-fresh : (limit bound : ℕ) (cs : List Cell) (base : ℕ) → bound ≤ largest → Holds limit bound cs base 0 0 fresh
unfolding runs_of run_map entries sizes
held-fresh limit bound cs base h = record { runs = refl; takes = refl; good = fresh_good limit; small = numbers_fresh bound h }

-- how many cells a state has after a change
pub cells_swapped : (key : ℕ) (new : Runs) (m n : MemoryState) → swap key new (runs_of m) ≡ runs_of n → cells n + cells_of (lookup key (runs_of m)) ≡ cells m + total new
cells_swapped key new m n e = omega (arith, total-swap key new (runs_of m), ap total e, total_runs m, total_runs n)

-- two held states
module _ (limit bound : ℕ) (m n : MemoryState) where
  pub held_same : (cs ds : List Cell) (base len used at count kept : ℕ) → Holds limit bound cs base len used m → Holds limit bound ds at count kept n → (entries cs 9 len base ≡ entries ds 9 count at) ↔ SameMaps m n
  held_same cs ds base len used at count kept first second = (
    λ e. state_told limit bound m n first.good second.good first.small second.small (sym first.runs ∙ e ∙ second.runs),
    λ s. first.runs ∙ maps_runs m n s ∙ sym second.runs,
  )

  -- with equal rows exactly when the test of equality is true
  pub held_states : (cs ds : List Cell) (base len used at count kept : ℕ) → Holds limit bound cs base len used m → Holds limit bound ds at count kept n → m.program_i ≡ n.program_i → (entries cs 9 len base ≡ entries ds 9 count at) ↔ (eq_state m n ≡ true)
  held_states cs ds base len used at count kept first second row = (
    λ e. ap (eq_state m) (sym (same_state m n row ((held_same cs ds base len used at count kept first second).0 e))) ∙ state_decides.reflexive m,
    λ h. first.runs ∙ ap runs_of (state_decides.sound m n h) ∙ sym second.runs,
  )

  -- in one area
  module _ (cs : List Cell) (base len used at count kept : ℕ) (first : Holds limit bound cs base len used m) (second : Holds limit bound cs at count kept n) where
    same_maps : (entries cs 9 len base ≡ entries cs 9 count at) ↔ SameMaps m n
    same_maps = held_same cs cs base len used at count kept first second

    pub held_compared : len ≡ count → (eq_columns cs 9 len base at ≡ true) ↔ SameMaps m n
    held_compared c =
        let other = ap (λ x. entries cs 9 x at) c in
        (λ h. same_maps.0 (eqs_entries cs 9 len base at h ∙ other), λ s. entries_eqs cs 9 len base at (same_maps.1 s ∙ sym other))

    pub held_equal : eq_state m n ≡ (eq_int m.program_i n.program_i && (eqb len count && eq_columns cs 9 len base at))
    held_equal = iff there back
      where
        there : eq_state m n ≡ true → eq_int m.program_i n.program_i && (eqb len count && eq_columns cs 9 len base at) ≡ true
        there h =
            let e : m ≡ n = state_decides.sound m n h in
            let f : entries cs 9 len base ≡ entries cs 9 count at = first.runs ∙ ap runs_of e ∙ sym second.runs in
            let c : len ≡ count = sym (entries-count cs 9 len base) ∙ ap length f ∙ entries-count cs 9 count at in
            both_true (ap (λ x. eq_int m.program_i x.program_i) (sym e) ∙ int_decides.reflexive m.program_i)
            (both_true (eq-eqb len count c) ((held_compared c).1 (same_maps.0 f)))

        back : eq_int m.program_i n.program_i && (eqb len count && eq_columns cs 9 len base at) ≡ true → eq_state m n ≡ true
        back h =
            let row = int_decides.sound m.program_i n.program_i (and_left (eq_int m.program_i n.program_i) _ h) in
            let g = and_right (eq_int m.program_i n.program_i) _ h in
            let c : len ≡ count = eqb-true len count (and_left (eqb len count) _ g) in
            let e = same_state m n row ((held_compared c).0 (and_right (eqb len count) _ g)) in
            ap (eq_state m) (sym e) ∙ state_decides.reflexive m
