-- The walk's fresh start in the area, and that a run with all the units is the whole walk. Assumes nothing.
use Rattle.refusal.specs.declared.Refusal.{Refusal}
use mathlib.Core.Path.{◌≡◌, refl, sym, ap, subst, ◌∙◌}
use Rattle.std.specs.Prelude.{Option, None, Some, Result, Ok, Err}
use mathlib.Core.List.{List, [], ◌∷◌}
use Prim.Native.Nat.{ℕ, ◌+◌, ◌-◌, ◌<◌}
use native.Mathlib.Omega.{arith}
use lib.IntN.{pos}
use lib.ListN.{length}
use Rattle.model.specs.Walk.{Notes, start_notes, note_taken, Front as Fronted, none_left, on_row, begin, take_up, Walked, answered, Progress as Progressed, paused, ended, walk_on, walk, times}
use Rattle.model.specs.Row.{Row as Listed}
use Rattle.model.specs.State.{MemoryState as Defined, fresh}
use Rattle.model.specs.Equality.{eq_state}
use Rattle.model.specs.Results.{ResultRow, columns_of}
use Rattle.model.specs.Catalogue.{CatalogueRecord}
use Rattle.root_block.specs.Blocks.{HasBlocks}
use Rattle.model.specs.Meaning.{standard}
use Rattle.model.specs.Offer.{row_at}
use Rattle.model.specs.Explain.{row_of, number_at, ways, units, space_of}
use Rattle.model.specs.Run.{walk_listing}
use Rattle.model.proofs.Runs.{run_none, run_all}
use Rattle.area.specs.Cells.{cells}
use Rattle.area.proofs.CellLaws.{length-cells}
use Rattle.intmap.specs.Signed.{offset}
use Rattle.intmap.specs.Map.{empty}
use Rattle.intmap.specs.declared.IntMap.{IntMap}
use Rattle.intmap.proofs.SignedLaws.{int_above}
use Rattle.intmap.proofs.MapLaws.{empty_room}
use Rattle.encoding.proofs.Held.{held-fresh}
use Rattle.rows.specs.Judged.{HaveRows}
use Rattle.state.specs.declared.MemoryState.{MemoryState}
use Rattle.branches.specs.Entries.{none as no_branches}
use Rattle.branches.specs.declared.BranchList.{BranchList}
use Rattle.branches.proofs.RememberLaws.{remembers_none}
use Rattle.counters.specs.declared.Counters.{Counters}
use Rattle.merge.specs.declared.columns.Columns.{Columns}
use Rattle.walk.specs.Walks.{Given, bound_of, HoldsList, HoldsWalk, HoldsRow, the_run, TellsRun}
use Rattle.walk.specs.Loop.{Running, Runs}
use Rattle.walk.specs.declared.Program.{Program}
use Rattle.walk.specs.declared.Walk.{Walk}
use Rattle.walk.proofs.ListLaws.{element_within}
use Rattle.column_kinds.specs.Inner.{Prepared, WalkAnswered, TellsWalk, WalksRows}

same-walk : {w v : Walked Defined ResultRow} → ◌≡◌ {A = Progressed Defined ResultRow} (ended w) (ended v) → w ≡ v
same-walk {w} e = ap (λ x. elim x [ paused gas f ↦ w | ended y ↦ y ]) e

abbrev IsEnded : Progressed Defined ResultRow → Type 0
IsEnded (paused gas f) = ⊥
IsEnded (ended w) = Unit {0}

paused_ended : {w : Walked Defined ResultRow} {gas : ℕ} {f : Fronted Defined ResultRow} → ◌≡◌ {A = Progressed Defined ResultRow} (ended w) (paused gas f) → ⊥
paused_ended e = subst IsEnded e tt

-- the program, the walk and the state that the code begins with
abbrev program_of : ℕ → Program
program_of n = record { limit = 512; size = n }

abbrev walk_of : Counters → BranchList → Walk
walk_of k b = record { gas = 100000; counts = k; branches = b }

abbrev walk_with : BranchList → Walk
walk_with b = walk_of (record { charged = 0; loopstops = 0; gasstops = 0; repeats = 0 }) b

-- counts that are all 0
abbrev None-counted : Counters → Type 0
None-counted k = (k.charged ≡ 0) × ((k.loopstops ≡ 0) × ((k.gasstops ≡ 0) × (k.repeats ≡ 0)))

none_counted : (k : Counters) → None-counted k → record { charged = 0; loopstops = 0; gasstops = 0; repeats = 0 } ≡ k
none_counted k z = λ i. record { charged = sym z.0 i; loopstops = sym z.1.0 i; gasstops = sym z.1.1.0 i; repeats = sym z.1.1.1 i }

abbrev state_with : IntMap → MemoryState
state_with a = record { row = offset; map = a }

abbrev given_of : List Listed → List CatalogueRecord → Given
given_of rows records = record { rows = rows; records = records; units = 100000 }

-- where the fresh start stands
module _ (rows : List Listed) (space : ℕ) where
  start_on : 0 < length rows → row_of rows fresh ≡ Some 0
  unfolding row_of row_at
  start_on lt = let e = element_within rows 0 lt in ap (number_at fresh) e.is

  start_off : length rows ≡ 0 → row_of rows fresh ≡ None
  unfolding row_of row_at
  start_off e = by rows e
    where
      by : (rs : List Listed) → length rs ≡ 0 → number_at fresh (row_at rs (pos 0)) ≡ None
      by [] e = refl
      by (r ∷ rs) e = absurd (omega (arith, e))

  abbrev notes : Notes Defined ResultRow
  notes = note_taken fresh (start_notes space)

  abbrev front_at : Option ℕ → Fronted Defined ResultRow
  front_at o = elim o [ None ↦ take_up (row_of rows) [] notes | Some row ↦ on_row row (record { mem = fresh; past = [] }) [] notes ]

  begins_on : 0 < length rows → begin {R = ResultRow} (row_of rows) fresh space ≡ on_row 0 (record { mem = fresh; past = [] }) [] notes
  unfolding begin take_up
  begins_on lt = ap front_at (start_on lt)

  begins_off : length rows ≡ 0 → begin {R = ResultRow} (row_of rows) fresh space ≡ none_left notes
  unfolding begin take_up
  begins_off e = ap front_at (start_off e)

-- the whole walk
module _ (rows : List Listed) (records : List CatalogueRecord) (area : ℕ) where
  abbrev space : ℕ
  space = space_of (standard records) rows area

  runs-whole : (f : Fronted Defined ResultRow) → begin (row_of rows) fresh space ≡ f → the_run (program_of (length rows)) (given_of rows records) 100000 100000 f ≡ ended (walk_listing (standard records) rows area)
  unfolding walk
  runs-whole f e = run_all eq_state (row_of rows) (ways (standard records) rows) (units rows) 100000 100000 f (omega arith) ∙ ap (λ x. ended (walk_on eq_state (row_of rows) (ways (standard records) rows) (units rows) 100000 x)) (sym e)

module _ {blocks xs : List ℕ} {cols : Columns 2000} {n : ℕ} (q : Prepared blocks xs cols n) (b : BranchList) (is_b : b ≡ no_branches (512 + 512 + n + n)) where
  module _ (rows : List Listed) (records : List CatalogueRecord) (listed : HaveRows (cells xs) 1024 rows) (size : length rows ≡ n) (read : HasBlocks blocks records) where
    space_is : length (cells xs) - (512 + 512 + n + n) ≡ space rows records (length xs)
    unfolding space_of
    space_is = omega (arith, length-cells xs, size)

    abbrev front_is : Fronted Defined ResultRow
    front_is = on_row 0 (record { mem = fresh; past = [] }) [] (notes rows (space rows records (length xs)))

    start_list : HoldsList (program_of n) (given_of rows records) blocks xs cols (walk_with b) [] [] (space rows records (length xs)) []
    unfolding columns_of
    start_list =
        subst (λ x. HoldsList (program_of n) (given_of rows records) blocks xs cols (walk_with x) [] [] (space rows records (length xs)) []) (sym is_b)
        (record {
          size = size;
          few = q.few;
          rows = listed;
          records = read;
          columns = q.columns;
          all = [];
          wait = [];
          remembers = remembers_none 512 (bound_of (walk_with b)) n xs (512 + 512 + n + n) (omega arith) (omega (arith, q.fits)) q.small (omega arith);
          first = refl;
          are = refl;
          waits = refl;
          left = space_is;
        })

    start_walk : HoldsWalk (program_of n) (given_of rows records) blocks xs cols (walk_with b) [] (notes rows (space rows records (length xs)))
    start_walk =
        record {
          list = start_list;
          counts = record { charged = refl; loopstops = refl; gasstops = refl; repeats = refl; gas_few = omega arith; loopstops_few = omega arith; repeats_few = omega arith };
          all = refl;
        }

    -- the fresh start is on the first row
    pub start_row : 0 < n → (a : IntMap) → a ≡ empty 0 → HoldsRow (program_of n) (given_of rows records) blocks xs cols (walk_with b) (state_with a) front_is
    unfolding times
    start_row lt a e =
        subst (λ x. HoldsRow (program_of n) (given_of rows records) blocks xs cols (walk_with b) (state_with x) front_is) (sym e)
        (record {
          row = 0;
          lineage = record { mem = fresh; past = [] };
          waiting = [];
          notes = notes rows (space rows records (length xs));
          is = refl;
          walk = start_walk;
          current = record {
            state = record { row = int_above offset (omega arith); map = held-fresh 512 (bound_of (walk_with b)) (cells xs) 0 (omega arith) };
            base = refl;
            room = empty_room (cells xs) 512 0 (omega (arith, q.fits)) q.small;
            past = q.zero;
          };
          at = refl;
          within = lt;
        })

    -- no row
    pub start_none : n ≡ 0 → TellsWalk cols (Ok (walk_with b)) (walk_listing (standard records) rows (length xs))
    unfolding walk columns_of
    start_none z =
        record {
          notes = notes rows (space rows records (length xs));
          is = none_walk;
          counts = start_walk.counts;
          columns = start_list.columns;
          few = record { charged = omega arith; loopstops = omega arith; gasstops = omega arith; repeats = omega arith };
        }
      where
        none_walk : walk_listing (standard records) rows (length xs) ≡ answered (notes rows (space rows records (length xs)))
        none_walk = same-walk (sym (runs-whole rows records (length xs) (none_left (notes rows (space rows records (length xs)))) (begins_off rows (space rows records (length xs)) (size ∙ z))) ∙ run_none eq_state (row_of rows) (ways (standard records) rows) (units rows) 100000 100000 (notes rows (space rows records (length xs))))

  -- what the run asks, and what follows for the walk
  runs_from : 0 < n → (a : IntMap) → a ≡ empty 0 → Running (program_of n) blocks xs cols (walk_with b) (state_with a)
  runs_from lt a e =
      record {
        given = given_of q.rows q.records;
        front = front_is q.rows q.records q.listed q.size q.has;
        holds = start_row q.rows q.records q.listed q.size q.has lt a e;
        unclosed = refl;
      }

  none_from : n ≡ 0 → WalksRows blocks xs xs cols n (Ok (walk_with b))
  none_from z = record { says = λ rows records listed size read. start_none rows records listed size read z; bytes = refl }

  -- a run with all the units for its budget does not pause
  module _ (lt : 0 < n) (a : IntMap) (e : a ≡ empty 0) (ys : List ℕ) (dols : Columns 2000) (v : Walk) where
    told : (r : Result (Option MemoryState) Refusal) → Runs (program_of n) blocks xs ys cols dols (walk_with b) v (state_with a) 100000 r → (rows : List Listed) (records : List CatalogueRecord) → HaveRows (cells xs) 1024 rows → length rows ≡ n → HasBlocks blocks records → TellsRun (program_of n) (given_of rows records) blocks ys dols v r (ended (walk_listing (standard records) rows (length xs)))
    told r runs rows records listed size read =
        subst (TellsRun (program_of n) (given_of rows records) blocks ys dols v r)
        (ap (λ k. the_run (program_of k) (given_of rows records) 100000 100000 (front_is rows records listed size read)) (sym size) ∙ runs-whole rows records (length xs) (front_is rows records listed size read) (begins_on rows (space rows records (length xs)) (omega (arith, size, lt))))
        (runs.says (given_of rows records) (front_is rows records listed size read) (start_row rows records listed size read lt a e) refl)

    refused_from : (k : Refusal) → Runs (program_of n) blocks xs ys cols dols (walk_with b) v (state_with a) 100000 (Err k) → WalksRows blocks xs ys dols n (Err k)
    refused_from k runs =
        record {
          says = λ rows records listed size read. let t = told (Err k) runs rows records listed size read in record { notes = t.notes; is = same-walk t.is };
          bytes = runs.bytes;
        }

    ended_from : (o : Option MemoryState) → Runs (program_of n) blocks xs ys cols dols (walk_with b) v (state_with a) 100000 (Ok o) → WalksRows blocks xs ys dols n (Ok v)
    ended_from o runs = record { says = λ rows records listed size read. by o rows records (told (Ok o) runs rows records listed size read); bytes = runs.bytes }
      where
        by : (o : Option MemoryState) (rows : List Listed) (records : List CatalogueRecord) → TellsRun (program_of n) (given_of rows records) blocks ys dols v (Ok o) (ended (walk_listing (standard records) rows (length xs))) → WalkAnswered dols v (walk_listing (standard records) rows (length xs))
        by (Some m) rows records t = absurd (paused_ended t.is)
        by None rows records t = record { notes = t.notes; is = same-walk t.is; counts = t.end.walk.counts; columns = t.end.walk.list.columns; few = t.end.few }

-- the same with the counts as the code makes them
module _ {blocks xs : List ℕ} {cols : Columns 2000} {n : ℕ} (q : Prepared blocks xs cols n) (b : BranchList) (is_b : b ≡ no_branches (512 + 512 + n + n)) (k : Counters) (zero : None-counted k) where
  pub walks_none : n ≡ 0 → WalksRows blocks xs xs cols n (Ok (walk_of k b))
  walks_none z = subst (λ (x : Counters). WalksRows blocks xs xs cols n (Ok (walk_of x b))) (none_counted k zero) (none_from q b is_b z)

  module _ (lt : 0 < n) (a : IntMap) (e : a ≡ empty 0) where
    pub may_run : Running (program_of n) blocks xs cols (walk_of k b) (state_with a)
    may_run = subst (λ (x : Counters). Running (program_of n) blocks xs cols (walk_of x b) (state_with a)) (none_counted k zero) (runs_from q b is_b lt a e)

    module _ (ys : List ℕ) (dols : Columns 2000) (v : Walk) where
      run_as : (r : Result (Option MemoryState) Refusal) → Runs (program_of n) blocks xs ys cols dols (walk_of k b) v (state_with a) 100000 r → Runs (program_of n) blocks xs ys cols dols (walk_with b) v (state_with a) 100000 r
      run_as r runs = subst (λ (x : Counters). Runs (program_of n) blocks xs ys cols dols (walk_of x b) v (state_with a) 100000 r) (sym (none_counted k zero)) runs

      pub walks_refused : (i : Refusal) → Runs (program_of n) blocks xs ys cols dols (walk_of k b) v (state_with a) 100000 (Err i) → WalksRows blocks xs ys dols n (Err i)
      walks_refused i runs = refused_from q b is_b lt a e ys dols v i (run_as (Err i) runs)

      pub walks_ended : (o : Option MemoryState) → Runs (program_of n) blocks xs ys cols dols (walk_of k b) v (state_with a) 100000 (Ok o) → WalksRows blocks xs ys dols n (Ok v)
      walks_ended o runs = ended_from q b is_b lt a e ys dols v o (run_as (Ok o) runs)
