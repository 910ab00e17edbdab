-- What the functions of the walk's loop say. Each speaks of every walk of the definition that the area and the struct hold; what is asked is
-- that they hold one. A walk w before a call is v after it, and the bytes xs of the area are ys. Assumes nothing.
use Rattle.std.specs.Prelude.{◌≡◌, Bool, List, [], ◌∷◌, ◌++◌, ℕ, ◌-◌, ◌<◌, ◌≤◌, pos, length, get_or, Option, None, Some, Result, Ok, Err}
use Rattle.model.specs.Walk.{done, Lineage, Notes, ◌∈◌, Front as Fronted, none_left, on_row, notes_at, full, onward, gas_stop, note_repeat, take_up, go_on, close_all}
use Rattle.model.specs.State.{ColumnType, MemoryState as Defined}
use Rattle.model.specs.Access.{read_columns}
use Rattle.model.specs.Results.{ResultRow, columns_of}
use Rattle.model.specs.Offer.{Offer}
use Rattle.model.specs.Explain.{row_of}
use Rattle.refusal.specs.declared.Refusal.{Refusal}
use Rattle.refusal.specs.declared.Refusal.TheVariants.{NoSpace}
use Rattle.area.specs.Cells.{cells}
use Rattle.area.specs.Counts.{count, Raised}
use Rattle.intmap.specs.Signed.{offset}
use Rattle.state.specs.Steps.{HoldsState, TellsWay, StaysAt, branch_of, Way}
use Rattle.state.specs.declared.MemoryState.{MemoryState}
use Rattle.state.specs.declared.registers.Registers.{Registers}
use Rattle.merge.specs.Columns.{HasColumns}
use Rattle.branches.specs.Header.{row_at, link_of}
use Rattle.branches.specs.Entries.{Kept, Counted}
use Rattle.branches.specs.Lists.{Below, Offers as Below-them}
use Rattle.counters.specs.Counted.{one_charged}
use Rattle.explain.specs.Handles.{OffersWays, OffersThree, OffersResult, TellsHandling}
use Rattle.merge.specs.declared.columns.Columns.{Columns}
use Rattle.walk.specs.Walks.{counts_from, Given, bound_of, HoldsList, HoldsWalk, HoldsRow, HoldsFront, HoldsEnd, TellsTurn, TellsRun, the_offer, the_following, the_turn, the_run}
use Rattle.explain.specs.declared.Handling.{Handling}
use Rattle.explain.specs.declared.Handling.TheVariants as handling
use Rattle.walk.specs.declared.Program.{Program}
use Rattle.walk.specs.declared.Walk.{Walk}

-- ---- what is asked

pub record Walking (p : Program) (xs : List ℕ) (w : Walk) : Type 0 where
  pub given : Given
  pub blocks : List ℕ
  pub cols : Columns 2000
  pub waiting : List (Lineage Defined)
  pub notes : Notes Defined ResultRow
  pub holds : HoldsWalk p given blocks xs cols w waiting notes

-- between branches, with the counts of the current lineage
pub record Holding (p : Program) (xs : List ℕ) (w : Walk) : Type 0 where
  pub given : Given
  pub blocks : List ℕ
  pub cols : Columns 2000
  pub waiting : List (Lineage Defined)
  pub known : List Defined
  pub space : ℕ
  pub results : List ResultRow
  pub holds : HoldsList p given blocks xs cols w waiting known space results
  pub past : List ℕ
  pub counted : Counted xs p.size (counts_from p) past

-- within a turn, where one row more is charged than repeats are counted
pub record Turning (p : Program) (xs : List ℕ) (w : Walk) : Type 0 where
  pub walking : Walking p xs w
  pub past : List ℕ
  pub counted : Counted xs p.size (counts_from p) past
  pub less : w.counts.repeats < w.counts.charged

-- a state in front of the remembered ones
pub record Offering (p : Program) (xs : List ℕ) (w : Walk) (s : MemoryState) : Type 0 where
  pub below : Below-them p.limit (cells xs) w.branches s
  pub state : Defined
  pub holds : HoldsState p.limit (bound_of w) (cells xs) s state

abbrev pub MayOffer : Program → List ℕ → Walk → Way → Type 0
MayOffer p xs w None = Unit {0}
MayOffer p xs w (Some s) = Offering p xs w s

-- ---- taking up

-- nothing that waits stands on a row
pub record Nothing (p : Program) (g : Given) (blocks xs : List ℕ) (cols : Columns 2000) (w : Walk) (f : Fronted Defined ResultRow) : Type 0 where
  pub notes : Notes Defined ResultRow
  pub is : f ≡ none_left notes
  pub holds : HoldsWalk p g blocks xs cols w [] notes

-- the state at `at` does
pub record OneAt (p : Program) (g : Given) (blocks xs : List ℕ) (cols : Columns 2000) (w : Walk) (at : ℕ) (f : Fronted Defined ResultRow) : Type 0 where
  pub waiting : List (Lineage Defined)
  pub notes : Notes Defined ResultRow
  pub holds : HoldsWalk p g blocks xs cols w waiting notes
  pub one : Kept
  pub among : one ∈ holds.list.all
  pub place : one.at ≡ at
  pub above : offset ≤ row_at (cells xs) at
  pub within : row_at (cells xs) at - offset < p.size
  pub is : f ≡ on_row (row_at (cells xs) at - offset) (record { mem = one.mem; past = one.past }) waiting notes

abbrev pub TellsTaken : Program → Given → List ℕ → List ℕ → Columns 2000 → Walk → Option ℕ → Fronted Defined ResultRow → Type 0
TellsTaken p g blocks xs cols w None f = Nothing p g blocks xs cols w f
TellsTaken p g blocks xs cols w (Some at) f = OneAt p g blocks xs cols w at f

-- fewer wait
abbrev pub Shorter : Walk → Walk → Option ℕ → Type 0
Shorter w v None = Unit {0}
Shorter w v (Some at) = link_of v.branches.last < link_of w.branches.last

-- it is taken from those that wait
pub record Takes (p : Program) (xs : List ℕ) (w v : Walk) (r : Option ℕ) : Type 0 where
  pub says : (g : Given) (blocks : List ℕ) (cols : Columns 2000) (ls : List (Lineage Defined)) (n : Notes Defined ResultRow) → HoldsWalk p g blocks xs cols w ls n → TellsTaken p g blocks xs cols v r (take_up (row_of g.rows) ls n)
  pub less : Shorter w v r

-- and is current
pub record TakesUp (p : Program) (xs ys : List ℕ) (w v : Walk) (r : Option MemoryState) : Type 0 where
  pub says : (g : Given) (blocks : List ℕ) (cols : Columns 2000) (ls : List (Lineage Defined)) (n : Notes Defined ResultRow) → HoldsWalk p g blocks xs cols w ls n → HoldsFront p g blocks ys cols v r (take_up (row_of g.rows) ls n)
  pub bytes : length ys ≡ length xs

-- the state that goes on is current, if it stands on a row
pub record GoesOn (p : Program) (xs ys : List ℕ) (w v : Walk) (stays : Way) (r : Option MemoryState) : Type 0 where
  pub says :
      (g : Given) (blocks : List ℕ) (cols : Columns 2000) (ls : List (Lineage Defined)) (n : Notes Defined ResultRow) (past : List ℕ) (ms : Option Defined) →
      HoldsWalk p g blocks xs cols w ls n →
      TellsWay p.limit (bound_of w) (cells xs) stays ms →
      StaysAt p.limit (cells xs) 0 stays →
      Counted xs p.size (counts_from p) past →
      HoldsFront p g blocks ys cols v r (go_on (row_of g.rows) (onward ms past) ls n)
  pub bytes : length ys ≡ length xs

-- ---- a branch offered

-- what is in the area then, and what is left to offer gives what all did
pub record Offers (p : Program) (g : Given) (blocks ys : List ℕ) (cols : Columns 2000) (w : Walk) (past : List ℕ) (ms : List Defined) (ls : List (Lineage Defined)) (remembered : List Defined) (space : ℕ) (counted : List ResultRow) : Type 0 where
  pub waiting : List (Lineage Defined)
  pub known : List Defined
  pub left : ℕ
  pub same : (more : List Defined) → the_offer p g past (ms ++ more) ls remembered space ≡ the_offer p g past more waiting known left
  pub holds : HoldsList p g blocks ys cols w waiting known left counted

-- the counts are the same
pub record SameCounts (w v : Walk) : Type 0 where
  pub gas : v.gas ≡ w.gas
  pub charged : v.counts.charged ≡ w.counts.charged
  pub loopstops : v.counts.loopstops ≡ w.counts.loopstops
  pub gasstops : v.counts.gasstops ≡ w.counts.gasstops
  pub repeats : v.counts.repeats ≡ w.counts.repeats

abbrev pub TellsOffers : Program → Given → List ℕ → List ℕ → Columns 2000 → Walk → Walk → Result (Unit {0}) Refusal → List ℕ → List Defined → List (Lineage Defined) → List Defined → ℕ → List ResultRow → Type 0
TellsOffers p g blocks ys cols w v (Err e) past ms ls remembered space counted = (e ≡ NoSpace) × ((more : List Defined) → the_offer p g past (ms ++ more) ls remembered space ≡ full)
TellsOffers p g blocks ys cols w v (Ok u) past ms ls remembered space counted = Offers p g blocks ys cols v past ms ls remembered space counted × SameCounts w v

pub record AddsBranch (p : Program) (xs ys : List ℕ) (w v : Walk) (s : MemoryState) (r : Result (Unit {0}) Refusal) : Type 0 where
  pub says :
      (g : Given) (blocks : List ℕ) (cols : Columns 2000) (ls : List (Lineage Defined)) (remembered : List Defined) (space : ℕ) (counted : List ResultRow) (past : List ℕ) (m : Defined) →
      HoldsList p g blocks xs cols w ls remembered space counted →
      HoldsState p.limit (bound_of w) (cells xs) s m →
      Counted xs p.size (counts_from p) past →
      TellsOffers p g blocks ys cols w v r past (m ∷ []) ls remembered space counted
  pub below : Below (cells xs) (cells ys) w.branches.first
  pub bytes : length ys ≡ length xs

-- at most one
pub record AddsWay (p : Program) (xs ys : List ℕ) (w v : Walk) (branch : Way) (r : Result (Unit {0}) Refusal) : Type 0 where
  pub says :
      (g : Given) (blocks : List ℕ) (cols : Columns 2000) (ls : List (Lineage Defined)) (remembered : List Defined) (space : ℕ) (counted : List ResultRow) (past : List ℕ) (ms : Option Defined) →
      HoldsList p g blocks xs cols w ls remembered space counted →
      TellsWay p.limit (bound_of w) (cells xs) branch ms →
      Counted xs p.size (counts_from p) past →
      TellsOffers p g blocks ys cols w v r past (branch_of ms) ls remembered space counted
  pub below : Below (cells xs) (cells ys) w.branches.first
  pub bytes : length ys ≡ length xs

-- three of them
pub record AddsThree (p : Program) (xs ys : List ℕ) (w v : Walk) (a b c : MemoryState) (r : Result (Unit {0}) Refusal) : Type 0 where
  pub says :
      (g : Given) (blocks : List ℕ) (cols : Columns 2000) (ls : List (Lineage Defined)) (remembered : List Defined) (space : ℕ) (counted : List ResultRow) (past : List ℕ) (m₁ m₂ m₃ : Defined) →
      HoldsList p g blocks xs cols w ls remembered space counted →
      HoldsState p.limit (bound_of w) (cells xs) a m₁ →
      HoldsState p.limit (bound_of w) (cells xs) b m₂ →
      HoldsState p.limit (bound_of w) (cells xs) c m₃ →
      Counted xs p.size (counts_from p) past →
      TellsOffers p g blocks ys cols w v r past (m₁ ∷ m₂ ∷ m₃ ∷ []) ls remembered space counted
  pub below : Below (cells xs) (cells ys) w.branches.first
  pub bytes : length ys ≡ length xs

-- ---- what follows the handling of a row

abbrev pub note_repeated : Walk → Bool → Walk
note_repeated w b =
    record {
      gas = w.gas;
      counts = record { charged = w.counts.charged; loopstops = w.counts.loopstops; gasstops = w.counts.gasstops; repeats = note_repeat b w.counts.repeats };
      branches = w.branches;
    }

pub record FollowsWays (p : Program) (xs ys : List ℕ) (w v : Walk) (branch stays : Way) (repeat : Bool) (r : Result (Option MemoryState) Refusal) : Type 0 where
  pub says :
      (g : Given) (blocks : List ℕ) (cols : Columns 2000) (ls : List (Lineage Defined)) (n : Notes Defined ResultRow) (past : List ℕ) (o : Offer) →
      HoldsWalk p g blocks xs cols w ls n →
      Counted xs p.size (counts_from p) past →
      OffersWays p.limit (bound_of w) (cells xs) branch stays repeat o →
      StaysAt p.limit (cells xs) 0 stays →
      TellsTurn p g blocks ys cols v r (the_following p g past ls n o)
  pub bytes : length ys ≡ length xs

pub record FollowsThree (p : Program) (xs ys : List ℕ) (w v : Walk) (a b c stays : MemoryState) (r : Result (Option MemoryState) Refusal) : Type 0 where
  pub says :
      (g : Given) (blocks : List ℕ) (cols : Columns 2000) (ls : List (Lineage Defined)) (n : Notes Defined ResultRow) (past : List ℕ) (o : Offer) →
      HoldsWalk p g blocks xs cols w ls n →
      Counted xs p.size (counts_from p) past →
      OffersThree p.limit (bound_of w) (cells xs) a b c stays o →
      StaysAt p.limit (cells xs) 0 (Some stays) →
      TellsTurn p g blocks ys cols v r (the_following p g past ls n o)
  pub bytes : length ys ≡ length xs

-- registers of a state make a result row
pub record Resulting (p : Program) (xs : List ℕ) (cols : Columns 2000) (w : Walk) (branch : MemoryState) (from : Registers) : Type 0 where
  pub offering : Offering p xs w branch
  pub row : List ColumnType
  pub read : read_columns from.count (pos from.first) offering.state ≡ done row
  pub narrow : from.count ≤ 2000
  pub results : List ResultRow
  pub has : HasColumns cols.bytes cols.width (columns_of results)

pub record FollowsResult (p : Program) (xs ys : List ℕ) (cols dols : Columns 2000) (w v : Walk) (branch : MemoryState) (from : Registers) (r : Result (Option MemoryState) Refusal) : Type 0 where
  pub says :
      (g : Given) (blocks : List ℕ) (ls : List (Lineage Defined)) (notes : Notes Defined ResultRow) (past : List ℕ) (m : Defined) (o : Offer) →
      HoldsWalk p g blocks xs cols w ls notes →
      Counted xs p.size (counts_from p) past →
      OffersResult p.limit (bound_of w) (cells xs) m branch from o →
      TellsTurn p g blocks ys dols v r (the_following p g past ls notes o)
  pub bytes : length ys ≡ length xs

-- ---- all of them

abbrev pub MayFollow : Program → List ℕ → Columns 2000 → Walk → Handling → Type 0
MayFollow p xs cols w (handling.Ways ways r) = MayOffer p xs w ways.branch
MayFollow p xs cols w (handling.Three a b c s) = Offering p xs w a × Offering p xs w b × Offering p xs w c
MayFollow p xs cols w (handling.Result b from) = Resulting p xs cols w b from

-- the state that goes on lies where the current one did
abbrev pub StaysHere : Program → List ℕ → Handling → Type 0
StaysHere p xs (handling.Ways ways r) = StaysAt p.limit (cells xs) 0 ways.stays
StaysHere p xs (handling.Three a b c s) = StaysAt p.limit (cells xs) 0 (Some s)
StaysHere p xs (handling.Result b from) = Unit {0}

pub record Follows (p : Program) (xs ys : List ℕ) (cols dols : Columns 2000) (w v : Walk) (h : Handling) (r : Result (Option MemoryState) Refusal) : Type 0 where
  pub says :
      (g : Given) (blocks : List ℕ) (ls : List (Lineage Defined)) (n : Notes Defined ResultRow) (past : List ℕ) (m : Defined) (o : Offer) →
      HoldsWalk p g blocks xs cols w ls n →
      Counted xs p.size (counts_from p) past →
      TellsHandling p.limit (bound_of w) (cells xs) m (Ok h) o →
      StaysHere p xs h →
      TellsTurn p g blocks ys dols v r (the_following p g past ls n o)
  pub bytes : length ys ≡ length xs

-- ---- a turn of the loop, and the run

abbrev pub charge_one : Walk → Walk
charge_one w = record { gas = w.gas - 1; counts = one_charged w.counts; branches = w.branches }

-- a lineage is on a row, with a unit left
pub record Standing (p : Program) (blocks xs : List ℕ) (cols : Columns 2000) (w : Walk) (s : MemoryState) : Type 0 where
  pub given : Given
  pub front : Fronted Defined ResultRow
  pub holds : HoldsRow p given blocks xs cols w s front
  pub gas : 0 < w.gas

pub record Turns (p : Program) (blocks xs ys : List ℕ) (cols dols : Columns 2000) (w v : Walk) (s : MemoryState) (r : Result (Option MemoryState) Refusal) : Type 0 where
  pub says : (g : Given) (f : Fronted Defined ResultRow) → HoldsRow p g blocks xs cols w s f → TellsTurn p g blocks ys dols v r (the_turn p g f)
  pub bytes : length ys ≡ length xs

-- within a turn: the row is charged and its count, which was `handled`, is raised, from the walk w and the area xs to v and ys; and nothing has changed
-- in the area's cells since
pub record Counting (p : Program) (blocks xs ys zs : List ℕ) (cols : Columns 2000) (w v : Walk) (s : MemoryState) (handled : ℕ) : Type 0 where
  pub standing : Standing p blocks xs cols w s
  pub charged : v ≡ charge_one w
  pub small : (i : ℕ) → get_or xs i 0 < 256
  pub less : (i : ℕ) → get_or ys i 0 < 256
  pub raised : Raised xs ys (counts_from p) (s.row - offset)
  pub same : cells zs ≡ cells ys
  pub long : length zs ≡ length ys
  pub was : handled ≡ count xs (counts_from p) (s.row - offset)
  pub few : handled < 3

pub record MayTurn (p : Program) (blocks zs : List ℕ) (cols : Columns 2000) (v : Walk) (s : MemoryState) (handled : ℕ) : Type 0 where
  pub entry : List ℕ
  pub raised : List ℕ
  pub walk : Walk
  pub counting : Counting p blocks entry raised zs cols walk v s handled

-- what is left of the turn makes it the definition's
pub record TurnsOn (p : Program) (blocks zs ts : List ℕ) (cols dols : Columns 2000) (v u : Walk) (s : MemoryState) (handled : ℕ) (r : Result (Option MemoryState) Refusal) : Type 0 where
  pub says : (xs ys : List ℕ) (w : Walk) → Counting p blocks xs ys zs cols w v s handled → Turns p blocks xs ts cols dols w u s r

-- with no unit left, the lineages that wait on a row are closed
pub record Closes (p : Program) (xs : List ℕ) (w v : Walk) : Type 0 where
  pub says : (g : Given) (blocks : List ℕ) (cols : Columns 2000) (ls : List (Lineage Defined)) (n : Notes Defined ResultRow) → HoldsWalk p g blocks xs cols w ls n → HoldsEnd p g blocks xs cols v (close_all (row_of g.rows) ls n)

-- the current one first
pub record ClosesCurrent (p : Program) (xs : List ℕ) (w v : Walk) : Type 0 where
  pub says : (g : Given) (blocks : List ℕ) (cols : Columns 2000) (ls : List (Lineage Defined)) (n : Notes Defined ResultRow) → HoldsWalk p g blocks xs cols w ls n → HoldsEnd p g blocks xs cols v (close_all (row_of g.rows) ls (gas_stop n))

-- a lineage is on a row, and no lineage was closed for want of units
pub record Running (p : Program) (blocks xs : List ℕ) (cols : Columns 2000) (w : Walk) (s : MemoryState) : Type 0 where
  pub given : Given
  pub front : Fronted Defined ResultRow
  pub holds : HoldsRow p given blocks xs cols w s front
  pub unclosed : (notes_at front).gasstops ≡ 0

-- the run is the definition's, with this budget and the units that are left
pub record Runs (p : Program) (blocks xs ys : List ℕ) (cols dols : Columns 2000) (w v : Walk) (s : MemoryState) (budget : ℕ) (r : Result (Option MemoryState) Refusal) : Type 0 where
  pub says : (g : Given) (f : Fronted Defined ResultRow) → HoldsRow p g blocks xs cols w s f → (notes_at f).gasstops ≡ 0 → TellsRun p g blocks ys dols v r (the_run p g budget w.gas f)
  pub bytes : length ys ≡ length xs

abbrev pub KeptIfRefused : Walk → Walk → Result (Option MemoryState) Refusal → Type 0
KeptIfRefused w v r = (e : Refusal) → r ≡ Err e → v ≡ w
