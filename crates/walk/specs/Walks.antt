-- When the area and a small struct hold a walk between rows: the listing's rows, the columns so far, the remembered states and those that wait, the
-- counts, and the current lineage. In cells: the current state from 0 on, as much for a branch or a value on its way, the rows, the
-- current lineage's handled counts, and from `first_from` on the remembered states. What each part of the loop says of the definition's walk.
-- Assumes nothing.
use Rattle.std.specs.Prelude.{◌≡◌, Bool, ◌&&◌, List, [], ℕ, ◌+◌, ◌-◌, ◌<◌, ◌≤◌, leb, ltb, length, Option, None, Some, Result, Ok, Err}
use Rattle.model.specs.Walk.{Lineage, Notes, refused_with, answered, Turn as Turned, over, goes, Progress as Progressed, paused, ended, Offered, offer, follow_ways, turn, run}
use Rattle.model.specs.Walk.{Front as Fronted, none_left, on_row}
use Rattle.model.specs.Row.{Row as Listed}
use Rattle.model.specs.State.{MemoryState as Defined}
use Rattle.model.specs.Equality.{eq_state}
use Rattle.model.specs.Catalogue.{CatalogueRecord}
use Rattle.refusal.specs.Numbers.{number_of}
use Rattle.refusal.specs.declared.Refusal.{Refusal}
use Rattle.root_block.specs.Blocks.{HasBlocks}
use Rattle.model.specs.Results.{ResultRow, columns_of}
use Rattle.model.specs.Offer.{Offer}
use Rattle.model.specs.Explain.{ways, row_of, units}
use Rattle.area.specs.Cells.{cells}
use Rattle.intmap.specs.Map.{HasRoom}
use Rattle.intmap.specs.Signed.{offset}
use Rattle.rows.specs.Judged.{HaveRows}
use Rattle.state.specs.Leads.{operands}
use Rattle.state.specs.Steps.{HoldsState}
use Rattle.state.specs.declared.MemoryState.{MemoryState}
use Rattle.branches.specs.Entries.{Kept, states, lineages, Counted, Remembers}
use Rattle.branches.specs.declared.Layout.{Layout}
use Rattle.merge.specs.Columns.{HasColumns}
use Rattle.explain.specs.Handles.{meaning_of}
use Rattle.merge.specs.declared.columns.Columns.{Columns}
use Rattle.walk.specs.declared.Program.{Program}
use Rattle.walk.specs.declared.Walk.{Walk}

-- where the rows, the current counts and the remembered states begin
abbrev pub rows_from : Program → ℕ
rows_from p = p.limit + p.limit

abbrev pub counts_from : Program → ℕ
counts_from p = p.limit + p.limit + p.size

abbrev pub first_from : Program → ℕ
first_from p = p.limit + p.limit + p.size + p.size

-- what the remembered states are told of it
abbrev pub layout_of : Program → Layout
layout_of p = record { counts = counts_from p; rows = p.size; limit = p.limit }

-- a row's word is that of a row of the listing
unfoldable pub in_listing : ℕ → Program → Bool
in_listing w p = leb offset w && ltb (w - offset) p.size

-- what a walk is over, and the units that it has in all
pub record Given : Type 0 where
  pub rows : List Listed
  pub records : List CatalogueRecord
  pub units : ℕ

-- known numbers grow by at most one with each row that is charged
abbrev pub bound_of : Walk → ℕ
bound_of w = operands + w.counts.charged

-- what is in the area but for the current lineage: these wait and are remembered, with this space left, and these result rows are counted
pub record HoldsList (p : Program) (g : Given) (blocks xs : List ℕ) (cols : Columns 2000) (w : Walk) (ls : List (Lineage Defined)) (remembered : List Defined) (space : ℕ) (counted : List ResultRow) : Type 0 where
  pub size : length g.rows ≡ p.size
  pub few : p.size ≤ 2048
  pub rows : HaveRows (cells xs) (rows_from p) g.rows
  pub records : HasBlocks blocks g.records
  pub columns : HasColumns cols.bytes cols.width (columns_of counted)
  pub all : List Kept
  pub wait : List Kept
  pub remembers : Remembers p.limit (bound_of w) p.size xs w.branches all wait
  pub first : w.branches.first ≡ first_from p
  pub are : states all ≡ remembered
  pub waits : lineages wait ≡ ls
  pub left : length (cells xs) - w.branches.top ≡ space

-- the four counts
pub record Counts (w : Walk) (n : Notes Defined ResultRow) : Type 0 where
  pub charged : w.counts.charged ≡ n.charged
  pub loopstops : w.counts.loopstops ≡ n.loopstops
  pub gasstops : w.counts.gasstops ≡ n.gasstops
  pub repeats : w.counts.repeats ≡ n.repeats
  pub gas_few : w.counts.charged + w.gas ≤ 4294967295
  pub loopstops_few : w.counts.loopstops ≤ w.counts.charged
  pub repeats_few : w.counts.repeats ≤ w.counts.charged

pub record HoldsWalk (p : Program) (g : Given) (blocks xs : List ℕ) (cols : Columns 2000) (w : Walk) (ls : List (Lineage Defined)) (n : Notes Defined ResultRow) : Type 0 where
  pub list : HoldsList p g blocks xs cols w ls n.remembered n.space n.counted
  pub counts : Counts w n
  pub all : w.counts.charged + w.gas ≡ g.units

-- the current lineage: a state from cell 0 on, and the counts of its past
pub record HoldsLineage (p : Program) (xs : List ℕ) (w : Walk) (s : MemoryState) (l : Lineage Defined) : Type 0 where
  pub state : HoldsState p.limit (bound_of w) (cells xs) s l.mem
  pub base : s.map.base ≡ 0
  pub room : HasRoom (cells xs) p.limit s.map
  pub past : Counted xs p.size (counts_from p) l.past

-- no lineage is left
pub record HoldsNone (p : Program) (g : Given) (blocks xs : List ℕ) (cols : Columns 2000) (w : Walk) (f : Fronted Defined ResultRow) : Type 0 where
  pub notes : Notes Defined ResultRow
  pub is : f ≡ none_left notes
  pub walk : HoldsWalk p g blocks xs cols w [] notes

-- the current lineage is on a row
pub record HoldsRow (p : Program) (g : Given) (blocks xs : List ℕ) (cols : Columns 2000) (w : Walk) (s : MemoryState) (f : Fronted Defined ResultRow) : Type 0 where
  pub row : ℕ
  pub lineage : Lineage Defined
  pub waiting : List (Lineage Defined)
  pub notes : Notes Defined ResultRow
  pub is : f ≡ on_row row lineage waiting notes
  pub walk : HoldsWalk p g blocks xs cols w waiting notes
  pub current : HoldsLineage p xs w s lineage
  pub at : s.row ≡ offset + row
  pub within : row < p.size

-- either, by the state that is current
abbrev pub HoldsFront : Program → Given → List ℕ → List ℕ → Columns 2000 → Walk → Option MemoryState → Fronted Defined ResultRow → Type 0
HoldsFront p g blocks xs cols w None f = HoldsNone p g blocks xs cols w f
HoldsFront p g blocks xs cols w (Some s) f = HoldsRow p g blocks xs cols w s f

-- the walk is refused, or stands elsewhere
pub record Stopped (k : ℕ) (t : Turned Defined ResultRow) : Type 0 where
  pub notes : Notes Defined ResultRow
  pub is : t ≡ over (refused_with k notes)

pub record Moved (p : Program) (g : Given) (blocks xs : List ℕ) (cols : Columns 2000) (w : Walk) (r : Option MemoryState) (t : Turned Defined ResultRow) : Type 0 where
  pub front : Fronted Defined ResultRow
  pub is : t ≡ goes front
  pub holds : HoldsFront p g blocks xs cols w r front

abbrev pub TellsTurn : Program → Given → List ℕ → List ℕ → Columns 2000 → Walk → Result (Option MemoryState) Refusal → Turned Defined ResultRow → Type 0
TellsTurn p g blocks xs cols w (Err e) t = Stopped (number_of e) t
TellsTurn p g blocks xs cols w (Ok r) t = Moved p g blocks xs cols w r t

-- a run is paused, refused or answered
pub record Paused (p : Program) (g : Given) (blocks xs : List ℕ) (cols : Columns 2000) (w : Walk) (s : MemoryState) (t : Progressed Defined ResultRow) : Type 0 where
  pub front : Fronted Defined ResultRow
  pub is : t ≡ paused w.gas front
  pub holds : HoldsRow p g blocks xs cols w s front

pub record Refused (k : ℕ) (t : Progressed Defined ResultRow) : Type 0 where
  pub notes : Notes Defined ResultRow
  pub is : t ≡ ended (refused_with k notes)

-- its numbers are small enough to be printed
pub record Few (w : Walk) : Type 0 where
  pub charged : w.counts.charged ≤ 4294967295
  pub loopstops : w.counts.loopstops ≤ 4294967295
  pub gasstops : w.counts.gasstops ≤ 4294967295
  pub repeats : w.counts.repeats ≤ 4294967295

-- a walk that has ended: nothing waits, and what is remembered and counted is still held
pub record HoldsEnd (p : Program) (g : Given) (blocks xs : List ℕ) (cols : Columns 2000) (w : Walk) (notes : Notes Defined ResultRow) : Type 0 where
  pub walk : HoldsWalk p g blocks xs cols w [] notes
  pub few : Few w

pub record Answered (p : Program) (g : Given) (blocks xs : List ℕ) (cols : Columns 2000) (w : Walk) (t : Progressed Defined ResultRow) : Type 0 where
  pub notes : Notes Defined ResultRow
  pub is : t ≡ ended (answered notes)
  pub end : HoldsEnd p g blocks xs cols w notes

abbrev pub TellsRun : Program → Given → List ℕ → List ℕ → Columns 2000 → Walk → Result (Option MemoryState) Refusal → Progressed Defined ResultRow → Type 0
TellsRun p g blocks xs cols w (Err e) t = Refused (number_of e) t
TellsRun p g blocks xs cols w (Ok (Some s)) t = Paused p g blocks xs cols w s t
TellsRun p g blocks xs cols w (Ok None) t = Answered p g blocks xs cols w t

-- the definition's walk over what is given
module _ (p : Program) (g : Given) where
  abbrev pub the_offer : List ℕ → List Defined → List (Lineage Defined) → List Defined → ℕ → Offered Defined
  the_offer = offer eq_state (units g.rows)

  abbrev pub the_following : List ℕ → List (Lineage Defined) → Notes Defined ResultRow → Offer → Turned Defined ResultRow
  the_following = follow_ways eq_state (row_of g.rows) (ways (meaning_of p.limit g.records) g.rows) (units g.rows)

  abbrev pub the_turn : Fronted Defined ResultRow → Turned Defined ResultRow
  the_turn = turn eq_state (row_of g.rows) (ways (meaning_of p.limit g.records) g.rows) (units g.rows)

  abbrev pub the_run : ℕ → ℕ → Fronted Defined ResultRow → Progressed Defined ResultRow
  the_run = run eq_state (row_of g.rows) (ways (meaning_of p.limit g.records) g.rows) (units g.rows)
